use Rattle.std.proofs.Common.{◌∙◌, [], ◌∷◌, ◌++◌, sym, ap, subst, refl}
use Rattle.std.specs.FinMap as map
use Rattle.label_book.specs.inside.Kept.{Kept, labels_of}
use Rattle.label_book.proofs.Added.{labels_alike, put_taken, kept_single, labels_single, unplaced}
use Rattle.label_book.proofs.book.LabelBook.single.Goals as goal

pub invariant_of-self-in-Ok : goal.invariant_of-self-in-Ok
invariant_of-self-in-Ok c =
    let ps = c.self.inside.places in
    let cs = c.self.inside.clusters in
    let new = unplaced ps cs c.args.core (ap (λ m. map.get m c.args.core) c.self.view_is ∙ c.requires) in
    subst (λ m. Kept m c.insert.new.self) (sym c.in-Ok.ensures.ok)
    (kept_single ps cs c.insert.new.self c.self.invariant c.in_ok-cluster.cluster c.args.core _ new c.in_ok-cluster.ensures.was_vacant c.in_ok-cluster.ensures.updates
    (c.in_ok-push.ensures.ok ∙ ap (λ xs. xs ++ c.args.core ∷ []) c.new-members.ensures) refl)

pub returns-in-Ok-clause-ok : goal.returns-in-Ok-clause-ok
returns-in-Ok-clause-ok c =
    let ps = c.self.inside.places in
    let cs = c.self.inside.clusters in
    let new = unplaced ps cs c.args.core (ap (λ m. map.get m c.args.core) c.self.view_is ∙ c.requires) in
    ap (λ m. labels_of m c.insert.new.self) c.in-Ok.ensures.ok
    ∙ (labels_single ps cs c.insert.new.self c.self.invariant c.in_ok-cluster.cluster c.args.core _ new c.in_ok-cluster.ensures.was_vacant c.in_ok-cluster.ensures.updates refl
    ∙ ap (λ m. map.insert m c.args.core c.args.core) c.self.view_is)

pub returns-in-Err-clause-err : goal.returns-in-Err-clause-err
returns-in-Err-clause-err c =
    labels_alike c.self.inside.places c.insert-2.new.self c.self.inside.clusters c.try_remove.new.self (λ q. ap (λ m. map.get m q) c.in-Err.ensures.err)
    (put_taken c.self.inside.clusters c.insert.new.self c.try_remove.new.self c.in_ok-cluster.cluster _ c.in_ok-cluster.ensures.was_vacant c.in_ok-cluster.ensures.updates c.try_remove.ensures.updates)
    ∙ c.self.view_is
