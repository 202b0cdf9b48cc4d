use Rattle.std.proofs.Common.{◌∙◌, length, refl, ap, subst}
use Rattle.std.specs.FinMap as map
use Rattle.slab.specs.Slab.{with_value}
use Rattle.label_book.specs.inside.Kept.{labels_of}
use Rattle.label_book.specs.inside.Steps.{IsMergedOf, IsRewritten, StandsFrom}
use Rattle.label_book.proofs.Added.{kept_alike, labels_alike}
use Rattle.label_book.proofs.Merged.{grown_once, grown_known, merge_kept, merge_labels, merge_same, put_back}
use Rattle.label_book.proofs.book.LabelBook.merge.Goals as goal

pub returns-then-source-target-clause-ok : goal.returns-then-source-target-clause-ok
returns-then-source-target-clause-ok c =
    subst (λ m. IsMergedOf m c.args.into c.args.core c.args.into m) c.self.view_is
    (merge_same c.self.inside.places c.self.inside.clusters c.args.into c.args.core c.in-Some.place.now c.in-Some-get-2.place.now c.in-Some-get.larger.now c.in-Some.ensures c.in-Some-get-2.ensures
    c.if-source-target.true c.in-Some-get.ensures (ap (λ m. map.get m c.args.into) c.self.view_is ∙ c.requires.into))

pub rewrite-requires-clause-known : goal.rewrite-requires-clause-known
rewrite-requires-clause-known c q s =
    grown_known c.self.inside.places c.self.inside.clusters c.try_remove.new.self c.self.invariant c.in-Some.place.now c.in-Some-get-2.place.now c.in-Some-get.larger.now c.in-Some-get_mut.larger.now c.in-Some-try_remove.cluster c.absorb.new.self c.len-start.result
    c.if-source-target.false c.in-Some-get.ensures c.len-start.ensures c.in-Some-try_remove.ensures.value c.in-Some-try_remove.ensures.updates c.in-Some-get_mut.ensures.value c.in-Ok.ensures.ok q
    (subst (λ ys. StandsFrom ys c.len-start.result q) c.as_slice.ensures s)

pub rewrite-requires-clause-once : goal.rewrite-requires-clause-once
rewrite-requires-clause-once c =
    rw c.as_slice.ensures
    (grown_once c.self.inside.places c.self.inside.clusters c.try_remove.new.self c.self.invariant c.in-Some.place.now c.in-Some-get-2.place.now c.in-Some-get.larger.now c.in-Some-get_mut.larger.now c.in-Some-try_remove.cluster c.absorb.new.self c.len-start.result
    c.if-source-target.false c.in-Some-get.ensures c.len-start.ensures c.in-Some-try_remove.ensures.value c.in-Some-try_remove.ensures.updates c.in-Some-get_mut.ensures.value c.in-Ok.ensures.ok)

pub invariant_of-self-in-Ok-1 : goal.invariant_of-self-in-Ok-1
invariant_of-self-in-Ok-1 c =
    merge_kept c.self.inside.places c.self.inside.clusters c.try_remove.new.self c.self.invariant c.in-Some.place.now c.in-Some-get-2.place.now c.in-Some-get.larger.now c.in-Some-get_mut.larger.now c.in-Some-try_remove.cluster c.absorb.new.self c.len-start.result
    c.if-source-target.false c.in-Some-get.ensures c.len-start.ensures c.in-Some-try_remove.ensures.value c.in-Some-try_remove.ensures.updates c.in-Some-get_mut.ensures.value c.in-Ok.ensures.ok c.rewrite.new.places
    (subst (λ ys. IsRewritten c.self.inside.places ys c.in-Some.place.now.cluster c.len-start.result (length ys) c.rewrite.new.places) c.as_slice.ensures c.rewrite.ensures)

pub returns-in-Ok-clause-ok : goal.returns-in-Ok-clause-ok
returns-in-Ok-clause-ok c =
    subst (λ m. IsMergedOf m c.args.into c.args.core c.in-Ok.label (labels_of c.rewrite.new.places (with_value c.try_remove.new.self c.in-Some.place.now.cluster c.absorb.new.self))) c.self.view_is
    (merge_labels c.self.inside.places c.self.inside.clusters c.try_remove.new.self c.self.invariant c.in-Some.place.now c.in-Some-get-2.place.now c.in-Some-get.larger.now c.in-Some-get_mut.larger.now c.in-Some-try_remove.cluster c.absorb.new.self c.len-start.result
    c.if-source-target.false c.in-Some-get.ensures c.len-start.ensures c.in-Some-try_remove.ensures.value c.in-Some-try_remove.ensures.updates c.in-Some-get_mut.ensures.value c.in-Ok.ensures.ok c.rewrite.new.places
    (subst (λ ys. IsRewritten c.self.inside.places ys c.in-Some.place.now.cluster c.len-start.result (length ys) c.rewrite.new.places) c.as_slice.ensures c.rewrite.ensures)
    c.args.into c.args.core c.in-Ok.label c.in-Some.ensures c.in-Some-get-2.ensures (ap (λ m. map.get m c.args.into) c.self.view_is ∙ c.requires.into) c.in-Ok.ensures.label)

pub invariant_of-self-in-Err : goal.invariant_of-self-in-Err
invariant_of-self-in-Err c =
    kept_alike c.self.inside.places c.self.inside.places c.self.inside.clusters c.insert_reserved.new.self c.self.invariant (λ q. refl)
    (put_back c.self.inside.clusters c.try_remove.new.self c.insert_reserved.new.self c.in-Some.place.now.cluster c.in-Some-get-2.place.now.cluster c.insert_reserved.result c.in-Some-get_mut.larger.now c.absorb.new.self c.in-Some-try_remove.cluster
    c.if-source-target.false c.in-Some-try_remove.ensures.value c.in-Some-try_remove.ensures.updates c.in-Some-get_mut.ensures.value c.in-Err.ensures.err c.insert_reserved.ensures.key c.in-Some-try_remove.ensures.key_is_next c.insert_reserved.ensures.updates)

pub returns-in-Err-clause-err : goal.returns-in-Err-clause-err
returns-in-Err-clause-err c =
    labels_alike c.self.inside.places c.self.inside.places c.self.inside.clusters c.insert_reserved.new.self (λ q. refl)
    (put_back c.self.inside.clusters c.try_remove.new.self c.insert_reserved.new.self c.in-Some.place.now.cluster c.in-Some-get-2.place.now.cluster c.insert_reserved.result c.in-Some-get_mut.larger.now c.absorb.new.self c.in-Some-try_remove.cluster
    c.if-source-target.false c.in-Some-try_remove.ensures.value c.in-Some-try_remove.ensures.updates c.in-Some-get_mut.ensures.value c.in-Err.ensures.err c.insert_reserved.ensures.key c.in-Some-try_remove.ensures.key_is_next c.insert_reserved.ensures.updates)
    ∙ c.self.view_is
