use Rattle.std.proofs.Common.{◌∙◌, ℕ, ap, subst, min}
use Rattle.std.specs.FinMap as map
use Rattle.slab.specs.Slab.{with_value}
use Rattle.label_book.specs.inside.Steps.{IsWith}
use Rattle.label_book.specs.inside.Kept.{labels_of}
use Rattle.label_book.proofs.Added.{add_ok, add_err}
use Rattle.label_book.proofs.book.LabelBook.add.Goals as goal

pub invariant_of-self-in-Ok : goal.invariant_of-self-in-Ok
invariant_of-self-in-Ok c =
    let ps = c.self.inside.places in
    let cs = c.self.inside.clusters in
    let seen = λ (q : ℕ). ap (λ m. map.get m q) c.self.view_is in
    let d = add_ok ps c.insert.new.self cs c.self.invariant c.args.label c.args.core c.in-Some.place.now c.in-Some-get.found.now c.in-Some-get_mut.found.now c.take_in.new.self c.len-at.result
    c.in-Some.ensures (seen c.args.label ∙ c.requires.label) (seen c.args.core ∙ c.requires.core) c.in-Some-get.ensures c.in-Some-get_mut.ensures.value c.len-at.ensures
    c.in_ok-insert.ensures.ok c.in-Ok.ensures.ok in
    d.0

pub invariant_of-self-in-Err : goal.invariant_of-self-in-Err
invariant_of-self-in-Err c =
    let d = add_err c.self.inside.places c.remove.new.self c.self.inside.clusters c.self.invariant c.args.core c.in-Some.place.now.cluster c.len-at.result c.in-Some-get_mut.found.now c.take_in.new.self
    (ap (λ m. map.get m c.args.core) c.self.view_is ∙ c.requires.core) c.in-Some-get_mut.ensures.value
    (c.remove.ensures.rest ∙ ap (λ m. map.remove m c.args.core) c.in_ok-insert.ensures.ok) c.in-Err.ensures.err in
    d.0

pub returns-in-Ok-clause-label : goal.returns-in-Ok-clause-label
returns-in-Ok-clause-label c =
    let ps = c.self.inside.places in
    let cs = c.self.inside.clusters in
    let seen = λ (q : ℕ). ap (λ m. map.get m q) c.self.view_is in
    let d = add_ok ps c.insert.new.self cs c.self.invariant c.args.label c.args.core c.in-Some.place.now c.in-Some-get.found.now c.in-Some-get_mut.found.now c.take_in.new.self c.len-at.result
    c.in-Some.ensures (seen c.args.label ∙ c.requires.label) (seen c.args.core ∙ c.requires.core) c.in-Some-get.ensures c.in-Some-get_mut.ensures.value c.len-at.ensures
    c.in_ok-insert.ensures.ok c.in-Ok.ensures.ok in
    c.in-Ok.ensures.label ∙ ap (λ n. min n c.args.core) d.2

pub returns-in-Ok-clause-ok : goal.returns-in-Ok-clause-ok
returns-in-Ok-clause-ok c =
    let ps = c.self.inside.places in
    let cs = c.self.inside.clusters in
    let seen = λ (q : ℕ). ap (λ m. map.get m q) c.self.view_is in
    let d = add_ok ps c.insert.new.self cs c.self.invariant c.args.label c.args.core c.in-Some.place.now c.in-Some-get.found.now c.in-Some-get_mut.found.now c.take_in.new.self c.len-at.result
    c.in-Some.ensures (seen c.args.label ∙ c.requires.label) (seen c.args.core ∙ c.requires.core) c.in-Some-get.ensures c.in-Some-get_mut.ensures.value c.len-at.ensures
    c.in_ok-insert.ensures.ok c.in-Ok.ensures.ok in
    subst (λ m. IsWith m c.args.label c.args.core (labels_of c.insert.new.self (with_value c.self.inside.clusters c.in-Some.place.now.cluster c.take_in.new.self))) c.self.view_is d.1

pub returns-in-Err-clause-err : goal.returns-in-Err-clause-err
returns-in-Err-clause-err c =
    let d = add_err c.self.inside.places c.remove.new.self c.self.inside.clusters c.self.invariant c.args.core c.in-Some.place.now.cluster c.len-at.result c.in-Some-get_mut.found.now c.take_in.new.self
    (ap (λ m. map.get m c.args.core) c.self.view_is ∙ c.requires.core) c.in-Some-get_mut.ensures.value
    (c.remove.ensures.rest ∙ ap (λ m. map.remove m c.args.core) c.in_ok-insert.ensures.ok) c.in-Err.ensures.err in
    d.1 ∙ c.self.view_is
