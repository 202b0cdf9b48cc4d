use Rattle.std.proofs.Common.{◌≡◌, ◌<◌, ℕ, None, length, sym, subst}
use Rattle.std.specs.FinMap as map
use Rattle.label_book.specs.Labels.{HasLeast, EachOnce, IsMember}
use Rattle.label_book.proofs.Views.{has_least}
use Rattle.label_book.proofs.Founded.{next_free, first_alone, first_founded, next_least, next_founded}
use Rattle.label_book.proofs.book.LabelBook.found.Goals as goal

pub loop-i-init : goal.loop-i-init
loop-i-init c =
    let some = subst (λ ys. 0 < length ys) (sym c.as_slice-items.ensures) c.requires.some in
    record { least = first_alone c.as_slice-items.result.now some; labels = first_founded c.args.self.now c.single.new.self c.as_slice-items.result.now some c.in_ok-single.ensures.ok }

pub add-requires-clause-core : goal.add-requires-clause-core
add-requires-clause-core c =
    next_free c.args.self.now c.loop-i.self c.as_slice-items.result.now c.loop-i.i c.loop-i.label c.loop-i-test.true (subst EachOnce (sym c.as_slice-items.ensures) c.requires.once)
    (subst (λ ys. (q : ℕ) → IsMember ys q → map.get c.args.self.now q ≡ None) (sym c.as_slice-items.ensures) c.requires.free) c.loop-i.invariant.labels

pub loop-i-preserved : goal.loop-i-preserved
loop-i-preserved c =
    let least = subst HasLeast c.self.view_is (has_least c.self.inside.places c.self.inside.clusters c.self.invariant) in
    let free = subst (λ ys. (q : ℕ) → IsMember ys q → map.get c.args.self.now q ≡ None) (sym c.as_slice-items.ensures) c.requires.free in
    record {
      least = next_least c.as_slice-items.result.now c.loop-i.i c.loop-i.label c.in_ok-label.label c.loop-i-test.true c.loop-i.invariant.least c.in_ok-label.ensures.label;
      labels = next_founded c.args.self.now c.loop-i.self c.add.new.self least c.as_slice-items.result.now c.loop-i.i c.loop-i.label c.in_ok-label.label c.loop-i-test.true free
          c.loop-i.invariant.least c.loop-i.invariant.labels c.in_ok-label.ensures.ok c.in_ok-label.ensures.label;
    }
