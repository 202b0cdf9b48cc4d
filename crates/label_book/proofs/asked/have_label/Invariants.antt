use Rattle.std.proofs.Common.{◌≡◌, ℕ, take}
use Rattle.std.specs.FinMap as map
use Rattle.label_book.specs.Labels.{IsMember}
use Rattle.label_book.proofs.asked.have_label.Given as goal

abbrev pub invariant-loop-i : goal.invariant-loop-i
invariant-loop-i l = (q : ℕ) → IsMember (take l.i l.cores) q → map.get l.book q ≡ l.label
