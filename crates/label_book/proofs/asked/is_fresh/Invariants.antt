use Rattle.std.proofs.Common.{ℕ, take}
use Rattle.label_book.specs.Labels.{IsMember}
use Rattle.label_book.specs.Parting.{IsGrouped}
use Rattle.label_book.proofs.asked.is_fresh.Given as goal

abbrev pub invariant-loop-i : goal.invariant-loop-i
invariant-loop-i l = (q : ℕ) → IsMember (take l.i l.group) q → (IsMember l.lost q → ⊥) × (IsGrouped l.earlier q → ⊥)
