use Rattle.std.proofs.Common.{take}
use Rattle.label_book.specs.Parting.{IsGrouped}
use Rattle.label_book.proofs.parting.stands_in.Given as goal

abbrev pub invariant-loop-i : goal.invariant-loop-i
invariant-loop-i l = IsGrouped (take l.i l.groups) l.core → ⊥
