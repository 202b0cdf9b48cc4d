use Rattle.std.proofs.Common.{take}
use Rattle.label_book.specs.Labels.{EachOnce}
use Rattle.label_book.proofs.asked.is_once.Given as goal

abbrev pub invariant-loop-i : goal.invariant-loop-i
invariant-loop-i l = EachOnce (take l.i l.list)
