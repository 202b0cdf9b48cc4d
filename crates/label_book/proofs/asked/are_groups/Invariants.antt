use Rattle.std.proofs.Common.{take}
use Rattle.label_book.proofs.Checks.{AreGroups}
use Rattle.label_book.proofs.asked.are_groups.Given as goal

abbrev pub invariant-loop-i : goal.invariant-loop-i
invariant-loop-i l = AreGroups l.book l.label l.lost (take l.i l.groups)
