use Rattle.std.proofs.Common.{take}
use Rattle.label_book.specs.inside.Steps.{IsWithoutGroups}
use Rattle.label_book.proofs.book.LabelBook.leave_groups.Given as goal

abbrev pub invariant-loop-i : goal.invariant-loop-i
invariant-loop-i l = IsWithoutGroups l.fn.self (take l.i l.groups) l.label l.self
