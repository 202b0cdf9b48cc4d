use Rattle.std.proofs.Common.{take}
use Rattle.label_book.specs.inside.Steps.{IsWithout}
use Rattle.label_book.proofs.book.LabelBook.leave_but.Given as goal

abbrev pub invariant-loop-i : goal.invariant-loop-i
invariant-loop-i l = IsWithout l.fn.self (take l.i l.cores) l.label l.self
