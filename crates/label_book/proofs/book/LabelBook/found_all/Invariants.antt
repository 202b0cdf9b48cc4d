use Rattle.std.proofs.Common.{take}
use Rattle.label_book.specs.inside.Steps.{AreFounded}
use Rattle.label_book.proofs.book.LabelBook.found_all.Given as goal

abbrev pub invariant-loop-i : goal.invariant-loop-i
invariant-loop-i l = AreFounded l.fn.self (take l.i l.groups) l.labels l.self
