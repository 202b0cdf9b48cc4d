use Rattle.std.proofs.Common.{take}
use Rattle.label_book.specs.Labels.{IsMember}
use Rattle.label_book.proofs.Joined.{Grown, Chosen, NoCore}
use Rattle.label_book.proofs.book.LabelBook.join.Given as goal

abbrev pub invariant-loop-i : goal.invariant-loop-i
invariant-loop-i l = Grown l.fn.self (Chosen (take l.i l.items) l.target) NoCore l.label l.self

abbrev pub invariant-loop-j : goal.invariant-loop-j
invariant-loop-j l = Grown l.fn.self (Chosen l.labels l.target) (IsMember (take l.j l.added)) l.label l.self
