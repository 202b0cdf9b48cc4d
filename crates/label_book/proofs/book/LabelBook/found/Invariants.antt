use Rattle.std.proofs.Common.{take}
use Rattle.label_book.specs.Labels.{IsLeastOf, IsFounded}
use Rattle.label_book.proofs.book.LabelBook.found.Given as goal

abbrev pub invariant-loop-i : goal.invariant-loop-i
invariant-loop-i l = record { least : IsLeastOf l.label (take l.i l.items); labels : IsFounded l.fn.self (take l.i l.items) l.label l.self }
