use Rattle.label_book.specs.Labels.{IsMember}
use Rattle.label_book.proofs.book.LabelBook.largest.Given as goal

abbrev pub invariant-loop-i : goal.invariant-loop-i
invariant-loop-i l = IsMember l.labels l.best
