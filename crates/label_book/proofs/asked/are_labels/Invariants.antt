use Rattle.std.proofs.Common.{take}
use Rattle.label_book.specs.Labels.{AreLabels}
use Rattle.label_book.proofs.asked.are_labels.Given as goal

abbrev pub invariant-loop-i : goal.invariant-loop-i
invariant-loop-i l = AreLabels l.book (take l.i l.labels)
