use Rattle.std.proofs.Common.{take}
use Rattle.label_book.specs.Labels.{IsLeastOf}
use Rattle.label_book.proofs.cluster.least_of.Given as goal

abbrev pub invariant-loop-i : goal.invariant-loop-i
invariant-loop-i l = IsLeastOf l.least (take l.i l.numbers)
