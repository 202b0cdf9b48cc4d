use Rattle.update_seed.specs.inside.Split.{IsPart}
use Rattle.update_seed.proofs.labelled.with_label.Given as goal

abbrev pub invariant-loop-i : goal.invariant-loop-i
invariant-loop-i l = IsPart l.list l.start l.i l.numbers
