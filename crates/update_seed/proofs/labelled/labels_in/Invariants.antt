use Rattle.update_seed.specs.inside.Split.{AreLabelsBefore}
use Rattle.update_seed.proofs.labelled.labels_in.Given as goal

abbrev pub invariant-loop-i : goal.invariant-loop-i
invariant-loop-i l = AreLabelsBefore l.list l.i l.labels.items
