use Rattle.std.proofs.Common.{take}
use Rattle.update_seed.specs.inside.Split.{AreLost}
use Rattle.update_seed.proofs.outgoing.labelled.Given as goal

abbrev pub invariant-loop-i : goal.invariant-loop-i
invariant-loop-i l = AreLost l.labels l.gone (take l.i l.lost) l.list.items
