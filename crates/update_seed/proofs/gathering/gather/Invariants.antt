use Rattle.std.proofs.Common.{take}
use Rattle.update_seed.specs.inside.Ties.{ArePaired}
use Rattle.update_seed.proofs.gathering.gather.Given as goal

abbrev pub invariant-loop-i : goal.invariant-loop-i
invariant-loop-i l = ArePaired l.labels l.ties (take l.i l.heads.items) l.groups
