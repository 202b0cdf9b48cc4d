use Rattle.std.proofs.Common.{take}
use Rattle.update_seed.specs.inside.Ties.{AreBegun}
use Rattle.update_seed.proofs.gathering.heads_of.Given as goal

abbrev pub invariant-loop-i : goal.invariant-loop-i
invariant-loop-i l = AreBegun l.ties (take l.i l.order.items) l.begun l.heads.items
