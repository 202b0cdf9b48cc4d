use Rattle.std.proofs.Common.{take}
use Rattle.update_seed.specs.inside.Ties.{AreAlone}
use Rattle.update_seed.proofs.ties.each_alone.Given as goal

abbrev pub invariant-loop-i : goal.invariant-loop-i
invariant-loop-i l = AreAlone (take l.i l.cores) l.ties
