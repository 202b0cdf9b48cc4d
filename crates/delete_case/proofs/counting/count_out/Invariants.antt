use Rattle.std.proofs.Common.{take}
use Rattle.delete_case.specs.inside.Lowering.{AreLowered}
use Rattle.delete_case.proofs.counting.count_out.Given as goal

abbrev pub invariant-loop-i : goal.invariant-loop-i
invariant-loop-i l = AreLowered (take l.i l.around) l.fn.counts l.counts l.lost
