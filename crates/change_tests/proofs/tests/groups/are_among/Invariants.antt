use Rattle.std.proofs.Common.{take}
use Rattle.split_expand.specs.Remaining.{remaining}
use Rattle.split_expand.specs.Split.{AreAmong}
use Rattle.change_tests.proofs.tests.groups.are_among.Given as goal

abbrev pub invariant-loop-i : goal.invariant-loop-i
invariant-loop-i l = AreAmong (remaining l.counts l.labels l.label) (take l.i l.seeds)
