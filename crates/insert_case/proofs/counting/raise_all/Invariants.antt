use Rattle.std.proofs.Common.{take}
use Rattle.insert_case.specs.Told.{AreNewCores}
use Rattle.insert_case.specs.inside.Counting.{AreRaised}
use Rattle.insert_case.proofs.counting.raise_all.Given as goal

abbrev pub invariant-loop-i : goal.invariant-loop-i
invariant-loop-i l = record {
  counts : AreRaised l.number (take l.i l.around) l.fn.counts l.counts;
  cores : AreNewCores l.fn.counts l.counts l.cores;
}
