use Rattle.std.proofs.Common.{take}
use Rattle.update_seed.specs.inside.Ties.{AreTied, IsOffered}
use Rattle.update_seed.proofs.ties.tie_all.Given as goal

abbrev pub invariant-loop-i : goal.invariant-loop-i
invariant-loop-i l = record {
  ties : AreTied l.labels l.core (take l.i l.near) l.fn.ties l.ties;
  counts : IsOffered l.labels l.fn.ties l.core (take l.i l.near) l.fn.counts l.counts;
}
