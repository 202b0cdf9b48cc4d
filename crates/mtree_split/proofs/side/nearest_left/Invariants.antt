use Rattle.std.proofs.Common.{◌≡◌}
use Rattle.mtree_split.specs.Least.{first_least}
use Rattle.mtree_split.specs.Sides.{rank_left}
use Rattle.mtree_split.proofs.side.nearest_left.Given as goal

abbrev pub invariant-loop-k : goal.invariant-loop-k
invariant-loop-k l = (l.nearest ≡ first_least (rank_left l.row l.taken) l.k) × (l.least ≡ rank_left l.row l.taken l.nearest)
