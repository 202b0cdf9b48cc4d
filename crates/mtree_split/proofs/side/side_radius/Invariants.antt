use Rattle.std.proofs.Common.{◌≡◌}
use Rattle.mtree_split.specs.Sides.{greatest_sum}
use Rattle.mtree_split.proofs.side.side_radius.Given as goal

abbrev pub invariant-loop-k : goal.invariant-loop-k
invariant-loop-k l = l.reach ≡ greatest_sum l.row l.radii l.sides l.side l.k
