use Rattle.std.proofs.Common.{◌≡◌}
use Rattle.mtree_split.specs.Sides.{nearer_sum}
use Rattle.mtree_split.proofs.side.nearer_radius.Given as goal

abbrev pub invariant-loop-k : goal.invariant-loop-k
invariant-loop-k l = l.bound ≡ nearer_sum l.left_row l.right_row l.radii l.k
