use Rattle.std.proofs.Common.{◌≡◌}
use Rattle.mtree_split.specs.Least.{first_least}
use Rattle.mtree_split.specs.Choice.{pair_rank}
use Rattle.mtree_split.proofs.pair.choose.Given as goal

abbrev pub invariant-loop-place : goal.invariant-loop-place
invariant-loop-place l = (l.best ≡ first_least (pair_rank l.count l.matrix l.radii l.greatest) l.place) × (l.least ≡ pair_rank l.count l.matrix l.radii l.greatest l.best)
