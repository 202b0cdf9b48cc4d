use Rattle.std.proofs.Common.{◌≡◌, ℕ, ◌<◌}
use Rattle.mtree_split.specs.Choice.{distance_of}
use Rattle.mtree_split.proofs.tests.is_lawful_row.Given as goal

abbrev pub invariant-loop-j : goal.invariant-loop-j
invariant-loop-j l = (k : ℕ) → k < l.j → distance_of l.count l.matrix l.i k ≡ distance_of l.count l.matrix k l.i
