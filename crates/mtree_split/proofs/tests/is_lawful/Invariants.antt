use Rattle.std.proofs.Common.{◌≡◌, ℕ, ◌<◌}
use Rattle.mtree_split.specs.Choice.{distance_of}
use Rattle.mtree_split.proofs.tests.is_lawful.Given as goal

abbrev pub invariant-loop-i : goal.invariant-loop-i
invariant-loop-i l = record {
  zero : (k : ℕ) → k < l.i → distance_of l.count l.matrix k k ≡ 0;
  symmetric : (k : ℕ) → k < l.i → (j : ℕ) → j < l.count → distance_of l.count l.matrix k j ≡ distance_of l.count l.matrix j k;
}
