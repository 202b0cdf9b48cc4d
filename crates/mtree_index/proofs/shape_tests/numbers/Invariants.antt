use Rattle.std.proofs.Common.{◌≡◌, length}
use Rattle.mtree_index.proofs.shape_tests.numbers.Given as goal

abbrev pub invariant-loop : goal.invariant-loop
invariant-loop l = length l.numbers.items ≡ l.counter
