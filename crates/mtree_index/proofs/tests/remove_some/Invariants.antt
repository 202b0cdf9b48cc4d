use Rattle.std.proofs.Common.{◌≡◌}
use Rattle.mtree_index.proofs.tests.remove_some.Given as goal

abbrev pub invariant-loop-number : goal.invariant-loop-number
invariant-loop-number g l = l.tree.width ≡ l.vectors.width
