use Rattle.std.proofs.Common.{◌≡◌}
use Rattle.mtree_index.proofs.tests.leaves_the_trees.Given as goal

abbrev pub invariant-loop-row : goal.invariant-loop-row
invariant-loop-row g l = l.tree.width ≡ l.vectors.width
