use Rattle.std.proofs.Common.{◌≡◌, ◌++◌, drop, map}
use Rattle.mtree_node.specs.Preorder.{leaf_row}
use Rattle.mtree_node.proofs.flattening.leaf_rows.Given as goal

abbrev pub invariant-loop-at : goal.invariant-loop-at
invariant-loop-at l = l.rows ++ map leaf_row (drop l.at l.entries) ≡ map leaf_row l.entries
