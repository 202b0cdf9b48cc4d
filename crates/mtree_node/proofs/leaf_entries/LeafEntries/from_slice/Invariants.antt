use Rattle.std.proofs.Common.{◌≡◌, ◌++◌, drop}
use Rattle.mtree_node.specs.Lists.{HaveVectorsOf}
use Rattle.mtree_node.proofs.leaf_entries.LeafEntries.from_slice.Given as goal

abbrev pub invariant-loop-entry : goal.invariant-loop-entry
invariant-loop-entry l = (l.list ++ drop l.entry-index l.entries ≡ l.entries) × HaveVectorsOf l.width l.list
