use Rattle.std.proofs.Common.{◌≡◌, ◌++◌, drop}
use Rattle.mtree_node.proofs.leaf_entries.LeafEntries.to_vec.Given as goal

abbrev pub invariant-loop-at : goal.invariant-loop-at
invariant-loop-at l = l.entries.items ++ drop l.at l.self ≡ l.self
