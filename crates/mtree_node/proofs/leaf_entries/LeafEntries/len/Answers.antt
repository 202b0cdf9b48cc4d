use Rattle.std.proofs.Common.{arith}
use Rattle.mtree_node.proofs.Columns.{seen_length}
use Rattle.mtree_node.proofs.leaf_entries.LeafEntries.len.Goals as goal

pub returns : goal.returns
returns c = omega (arith, c.len.ensures, c.self.invariant.0, seen_length _ _ _ _ c.self.view_is c.self.invariant.0 c.self.invariant.1)
