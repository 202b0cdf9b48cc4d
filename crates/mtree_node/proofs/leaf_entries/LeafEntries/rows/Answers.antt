use Rattle.mtree_node.proofs.Columns.{seen_vectors, seen_widths}
use Rattle.mtree_node.proofs.leaf_entries.LeafEntries.rows.Goals as goal

pub returns-clause-rows : goal.returns-clause-rows
returns-clause-rows c = seen_vectors _ _ _ _ c.self.view_is c.self.invariant.0 c.self.invariant.1

pub returns-clause-vectors : goal.returns-clause-vectors
returns-clause-vectors c = seen_widths _ _ _ _ c.self.view_is c.self.invariant.0 c.self.invariant.1 _ c.width.ensures.rows
