use Rattle.std.proofs.Common.{◌∙◌}
use Rattle.mtree_node.proofs.Columns.{seen_numbers}
use Rattle.mtree_node.proofs.leaf_entries.LeafEntries.numbers.Goals as goal

pub returns : goal.returns
returns c = c.deref.ensures.value ∙ seen_numbers _ _ _ _ c.self.view_is c.self.invariant.0 c.self.invariant.1
