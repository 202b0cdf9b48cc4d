use Rattle.std.proofs.Common.{◌∙◌, ap, length}
use Rattle.mtree_node.proofs.Columns.{one_width}
use Rattle.mtree_node.proofs.leaf_entries.LeafEntries.distance.Goals as goal

pub distances-requires-clause-width : goal.distances-requires-clause-width
distances-requires-clause-width g c =
    ap length c.as_slice.ensures.value ∙ one_width c.args.self.now _ _ c.args.at c.requires.place c.rows.ensures.vectors c.requires.vectors
