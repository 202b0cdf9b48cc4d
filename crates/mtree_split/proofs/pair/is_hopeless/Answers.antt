use Rattle.std.proofs.Common.{◌∙◌}
use Rattle.mtree_split.proofs.Bounds.{hopeless_at}
use Rattle.mtree_split.proofs.pair.is_hopeless.Goals as goal

pub returns : goal.returns
returns c =
    hopeless_at c.args.count c.args.matrix.now c.args.radii.now c.args.greatest c.args.place c.row_of-left_row.result.now c.row_of-right_row.result.now c.from.result c.args.least c.if-left-right.false
    c.row_of-left_row.ensures.value c.row_of-right_row.ensures.value c.row_of-left_row.ensures.as_long c.row_of-right_row.ensures.as_long (c.from.ensures ∙ c.nearer_radius.ensures)
