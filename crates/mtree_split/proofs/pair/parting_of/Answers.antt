use Rattle.mtree_split.specs.Choice.{parting_of}
use Rattle.mtree_split.proofs.pair.parting_of.Goals as goal

pub returns : goal.returns
unfolding parting_of
returns c = rw (c.side_radius-left_radius.ensures, c.side_radius-right_radius.ensures, c.sides_of-sides.ensures, c.row_of-left_row.ensures.value, c.row_of-right_row.ensures.value)
