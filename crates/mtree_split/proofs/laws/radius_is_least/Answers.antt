use Rattle.mtree_split.proofs.Radii.{is_radius}
use Rattle.mtree_split.proofs.laws.radius_is_least.Goals as goal

pub returns : goal.returns
returns c = is_radius c.args.row.now c.args.radii.now c.args.sides.now c.args.side c.args.greatest
