use Rattle.node_places.proofs.Parted.{refs_are_parted}
use Rattle.node_places.proofs.laws.refs_are_parted.Goals as goal

pub returns : goal.returns
returns c = refs_are_parted
