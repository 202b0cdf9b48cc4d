use Rattle.node_places.proofs.Parted.{refs_name_slots}
use Rattle.node_places.proofs.laws.refs_name_slots.Goals as goal

pub returns : goal.returns
returns c = refs_name_slots
