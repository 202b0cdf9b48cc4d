use Rattle.node_places.proofs.Parted.{kinds_are_counted}
use Rattle.node_places.proofs.laws.kinds_are_counted.Goals as goal

pub returns : goal.returns
returns c = kinds_are_counted
