use Rattle.node_places.proofs.Returned.{pages_are_enough}
use Rattle.node_places.proofs.laws.pages_are_enough.Goals as goal

pub returns : goal.returns
returns c = pages_are_enough
