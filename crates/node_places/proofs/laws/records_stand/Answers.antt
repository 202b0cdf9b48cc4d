use Rattle.node_places.proofs.Standing.{records_stand}
use Rattle.node_places.proofs.laws.records_stand.Goals as goal

pub returns : goal.returns
returns c = records_stand
