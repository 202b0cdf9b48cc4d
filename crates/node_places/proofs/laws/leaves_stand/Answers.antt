use Rattle.node_places.proofs.Keeping.{leaves_stand}
use Rattle.node_places.proofs.laws.leaves_stand.Goals as goal

pub returns : goal.returns
returns c = leaves_stand
