use Rattle.node_places.proofs.Keeping.{inners_stand}
use Rattle.node_places.proofs.laws.inners_stand.Goals as goal

pub returns : goal.returns
returns c = inners_stand
