use Rattle.node_refs.proofs.Inside.{fails_inside}
use Rattle.node_refs.proofs.laws.fails_inside.Goals as goal

pub returns : goal.returns
returns c = fails_inside
