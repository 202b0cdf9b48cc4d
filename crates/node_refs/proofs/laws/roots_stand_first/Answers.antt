use Rattle.node_refs.proofs.Laid.{roots_stand_first}
use Rattle.node_refs.proofs.laws.roots_stand_first.Goals as goal

pub returns : goal.returns
returns c = roots_stand_first
