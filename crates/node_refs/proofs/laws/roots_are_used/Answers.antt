use Rattle.node_refs.proofs.Comes.{roots_are_used}
use Rattle.node_refs.proofs.laws.roots_are_used.Goals as goal

pub returns : goal.returns
returns c = roots_are_used
