use Rattle.node_refs.proofs.Kept.{roots_are_first}
use Rattle.node_refs.proofs.laws.roots_are_first.Goals as goal

pub returns : goal.returns
returns c = roots_are_first
