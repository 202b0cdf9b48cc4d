use Rattle.node_refs.proofs.Comes.{trees_are_listed}
use Rattle.node_refs.proofs.laws.trees_are_listed.Goals as goal

pub returns : goal.returns
returns c = trees_are_listed
