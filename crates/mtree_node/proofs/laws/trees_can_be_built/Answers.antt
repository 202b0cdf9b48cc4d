use Rattle.mtree_node.proofs.Asked.{trees_can_be_built}
use Rattle.mtree_node.proofs.laws.trees_can_be_built.Goals as goal

pub returns : goal.returns
returns c = trees_can_be_built
