use Rattle.mtree_node.proofs.Complete.{trees_come_back}
use Rattle.mtree_node.proofs.laws.trees_come_back.Goals as goal

pub returns : goal.returns
returns c = trees_come_back
