use Rattle.mtree_node.proofs.Tags.{tags_in_preorder}
use Rattle.mtree_node.proofs.laws.tags_are_in_preorder.Goals as goal

pub returns : goal.returns
returns c = tags_in_preorder
