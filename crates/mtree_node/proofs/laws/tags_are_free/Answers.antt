use Rattle.mtree_node.proofs.Tags.{tags_are_free}
use Rattle.mtree_node.proofs.laws.tags_are_free.Goals as goal

pub returns : goal.returns
returns c = tags_are_free
