use Rattle.tree_layout.proofs.Sized.{nodes_are_laid}
use Rattle.tree_layout.proofs.laws.nodes_are_laid.Goals as goal

pub returns : goal.returns
returns c = nodes_are_laid
