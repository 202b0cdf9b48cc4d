use Rattle.stored_tree.proofs.Laid.{laid_trees_are_read}
use Rattle.stored_tree.proofs.laws.laid_trees_are_read.Goals as goal

pub returns : goal.returns
returns c = laid_trees_are_read
