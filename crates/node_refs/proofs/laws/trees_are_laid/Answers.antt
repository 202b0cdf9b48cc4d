use Rattle.node_refs.proofs.Laid.{trees_are_laid}
use Rattle.node_refs.proofs.laws.trees_are_laid.Goals as goal

pub returns : goal.returns
returns c = trees_are_laid
