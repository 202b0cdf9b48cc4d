use Rattle.tree_objects.specs.Laws.{Passes}
use Rattle.tree_objects.proofs.Tagged.{tags_keep}
use Rattle.tree_objects.proofs.laws.tags_keep.Goals as goal

pub returns : goal.returns
returns c = λ test. tags_keep (Passes test)
