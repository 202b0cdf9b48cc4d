use Rattle.tree_objects.specs.Laws.{Passes}
use Rattle.tree_objects.proofs.Shapes.{empty_has_all}
use Rattle.tree_objects.proofs.laws.empty_has_all.Goals as goal

pub returns : goal.returns
returns c = λ test. empty_has_all (Passes test)
