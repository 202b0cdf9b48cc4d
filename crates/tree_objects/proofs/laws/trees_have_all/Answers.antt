use Rattle.tree_objects.specs.Laws.{Passes}
use Rattle.tree_objects.proofs.Shapes.{tree_has_all, built_has_all}
use Rattle.tree_objects.proofs.laws.trees_have_all.Goals as goal

pub returns : goal.returns
returns c = record {
  tree = λ test. tree_has_all (Passes test);
  built = λ test. built_has_all (Passes test);
}
