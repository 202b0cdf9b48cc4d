use Rattle.tree_objects.specs.Laws.{Passes}
use Rattle.tree_objects.proofs.Shapes.{shapes_have_all, records_have_all}
use Rattle.tree_objects.proofs.laws.shapes_have_all.Goals as goal

pub returns : goal.returns
returns c = record {
  shapes = λ test h n. shapes_have_all (Passes test) h 0 n;
  records = λ test. records_have_all (Passes test);
}
