use Rattle.tree_objects.specs.Laws.{Passes}
use Rattle.tree_objects.proofs.Inserted.{insertions_keep, inserted_keep}
use Rattle.tree_objects.proofs.laws.insertions_keep.Goals as goal

pub returns : goal.returns
returns c = record {
  after = λ test. insertions_keep (Passes test);
  related = λ test. inserted_keep (Passes test);
}
