use Rattle.tree_objects.specs.Laws.{Passes}
use Rattle.tree_objects.proofs.Removed.{removals_keep, removed_keep}
use Rattle.tree_objects.proofs.laws.removals_keep.Goals as goal

pub returns : goal.returns
returns c = record {
  after = λ test. removals_keep (Passes test);
  related = λ test. removed_keep (Passes test);
}
