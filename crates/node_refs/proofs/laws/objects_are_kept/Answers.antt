use Rattle.node_refs.proofs.Kept.{objects_are_kept}
use Rattle.node_refs.proofs.laws.objects_are_kept.Goals as goal

pub returns : goal.returns
returns c = objects_are_kept
