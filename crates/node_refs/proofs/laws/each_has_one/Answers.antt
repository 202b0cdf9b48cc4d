use Rattle.node_refs.proofs.Kept.{each_has_one}
use Rattle.node_refs.proofs.laws.each_has_one.Goals as goal

pub returns : goal.returns
returns c = each_has_one
