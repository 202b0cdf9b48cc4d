use Rattle.node_refs.proofs.Few.{none_twice}
use Rattle.node_refs.proofs.laws.none_twice.Goals as goal

pub returns : goal.returns
returns c = none_twice
