use Rattle.node_refs.proofs.Built.{listed_can_be_built}
use Rattle.node_refs.proofs.laws.listed_can_be_built.Goals as goal

pub returns : goal.returns
returns c = listed_can_be_built
