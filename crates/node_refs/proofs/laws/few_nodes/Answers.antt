use Rattle.node_refs.proofs.Few.{few_nodes}
use Rattle.node_refs.proofs.laws.few_nodes.Goals as goal

pub returns : goal.returns
returns c = few_nodes
