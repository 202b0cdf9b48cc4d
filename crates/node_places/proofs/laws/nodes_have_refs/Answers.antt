use Rattle.node_places.proofs.Returned.{nodes_have_refs}
use Rattle.node_places.proofs.laws.nodes_have_refs.Goals as goal

pub returns : goal.returns
returns c = nodes_have_refs
