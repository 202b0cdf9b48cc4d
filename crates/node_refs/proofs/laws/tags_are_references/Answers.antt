use Rattle.node_refs.proofs.Kept.{tags_are_references}
use Rattle.node_refs.proofs.laws.tags_are_references.Goals as goal

pub returns : goal.returns
returns c = tags_are_references
