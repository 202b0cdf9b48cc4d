use Rattle.std.proofs.Common.{◌+◌, ◌*◌, ◌<◌, length, ◌∙◌, arith}
use Rattle.std.proofs.lemmas.List.Elements.{All-same}
use Rattle.node_places.specs.Nodes.{leaf_refs, inner_refs}
use Rattle.node_places.proofs.References.{refs_below}
use Rattle.node_places.proofs.nodes.node_slots.Goals as goal

pub settled-requires-clause-below : goal.settled-requires-clause-below
settled-requires-clause-below c =
    let kinds = c.args.kinds.now in
    let limit = 64 * (length kinds + 2) in
    All-same (λ r. r < limit) c.deref.result.now (leaf_refs kinds) (c.deref.ensures.value ∙ c.in_ok-leaf_refs.ensures) (refs_below 2 63 2 kinds limit (omega arith) (omega arith))

pub settled-requires-2-clause-below : goal.settled-requires-2-clause-below
settled-requires-2-clause-below c =
    let kinds = c.args.kinds.now in
    let limit = 64 * (length kinds + 2) in
    All-same (λ r. r < limit) c.deref-2.result.now (inner_refs kinds) (c.deref-2.ensures.value ∙ c.in_ok-inner_refs.ensures) (refs_below 3 1 2 kinds limit (omega arith) (omega arith))
