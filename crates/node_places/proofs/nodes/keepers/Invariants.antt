use Rattle.std.proofs.Common.{◌≡◌, map, take}
use Rattle.node_places.specs.Nodes.{holder}
use Rattle.node_places.proofs.nodes.keepers.Given as goal

abbrev pub invariant-loop-reference : goal.invariant-loop-reference
invariant-loop-reference l =
    l.slots.items ≡ map (holder 1 l.fn.leaf l.fn.nodes) (take l.reference-index l.refs)
