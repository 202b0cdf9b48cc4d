use Rattle.std.proofs.Common.{◌≡◌, ◌+◌, ◌++◌, drop}
use Rattle.node_places.specs.Nodes.{leaf_refs, inner_refs, ref_of, refs_by, refs_after}
use Rattle.node_places.proofs.after.refs_after.Given as goal

abbrev pub invariant-loop-k : goal.invariant-loop-k
invariant-loop-k l =
    l.refs.items ++ refs_by (ref_of l.fn.slots.leaves.items (leaf_refs l.fn.kinds)) (ref_of l.fn.slots.inners.items (inner_refs l.fn.kinds)) (l.k + 1) (drop l.k l.nodes)
    ≡ refs_after l.fn.kinds l.fn.slots.leaves.items l.fn.slots.inners.items l.nodes
