use Rattle.std.proofs.Common.{◌≡◌, ◌+◌, ◌++◌, drop}
use Rattle.node_places.specs.Nodes.{refs_from}
use Rattle.node_places.proofs.refs.refs_of.Given as goal

abbrev pub invariant-loop-k : goal.invariant-loop-k
invariant-loop-k l =
    l.refs.items ++ refs_from l.kind l.slots (l.k + 2) (drop l.k l.kinds) ≡ refs_from l.kind l.slots 2 l.kinds
