use Rattle.std.proofs.Common.{◌≡◌, ◌+◌, ◌++◌, drop}
use Rattle.node_places.specs.Slots.{absent}
use Rattle.node_places.specs.Nodes.{numbers_from}
use Rattle.node_places.proofs.nodes.homeless.Given as goal

abbrev pub invariant-loop-k : goal.invariant-loop-k
invariant-loop-k l =
    l.new.items ++ absent l.fn.slots (numbers_from (l.k + 1) l.leaf (drop l.k l.nodes)) ≡ absent l.fn.slots (numbers_from 1 l.leaf l.nodes)
