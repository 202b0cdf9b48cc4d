use Rattle.std.proofs.Common.{◌≡◌, ◌++◌, replicate}
use Rattle.node_places.proofs.after.add.Given as goal

abbrev pub invariant-loop-k : goal.invariant-loop-k
invariant-loop-k l = l.kinds.items ≡ l.fn.kinds.items ++ replicate l._k l.kind
