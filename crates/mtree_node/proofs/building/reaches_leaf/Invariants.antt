use Rattle.std.proofs.Common.{◌≡◌, ◌+◌, ◌≤◌, drop}
use Rattle.mtree_node.specs.Walk.{reaches}
use Rattle.mtree_node.proofs.building.reaches_leaf.Given as goal

abbrev pub invariant-loop-at : goal.invariant-loop-at
invariant-loop-at g l =
    (reaches g.M.Metric.dist l.object l.radius l.entries ≡ reaches g.M.Metric.dist l.object l.radius (drop l.at l.entries)) × (l.steps ≤ l.initial.steps + l.at)
