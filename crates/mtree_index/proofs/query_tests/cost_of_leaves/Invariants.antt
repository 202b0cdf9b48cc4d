use Rattle.std.proofs.Common.{◌≡◌, ◌+◌, ◌≤◌, min, drop, sum_by}
use Rattle.mtree_node.specs.Cost.{leaf_cost}
use Rattle.mtree_index.proofs.query_tests.cost_of_leaves.Given as goal

abbrev pub invariant-loop-at : goal.invariant-loop-at
invariant-loop-at g l =
    let f = leaf_cost g.M.Metric.dist l.centre l.radius l.to_object in
    (min (l.total + sum_by f (drop l.at l.entries)) 1000000 ≡ min (sum_by f l.entries) 1000000) × (l.total ≤ 1000000)
