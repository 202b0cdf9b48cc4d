use Rattle.std.proofs.Common.{◌≡◌, ◌+◌, ◌*◌, ◌≤◌, min, drop, sum_by, length}
use Rattle.std.specs.List.{AllByRecursion}
use Rattle.mtree_node.specs.declared.node.InnerEntry.{InnerEntry, out-InnerEntry}
use Rattle.mtree_node.specs.Cost.{entry_cost, cost}
use Rattle.mtree_index.specs.Found.{IsShaped, IsEntryOver}
use Rattle.mtree_index.proofs.query_tests.+cost.Given as goal

abbrev pub decreases-cost_of_entry : goal.decreases-cost_of_entry
decreases-cost_of_entry g l = 3 * l.height + 1

abbrev pub decreases-cost_of_entries : goal.decreases-cost_of_entries
decreases-cost_of_entries g l = 3 * l.height + 2

abbrev pub decreases-cost_of_node : goal.decreases-cost_of_node
decreases-cost_of_node g l = 3 * l.height

abbrev pub invariant-cost_of_entries-loop-entry : goal.invariant-cost_of_entries-loop-entry
invariant-cost_of_entries-loop-entry g l =
    let f = λ (e : InnerEntry). entry_cost g.M.Metric.dist l.centre l.radius (cost g.M.Metric.dist l.centre l.radius l.height) l.to_object (out-InnerEntry e) in
    (min (l.total + sum_by f (drop l.entry-index l.entries)) 1000000 ≡ min (sum_by f l.entries) 1000000) × (l.total ≤ 1000000)
    × AllByRecursion (λ e. IsEntryOver (length l.centre) (IsShaped (length l.centre) l.height) (out-InnerEntry e)) (drop l.entry-index l.entries)
