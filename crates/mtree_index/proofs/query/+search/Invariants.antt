use Rattle.std.proofs.Common.{◌≡◌, ◌+◌, ◌*◌, ◌++◌, drop, sum_by, length}
use Rattle.std.specs.List.{AllByRecursion, flat_map}
use Rattle.mtree_node.specs.declared.node.InnerEntry.{out-InnerEntry}
use Rattle.mtree_node.specs.Cost.{entry_cost, cost}
use Rattle.mtree_index.specs.Found.{IsShaped, IsEntryOver, entry_found, found}
use Rattle.mtree_index.proofs.query.+search.Given as goal

abbrev pub decreases-look_at_entry : goal.decreases-look_at_entry
decreases-look_at_entry g l = 3 * l.height + 1

abbrev pub decreases-look_at_entries : goal.decreases-look_at_entries
decreases-look_at_entries g l = 3 * l.height + 2

abbrev pub decreases-search : goal.decreases-search
decreases-search g l = 3 * l.height

abbrev pub invariant-look_at_entries-loop-entry : goal.invariant-look_at_entries-loop-entry
invariant-look_at_entries-loop-entry g l =
    let dist = g.M.Metric.dist in
    (l.out.items ++ flat_map (λ e. entry_found dist l.centre l.radius (found dist l.centre l.radius l.height) l.to_object (out-InnerEntry e)) (drop l.entry-index l.entries)
    ≡ l.fn.out.items ++ flat_map (λ e. entry_found dist l.centre l.radius (found dist l.centre l.radius l.height) l.to_object (out-InnerEntry e)) l.entries)
    × (l.steps + sum_by (λ e. entry_cost dist l.centre l.radius (cost dist l.centre l.radius l.height) l.to_object (out-InnerEntry e)) (drop l.entry-index l.entries)
    ≡ l.fn.steps + sum_by (λ e. entry_cost dist l.centre l.radius (cost dist l.centre l.radius l.height) l.to_object (out-InnerEntry e)) l.entries)
    × AllByRecursion (λ e. IsEntryOver (length l.centre) (IsShaped (length l.centre) l.height) (out-InnerEntry e)) (drop l.entry-index l.entries)
