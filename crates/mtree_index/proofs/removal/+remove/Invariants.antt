use Rattle.std.proofs.Common.{◌≡◌, ◌+◌, ◌*◌, ◌≤◌, length, drop, sum_by, Some}
use Rattle.std.specs.List.{AllByRecursion}
use Rattle.std.specs.Option.{option_copied}
use Rattle.mtree_node.specs.declared.node.InnerEntry.{out-InnerEntry}
use Rattle.mtree_node.specs.Tree.{IsNode, IsInnerEntry, leaves}
use Rattle.mtree_node.specs.Cost.{cost, entry_cost}
use Rattle.mtree_index.specs.Removal.{entry_without, removed}
use Rattle.mtree_index.proofs.Walks.{AreNone}
use Rattle.mtree_index.proofs.removal.+remove.Given as goal

abbrev pub decreases-remove_under : goal.decreases-remove_under
decreases-remove_under g l = 4 * l.height + 1

abbrev pub decreases-remove_first : goal.decreases-remove_first
decreases-remove_first g l = 4 * l.height + 2

abbrev pub decreases-remove_among : goal.decreases-remove_among
decreases-remove_among g l = 4 * l.height + 3

abbrev pub decreases-remove_below : goal.decreases-remove_below
decreases-remove_below g l = 4 * l.height

abbrev pub invariant-remove_first-loop-i : goal.invariant-remove_first-loop-i
invariant-remove_first-loop-i g l =
    let dist = g.M.Metric.dist in
    let w = length l.vector in
    let most = g.M.Metric.most w in
    (l.entries ≡ l.fn.entries)
    × AreNone (entry_without dist l.vector (λ object m. removed dist most l.number l.vector l.height (Some object) m) (option_copied l.over)) l.i l.entries
    × (l.steps + sum_by (λ e. entry_cost dist l.vector 0 (cost dist l.vector 0 l.height) l.to_object (out-InnerEntry e)) (drop l.i l.entries)
    ≤ l.fn.steps + sum_by (λ e. entry_cost dist l.vector 0 (cost dist l.vector 0 l.height) l.to_object (out-InnerEntry e)) l.entries)
    × AllByRecursion (λ e. IsInnerEntry dist w most (λ object m. IsNode dist w most l.height (Some object) m) (leaves l.height) (option_copied l.over) (out-InnerEntry e)) (drop l.i l.entries)
