use Rattle.std.proofs.Common.{◌≡◌, ℕ, ◌+◌, ◌≤◌, List, Option, drop, sum_by}
use Rattle.std.specs.Option.{option_map}
use Rattle.mtree_node.specs.Cost.{leaf_cost}
use Rattle.mtree_index.specs.Removal.{is_pair}
use Rattle.mtree_index.proofs.Walks.{FailAll}
use Rattle.mtree_index.proofs.removal.remove_from_leaf.Given as goal

abbrev pub invariant-loop-i : goal.invariant-loop-i
invariant-loop-i g l =
    let dist = g.M.Metric.dist in
    (l.entries ≡ l.fn.entries)
    × ((over : Option (List ℕ)) → l.to_object ≡ option_map (dist l.vector) over → FailAll (is_pair dist l.vector l.number over) l.i l.entries)
    × (l.steps + sum_by (leaf_cost dist l.vector 0 l.to_object) (drop l.i l.entries) ≤ l.fn.steps + sum_by (leaf_cost dist l.vector 0 l.to_object) l.entries)
