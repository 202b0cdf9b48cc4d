use Rattle.std.proofs.Common.{◌≡◌, ◌+◌, ◌*◌, ◌≤◌, drop, length}
use Rattle.std.specs.List.{flat_map}
use Rattle.mtree_node.specs.declared.node.InnerEntry.{InnerEntry, out-InnerEntry}
use Rattle.mtree_node.specs.Tree.{leaves}
use Rattle.mtree_node.specs.Walk.{reaches}
use Rattle.mtree_node.proofs.building.+reach.Given as goal

abbrev pub decreases-reaches_below : goal.decreases-reaches_below
decreases-reaches_below g l = 2 * l.level + 1

abbrev pub decreases-reaches : goal.decreases-reaches
decreases-reaches g l = 2 * l.level

abbrev pub invariant-reaches_below-loop-entry : goal.invariant-reaches_below-loop-entry
invariant-reaches_below-loop-entry g l =
    (reaches g.M.Metric.dist l.object l.radius (flat_map (λ (e : InnerEntry). leaves l.level (out-InnerEntry e).child) l.entries)
    ≡ reaches g.M.Metric.dist l.object l.radius (flat_map (λ (e : InnerEntry). leaves l.level (out-InnerEntry e).child) (drop l.entry-index l.entries)))
    × (l.steps + length (flat_map (λ (e : InnerEntry). leaves l.level (out-InnerEntry e).child) (drop l.entry-index l.entries)) ≤ l.initial.steps + length (flat_map (λ (e : InnerEntry). leaves l.level (out-InnerEntry e).child) l.entries))
