use Rattle.std.proofs.Common.{◌≡◌, ◌+◌, ◌*◌, drop, sum_by}
use Rattle.std.specs.List.{AllByRecursion}
use Rattle.mtree_node.specs.declared.node.InnerEntry.{InnerEntry, out-InnerEntry}
use Rattle.mtree_node.specs.Tree.{IsLeveled}
use Rattle.mtree_node.specs.Preorder.{size}
use Rattle.mtree_node.proofs.flattening.+size.Given as goal

abbrev pub decreases-size_below : goal.decreases-size_below
decreases-size_below l = 2 * l.levels + 1

abbrev pub decreases-size : goal.decreases-size
decreases-size l = 2 * l.levels

abbrev pub invariant-size_below-loop-entry : goal.invariant-size_below-loop-entry
invariant-size_below-loop-entry l =
    let sizes = λ (e : InnerEntry). size l.levels (out-InnerEntry e).child in
    (l.total + sum_by sizes (drop l.entry-index l.entries) ≡ sum_by sizes l.entries)
    × AllByRecursion (λ e. IsLeveled l.levels (out-InnerEntry e).child) (drop l.entry-index l.entries)
