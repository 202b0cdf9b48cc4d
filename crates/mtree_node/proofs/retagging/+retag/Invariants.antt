use Rattle.std.proofs.Common.{◌≡◌, ◌+◌, ◌*◌, ◌++◌, take, drop, length, sum_by}
use Rattle.std.specs.List.{AllByRecursion}
use Rattle.mtree_node.specs.declared.node.InnerEntry.{InnerEntry, out-InnerEntry}
use Rattle.mtree_node.specs.Tree.{IsLeveled}
use Rattle.mtree_node.specs.Preorder.{size, retagged_below, retagged_from}
use Rattle.mtree_node.proofs.retagging.+retag.Given as goal

abbrev pub decreases-retag_entry : goal.decreases-retag_entry
decreases-retag_entry l = 3 * l.levels + 1

abbrev pub decreases-retag_below : goal.decreases-retag_below
decreases-retag_below l = 3 * l.levels + 2

abbrev pub decreases-retag_node : goal.decreases-retag_node
decreases-retag_node l = 3 * l.levels

-- the entries from the next one on are as they were, and those before it are done
abbrev pub invariant-retag_below-loop-i : goal.invariant-retag_below-loop-i
invariant-retag_below-loop-i l =
    let sizes = λ (e : InnerEntry). size l.levels (out-InnerEntry e).child in
    (drop l.i l.entries ≡ drop l.i l.fn.entries)
    × (take l.i l.entries ++ retagged_below (size l.levels) (retagged_from l.tags l.levels) l.at (drop l.i l.fn.entries) ≡ retagged_below (size l.levels) (retagged_from l.tags l.levels) l.first l.fn.entries)
    × (l.at + sum_by sizes (drop l.i l.fn.entries) ≡ l.first + sum_by sizes l.fn.entries)
    × AllByRecursion (λ e. IsLeveled l.levels (out-InnerEntry e).child) (drop l.i l.fn.entries)
    × (length l.entries ≡ length l.fn.entries)
