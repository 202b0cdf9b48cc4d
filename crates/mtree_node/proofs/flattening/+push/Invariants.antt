use Rattle.std.proofs.Common.{◌≡◌, ◌+◌, ◌++◌, drop, length, sum_by}
use Rattle.std.specs.List.{AllByRecursion}
use Rattle.mtree_node.specs.declared.node.InnerEntry.{InnerEntry, out-InnerEntry}
use Rattle.mtree_node.specs.Tree.{IsLeveled}
use Rattle.mtree_node.specs.Preorder.{size, shapes_from, shapes_below}
use Rattle.mtree_node.proofs.flattening.+push.Given as goal

abbrev pub invariant-push_below-loop-entry : goal.invariant-push_below-loop-entry
invariant-push_below-loop-entry l =
    let sizes = λ (e : InnerEntry). size l.levels (out-InnerEntry e).child in
    (l.shapes ++ shapes_below (size l.levels) (shapes_from l.levels) (length l.shapes) (drop l.entry-index l.entries)
    ≡ l.fn.shapes ++ shapes_below (size l.levels) (shapes_from l.levels) (length l.fn.shapes) l.entries)
    × (length l.shapes + sum_by sizes (drop l.entry-index l.entries) ≡ length l.fn.shapes + sum_by sizes l.entries)
    × AllByRecursion (λ e. IsLeveled l.levels (out-InnerEntry e).child) (drop l.entry-index l.entries)
