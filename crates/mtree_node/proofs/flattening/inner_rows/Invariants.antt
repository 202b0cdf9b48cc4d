use Rattle.std.proofs.Common.{◌≡◌, ◌+◌, ◌++◌, drop, sum_by}
use Rattle.std.specs.List.{AllByRecursion}
use Rattle.mtree_node.specs.declared.node.InnerEntry.{InnerEntry, out-InnerEntry}
use Rattle.mtree_node.specs.Tree.{IsLeveled}
use Rattle.mtree_node.specs.Preorder.{size, inner_rows}
use Rattle.mtree_node.proofs.flattening.inner_rows.Given as goal

abbrev pub invariant-loop-entry : goal.invariant-loop-entry
invariant-loop-entry l =
    let sizes = λ (e : InnerEntry). size l.levels (out-InnerEntry e).child in
    (l.rows ++ inner_rows (size l.levels) l.place (drop l.entry-index l.entries) ≡ inner_rows (size l.levels) l.first l.entries)
    × (l.place + sum_by sizes (drop l.entry-index l.entries) ≡ l.first + sum_by sizes l.entries)
    × AllByRecursion (λ e. IsLeveled l.levels (out-InnerEntry e).child) (drop l.entry-index l.entries)
