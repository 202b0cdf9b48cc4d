use Rattle.std.proofs.Common.{◌≢◌, [], ◌∷◌, List, sym, subst}
use Rattle.std.specs.List.{AllByRecursion}
use Rattle.mtree_node.specs.Preorder.{LeafRow}
use Rattle.page_layout.specs.Leaves.{IsLeafRow}
use Rattle.page_layout.proofs.body.fill_leaf.Goals as goal

numbers : (rows : List LeafRow) → AllByRecursion IsLeafRow rows → AllByRecursion (λ (row : LeafRow). row.0 ≢ 0) rows
numbers [] each = tt
numbers (row ∷ rows) each = (each.0.number, numbers rows each.1)

pub write_leaf-requires-clause-numbers : goal.write_leaf-requires-clause-numbers
write_leaf-requires-clause-numbers c = numbers c.as_slice.result.now (subst (AllByRecursion IsLeafRow) (sym c.as_slice.ensures) c.requires.rows.each)
