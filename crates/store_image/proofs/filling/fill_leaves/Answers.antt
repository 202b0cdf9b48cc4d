use Rattle.std.proofs.Common.{◌≤◌, ◌<◌, List, [], length, set, get_or, sym, ◌∙◌, ap, subst, arith}
use Rattle.std.specs.Prelude.{◌≢◌}
use Rattle.std.specs.List.{AllByRecursion}
use Rattle.mtree_node.specs.Preorder.{LeafRow}
use Rattle.tree_layout.specs.Layouts.{leaf_for}
use Rattle.page_layout.specs.Leaves.{IsLeaf, leaf_page}
use Rattle.store_image.proofs.PlanFilling.{all_at, leaf_numbers, half, half_leaves, half_free, half_next}
use Rattle.store_image.proofs.filling.fill_leaves.Goals as goal

pub write_leaf-requires-clause-few : goal.write_leaf-requires-clause-few
write_leaf-requires-clause-few c =
    let f = leaf_for c.args.shapes.now in
    let is : IsLeaf (f (get_or c.args.leaves.now c.loop-slot.slot 0)) = all_at IsLeaf f c.args.leaves.now c.loop-slot.slot c.loop-slot-test.true c.requires.each in
    subst (λ (l : List LeafRow). length l ≤ 30) (sym c.leaf_at.ensures) is.few

pub write_leaf-requires-clause-numbers : goal.write_leaf-requires-clause-numbers
write_leaf-requires-clause-numbers c =
    let f = leaf_for c.args.shapes.now in
    let is : IsLeaf (f (get_or c.args.leaves.now c.loop-slot.slot 0)) = all_at IsLeaf f c.args.leaves.now c.loop-slot.slot c.loop-slot-test.true c.requires.each in
    subst (λ (l : List LeafRow). AllByRecursion (λ row. row.0 ≢ 0) l) (sym c.leaf_at.ensures) (leaf_numbers _ is.each)

pub loop-slot-preserved : goal.loop-slot-preserved
loop-slot-preserved c =
    let f = leaf_for c.args.shapes.now in
    let ns = c.args.leaves.now in
    let i = c.loop-slot.slot in
    let lt : i < length ns = c.loop-slot-test.true in
    let within : i ≤ length ns = omega (arith, lt) in
    c.write_leaf.ensures _ (half_leaves f ns i within c.requires) (half_free [] f ns i lt) c.loop-slot.invariant
    ∙ ap (λ (rows : List LeafRow). leaf_page (set (half [] f ns i) i rows)) c.leaf_at.ensures
    ∙ ap leaf_page (half_next [] f ns i lt)
