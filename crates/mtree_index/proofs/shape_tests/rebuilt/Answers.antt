use Rattle.std.proofs.Common.{◌≡◌, ◌*◌, ◌≤◌, ℕ, List, Option, length, Some, None, sym, ap, subst, ◌∙◌, arith, Bor}
use Rattle.std.specs.Prelude.{IfSome}
use Rattle.std.specs.Option.{option_copied}
use Rattle.vec_record.specs.Distance.{sum_apart}
use Rattle.vec_record.specs.Held.{Rows}
use Rattle.mtree_node.specs.declared.node.Node.{Node}
use Rattle.mtree_node.specs.declared.shape.Shape.{Shape}
use Rattle.mtree_node.specs.Tree.{records, IsTree}
use Rattle.mtree_node.specs.Preorder.{preorder}
use Rattle.mtree_node.specs.Walk.{CanBeBuilt, IsTreeOf}
use Rattle.mtree_node.proofs.Asked.{trees_can_be_built}
use Rattle.mtree_index.specs.Tree.{records_of}
use Rattle.mtree_node.proofs.Tags.{node_is_leveled}
use Rattle.mtree_index.proofs.Shapes.{tree_level, same_tree}
use Rattle.mtree_index.proofs.shape_tests.rebuilt.Goals as goal

pub flatten-requires : goal.flatten-requires
flatten-requires g c =
    let t = c.args.tree.now in
    let tree : IsTree sum_apart t.width (255 * t.width) t.height c.in-Some.root.now = subst (λ (o : Option (Bor Node)). IfSome o (λ n. IsTree sum_apart t.width (255 * t.width) t.height n.now)) c.in-Some.is c.root.ensures.tree in
    record { leveled = tree_level sum_apart t.width (255 * t.width) t.height c.in-Some.root.now c.root.ensures.low tree }

pub from_shapes-requires : goal.from_shapes-requires
from_shapes-requires g c =
    let t = c.args.tree.now in
    let n = c.in-Some.root.now in
    let tree : IsTree sum_apart t.width (255 * t.width) t.height n = subst (λ (o : Option (Bor Node)). IfSome o (λ m. IsTree sum_apart t.width (255 * t.width) t.height m.now)) c.in-Some.is c.root.ensures.tree in
    let root : t.root ≡ Some n = sym c.root.ensures.is ∙ ap option_copied c.in-Some.is in
    let shapes : c.in_ok-shapes.shapes ≡ preorder t.height n = c.in_ok-shapes.ensures.is t.height (node_is_leveled sum_apart t.width (255 * t.width) t.height None n tree.node) in
    let rows : records t.height n ≡ c.args.records.now.vectors = ap (records_of t.height) (sym root) ∙ c.requires.same in
    let few : length (preorder t.height n) ≤ 200000 = omega (arith, ap (λ (ss : List Shape). length ss) shapes) in
    let whole : CanBeBuilt t.width (255 * t.width) t.height (preorder t.height n) (records t.height n) = trees_can_be_built sum_apart t.width (255 * t.width) t.height n tree c.root.ensures.low few in
    subst (λ (w : ℕ). CanBeBuilt w (255 * w) c.height.result c.in_ok-shapes.shapes c.args.records.now.vectors) c.requires.width
    (subst (λ (h : ℕ). CanBeBuilt t.width (255 * t.width) h c.in_ok-shapes.shapes c.args.records.now.vectors) (sym c.height.ensures.is)
    (subst (λ (ss : List Shape). CanBeBuilt t.width (255 * t.width) t.height ss c.args.records.now.vectors) (sym shapes) (subst (λ (r : Rows). CanBeBuilt t.width (255 * t.width) t.height (preorder t.height n) r) rows whole)))

pub returns-in-Ok : goal.returns-in-Ok
returns-in-Ok g c =
    let t = c.args.tree.now in
    let n = c.in-Some.root.now in
    let tree : IsTree sum_apart t.width (255 * t.width) t.height n = subst (λ (o : Option (Bor Node)). IfSome o (λ m. IsTree sum_apart t.width (255 * t.width) t.height m.now)) c.in-Some.is c.root.ensures.tree in
    let root : t.root ≡ Some n = sym c.root.ensures.is ∙ ap option_copied c.in-Some.is in
    let shapes : c.in_ok-shapes.shapes ≡ preorder t.height n = c.in_ok-shapes.ensures.is t.height (node_is_leveled sum_apart t.width (255 * t.width) t.height None n tree.node) in
    let rows : records t.height n ≡ c.args.records.now.vectors = ap (records_of t.height) (sym root) ∙ c.requires.same in
    let whole : IsTreeOf sum_apart t.width (255 * t.width) t.height c.in_ok-shapes.shapes c.args.records.now.vectors (Some n) = (tree, sym shapes, rows) in
    let there : IsTreeOf sum_apart c.args.records.now.width (255 * c.args.records.now.width) c.height.result c.in_ok-shapes.shapes c.args.records.now.vectors (Some n) =
    subst (λ (w : ℕ). IsTreeOf sum_apart w (255 * w) c.height.result c.in_ok-shapes.shapes c.args.records.now.vectors (Some n)) c.requires.width
    (subst (λ (h : ℕ). IsTreeOf sum_apart t.width (255 * t.width) h c.in_ok-shapes.shapes c.args.records.now.vectors (Some n)) (sym c.height.ensures.is) whole) in
    let size = c.in-Ok.ensures.size in
    same_tree c.in-Ok.built t (size.0 ∙ sym c.requires.width) (size.1 ∙ c.height.ensures.is) (c.in-Ok.ensures.only (Some n) there ∙ sym root)
