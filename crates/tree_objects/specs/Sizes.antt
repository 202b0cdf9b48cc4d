-- How many shapes of either kind the preorder of a tree has.
use Rattle.std.specs.Prelude.{◌≡◌, ◌+◌, ◌/◌, ◌≤◌, Bool, true, false, length, count_by}
use Rattle.mtree_node.specs.declared.shape.Shape.{Shape}
use Rattle.mtree_node.specs.declared.shape.Shape.TheVariants as shape
use Rattle.mtree_node.specs.Preorder.{preorder}
use Rattle.mtree_node.specs.Tree.{leaves}
use Rattle.mtree_index.specs.Laws.{OfEachTree}

-- a leaf's shape
abbrev pub is_leaf : Shape → Bool
is_leaf (shape.Leaf tag rows) = true
is_leaf (shape.Inner tag rows) = false

-- an inner node's shape
abbrev pub is_inner : Shape → Bool
is_inner (shape.Leaf tag rows) = false
is_inner (shape.Inner tag rows) = true

-- a tree has at most one leaf for 7 leaf entries, and one more
abbrev pub HaveFewLeafShapes : Type 0
HaveFewLeafShapes =
    OfEachTree (λ h n. count_by is_leaf (preorder h n) ≤ length (leaves h n) / 7 + 1)

-- a tree has at most one inner node for 42 leaf entries, and one more
abbrev pub HaveFewInnerShapes : Type 0
HaveFewInnerShapes =
    OfEachTree (λ h n. count_by is_inner (preorder h n) ≤ length (leaves h n) / 42 + 1)

-- a tree has a leaf
abbrev pub HaveALeafShape : Type 0
HaveALeafShape = OfEachTree (λ h n. 1 ≤ count_by is_leaf (preorder h n))

-- each shape is of one of the two kinds
abbrev pub HaveTwoKinds : Type 0
HaveTwoKinds = OfEachTree (λ h n.
    count_by is_leaf (preorder h n) + count_by is_inner (preorder h n) ≡ length (preorder h n))
