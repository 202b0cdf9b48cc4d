-- The nodes of a tree in preorder, and a tree with other tags.
use Rattle.std.specs.Prelude.{ℕ, List, [], Option, Some, None, option_map}
use Rattle.mtree_node.specs.declared.node.Node.{Node}
use Rattle.mtree_node.specs.declared.shape.Shape.{Shape}
use Rattle.mtree_node.specs.Preorder.{preorder, retagged}
use Rattle.mtree_index.specs.Plain.{PlainTree}

abbrev pub shapes_at : ℕ → Option Node → List Shape
shapes_at height None = []
shapes_at height (Some n) = preorder height n

-- the nodes of a tree in preorder, none of the empty tree
abbrev pub shapes_of : PlainTree → List Shape
shapes_of t = shapes_at t.height t.root

-- a tree with these tags, one for each node in preorder
abbrev pub with_tags : List ℕ → PlainTree → PlainTree
with_tags tags t = record t { root = option_map (retagged tags t.height) t.root }
