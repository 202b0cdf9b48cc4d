-- The nodes of a tree as a list of shapes, from the root on, each before its children.
use Rattle.std.specs.Prelude.{ℕ, zero, suc, ◌+◌, List, [], ◌∷◌, ◌++◌, map, sum_by, slice_index}
use Rattle.mtree_node.specs.declared.node.LeafEntry.{LeafEntry}
use Rattle.mtree_node.specs.declared.node.InnerEntry.{InnerEntry, out-InnerEntry, roll-InnerEntry}
use Rattle.mtree_node.specs.declared.node.Node.{Node, out-Node}
use Rattle.mtree_node.specs.declared.node.Node.TheOpen.{Node-F}
use Rattle.mtree_node.specs.declared.node.Node.TheVariants as node
use Rattle.mtree_node.specs.declared.shape.Shape.{Shape}
use Rattle.mtree_node.specs.declared.shape.Shape.TheVariants as shape
use Rattle.mtree_node.specs.Layer.{Layer, EntryLayer}

-- a leaf entry in a shape: its number and parent distance
abbrev pub LeafRow : Type 0
LeafRow = ℕ × ℕ

-- an inner entry in a shape: the child's place, the parent distance, the radius and the object
abbrev pub InnerRow : Type 0
InnerRow = ℕ × ℕ × ℕ × List ℕ

abbrev pub size_in : (Node → ℕ) → Layer → ℕ
size_in below (Node-F.Leaf tag es) = 1
size_in below (Node-F.Inner tag es) = 1 + sum_by (λ e. below (out-InnerEntry e).child) es

-- how many nodes a tree has
abbrev pub size : ℕ → Node → ℕ
size zero n = 0
size (suc h) n = size_in (size h) (out-Node n)

abbrev pub leaf_row : LeafEntry → LeafRow
leaf_row e = (e.number, e.parent)

abbrev pub inner_row : ℕ → EntryLayer → InnerRow
inner_row at e = (at, e.parent, e.radius, e.object)

-- the rows of inner entries whose children's nodes stand one after the other from a place on
abbrev pub inner_rows : (Node → ℕ) → ℕ → List InnerEntry → List InnerRow
inner_rows size at [] = []
inner_rows size at (e ∷ es) = inner_row at (out-InnerEntry e) ∷ inner_rows size (at + size (out-InnerEntry e).child) es

-- the shapes below inner entries, from a place on
abbrev pub shapes_below : (Node → ℕ) → (ℕ → Node → List Shape) → ℕ → List InnerEntry → List Shape
shapes_below size shapes at [] = []
shapes_below size shapes at (e ∷ es) = shapes at (out-InnerEntry e).child ++ shapes_below size shapes (at + size (out-InnerEntry e).child) es

abbrev pub shapes_in : (Node → ℕ) → (ℕ → Node → List Shape) → ℕ → Layer → List Shape
shapes_in size shapes at (Node-F.Leaf tag es) = shape.Leaf tag (map leaf_row es) ∷ []
shapes_in size shapes at (Node-F.Inner tag es) = shape.Inner tag (inner_rows size (at + 1) es) ∷ shapes_below size shapes (at + 1) es

-- the shapes of a node and of all below it, where the node's own stands at a place
abbrev pub shapes_from : ℕ → ℕ → Node → List Shape
shapes_from zero at n = []
shapes_from (suc h) at n = shapes_in (size h) (shapes_from h) at (out-Node n)

-- the shapes of a tree: its nodes in preorder
abbrev pub preorder : ℕ → Node → List Shape
preorder h n = shapes_from h 0 n

abbrev pub retagged_entry : (Node → Node) → EntryLayer → InnerEntry
retagged_entry below e = roll-InnerEntry (record { object = e.object; radius = e.radius; parent = e.parent; child = below e.child })

abbrev pub retagged_below : (Node → ℕ) → (ℕ → Node → Node) → ℕ → List InnerEntry → List InnerEntry
retagged_below size below at [] = []
retagged_below size below at (e ∷ es) = retagged_entry (below at) (out-InnerEntry e) ∷ retagged_below size below (at + size (out-InnerEntry e).child) es

abbrev pub retagged_in : (Node → ℕ) → (ℕ → Node → Node) → ℕ → ℕ → Layer → Node
retagged_in size below tag at (Node-F.Leaf old es) = node.Leaf tag es
retagged_in size below tag at (Node-F.Inner old es) = node.Inner tag (retagged_below size below (at + 1) es)

-- the node with these tags, its own at a place and those of the nodes below behind it, in preorder
abbrev pub retagged_from : List ℕ → ℕ → ℕ → Node → Node
retagged_from tags zero at n = n
retagged_from tags (suc h) at n = retagged_in (size h) (retagged_from tags h) (slice_index tags at) at (out-Node n)

-- the tree with these tags, one for each node in preorder
abbrev pub retagged : List ℕ → ℕ → Node → Node
retagged tags h n = retagged_from tags h 0 n
