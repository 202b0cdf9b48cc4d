-- What holds of each vector and each routing object of a tree.
use Rattle.std.specs.Prelude.{◌≡◌, ℕ, zero, suc, List, Option, Some, None}
use Rattle.std.specs.List.{AllByRecursion}
use Rattle.std.specs.FinMap as finite
use Rattle.vec_record.specs.Held.{Rows}
use Rattle.mtree_node.specs.declared.node.LeafEntry.{LeafEntry}
use Rattle.mtree_node.specs.declared.node.InnerEntry.{InnerEntry, out-InnerEntry}
use Rattle.mtree_node.specs.declared.node.Node.{Node, out-Node}
use Rattle.mtree_node.specs.declared.node.Node.TheOpen.{Node-F}
use Rattle.mtree_node.specs.declared.shape.Shape.{Shape}
use Rattle.mtree_node.specs.declared.shape.Shape.TheVariants as shape
use Rattle.mtree_node.specs.Layer.{Layer}
use Rattle.mtree_node.specs.Preorder.{InnerRow}
use Rattle.mtree_index.specs.Plain.{PlainTree}

module _ (P : List ℕ → Type 0) where
  abbrev pub LayerHasAll : (Node → Type 0) → Layer → Type 0
  LayerHasAll below (Node-F.Leaf tag es) = AllByRecursion (λ (e : LeafEntry). P e.vector) es
  LayerHasAll below (Node-F.Inner tag es) = AllByRecursion
      (λ (e : InnerEntry). P (out-InnerEntry e).object × below (out-InnerEntry e).child) es

  -- each vector of a leaf entry and each routing object of an inner entry has the property, in a
  -- node and in all below it
  abbrev pub HasAll : ℕ → Node → Type 0
  HasAll zero n = Unit {0}
  HasAll (suc h) n = LayerHasAll (HasAll h) (out-Node n)

  abbrev pub RootHasAll : ℕ → Option Node → Type 0
  RootHasAll h None = Unit {0}
  RootHasAll h (Some n) = HasAll h n

  -- the same of a tree, and nothing of the empty one
  abbrev pub HasAllIn : PlainTree → Type 0
  HasAllIn t = RootHasAll t.height t.root

  -- each routing object of a shape has the property
  abbrev pub ShapeHasAll : Shape → Type 0
  ShapeHasAll (shape.Leaf tag rows) = Unit {0}
  ShapeHasAll (shape.Inner tag rows) = AllByRecursion (λ (row : InnerRow). P row.3) rows

  -- each vector of the records has the property
  abbrev pub RowsHaveAll : Rows → Type 0
  RowsHaveAll rows = (number : ℕ) (v : List ℕ) → finite.get rows number ≡ Some v → P v
