-- Distances that are equal on all vectors of a width, and what they have in common.
use Rattle.std.specs.Prelude.{◌≡◌, ℕ, List, None}
use Rattle.std.specs.List.{AllByRecursion}
use Rattle.vec_record.specs.Held.{Rows, HaveWidth}
use Rattle.vec_record.specs.Vectors.{IsVector}
use Rattle.mtree_node.specs.declared.node.Node.{Node}
use Rattle.mtree_node.specs.declared.shape.Shape.{Shape}
use Rattle.mtree_node.specs.declared.shape.Shape.TheVariants as shape
use Rattle.mtree_node.specs.Preorder.{InnerRow}
use Rattle.mtree_node.specs.Tree.{IsTree}
use Rattle.mtree_node.specs.Walk.{walk, start, first_failing}

-- The type of a distance.
abbrev pub Distance : Type 0
Distance = List ℕ → List ℕ → ℕ

-- Two distances are equal on all vectors of a width.
abbrev pub AreAlike : ℕ → Distance → Distance → Type 0
AreAlike width dist other =
    (u v : List ℕ) → IsVector width u → IsVector width v → dist u v ≡ other u v

-- The objects of a shape are vectors of a width.
abbrev pub HasObjects : ℕ → Shape → Type 0
HasObjects width (shape.Leaf tag rows) = Unit {0}
HasObjects width (shape.Inner tag rows) =
    AllByRecursion (λ (row : InnerRow). IsVector width row.3) rows

-- All objects of the shapes and all vectors of the records have a width.
pub record HaveVectors (width : ℕ) (shapes : List Shape) (rows : Rows) : Type 0 where
  pub objects : AllByRecursion (HasObjects width) shapes
  pub records : HaveWidth width rows

-- Such distances lead to the same walk.
abbrev pub WalksAreAlike : Type 0
WalksAreAlike = (width : ℕ) (dist other : Distance) → AreAlike width dist other
    → (h : ℕ) (shapes : List Shape) (rows : Rows) → HaveVectors width shapes rows
    → walk dist h None (start shapes rows) ≡ walk other h None (start shapes rows)

-- Such distances lead to the same first failing place.
abbrev pub FailuresAreAlike : Type 0
FailuresAreAlike = (width : ℕ) (dist other : Distance) → AreAlike width dist other
    → (h : ℕ) (shapes : List Shape) (rows : Rows) → HaveVectors width shapes rows
    → first_failing dist h shapes rows ≡ first_failing other h shapes rows

-- A tree that is well formed under one such distance is so under the other.
abbrev pub TreesAreAlike : Type 0
TreesAreAlike = (width : ℕ) (dist other : Distance) → AreAlike width dist other
    → (greatest h : ℕ) (n : Node) → IsTree dist width greatest h n → IsTree other width greatest h n
