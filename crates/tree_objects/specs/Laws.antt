-- What insertions, removals, new tags and the preorder keep. A test tells the property, so that
-- each law says it of every property that a test can tell.
use Rattle.std.specs.Prelude.{◌≡◌, ℕ, Bool, IsTrue, List, Option, Some, None}
use Rattle.std.specs.List.{AllByRecursion}
use Rattle.std.specs.Option.{option_map}
use Rattle.vec_record.specs.Held.{Rows}
use Rattle.mtree_node.specs.declared.node.Node.{Node}
use Rattle.mtree_node.specs.declared.shape.Shape.{Shape}
use Rattle.mtree_node.specs.Tree.{records, IsTree}
use Rattle.mtree_node.specs.Preorder.{preorder, retagged}
use Rattle.mtree_node.specs.Walk.{IsTreeOf}
use Rattle.mtree_index.specs.Plain.{PlainTree}
use Rattle.mtree_index.specs.Shrinking.{after_removal, IsRemoved}
use Rattle.mtree_index.specs.Tree.{after_insertion, IsInserted}
use Rattle.tree_objects.specs.Objects.{HasAll, RootHasAll, HasAllIn, ShapeHasAll, RowsHaveAll}

-- a vector passes a test
abbrev pub Passes : (List ℕ → Bool) → List ℕ → Type 0
Passes test v = IsTrue (test v)

-- each vector and each routing object of a tree passes a test
abbrev pub AllPass : (List ℕ → Bool) → PlainTree → Type 0
AllPass test t = HasAllIn (Passes test) t

-- each routing object of some shapes passes a test
abbrev pub ShapesPass : (List ℕ → Bool) → List Shape → Type 0
ShapesPass test shapes = AllByRecursion (ShapeHasAll (Passes test)) shapes

-- each vector of some records passes a test
abbrev pub RowsPass : (List ℕ → Bool) → Rows → Type 0
RowsPass test rows = RowsHaveAll (Passes test) rows

-- where a vector passes and all in a tree do, all in the tree after the vector's insertion do
abbrev pub InsertionsKeep : Type 0
InsertionsKeep =
    (test : List ℕ → Bool) (dist : List ℕ → List ℕ → ℕ) (most : ℕ → ℕ) (t : PlainTree)
    (number : ℕ) (v : List ℕ)
    → IsTrue (test v) → AllPass test t → AllPass test (after_insertion dist most number v t)

-- the same of two trees that an insertion relates
abbrev pub InsertedKeep : Type 0
InsertedKeep =
    (test : List ℕ → Bool) (dist : List ℕ → List ℕ → ℕ) (most : ℕ → ℕ)
    (before after : PlainTree) (number : ℕ) (v : List ℕ)
    → IsInserted dist most before after number v
    → IsTrue (test v) → AllPass test before → AllPass test after

-- where all in a tree pass, all in the tree after a removal do
abbrev pub RemovalsKeep : Type 0
RemovalsKeep =
    (test : List ℕ → Bool) (dist : List ℕ → List ℕ → ℕ) (most : ℕ → ℕ)
    (t after : PlainTree) (number : ℕ) (v : List ℕ)
    → Some after ≡ after_removal dist most number v t → AllPass test t → AllPass test after

-- the same of two trees that a removal relates
abbrev pub RemovedKeep : Type 0
RemovedKeep =
    (test : List ℕ → Bool) (dist : List ℕ → List ℕ → ℕ) (most : ℕ → ℕ)
    (before after : PlainTree) (number : ℕ) (v : List ℕ)
    → IsRemoved dist most before after number v → AllPass test before → AllPass test after

-- where all in a tree pass, all in the tree with other tags do
abbrev pub TagsKeep : Type 0
TagsKeep =
    (test : List ℕ → Bool) (tags : List ℕ) (t : PlainTree) → AllPass test t
    → AllPass test (record t { root = option_map (retagged tags t.height) t.root })

-- all in a tree without a root pass
abbrev pub EmptyHasAll : Type 0
EmptyHasAll = (test : List ℕ → Bool) (t : PlainTree) → t.root ≡ None → AllPass test t

-- where all in a tree pass, all in its preorder do
abbrev pub ShapesHaveAll : Type 0
ShapesHaveAll =
    (test : List ℕ → Bool) (h : ℕ) (n : Node) → HasAll (Passes test) h n
    → ShapesPass test (preorder h n)

-- where all in a tree pass, all in its records do
abbrev pub RecordsHaveAll : Type 0
RecordsHaveAll =
    (test : List ℕ → Bool) (h : ℕ) (n : Node) → HasAll (Passes test) h n
    → RowsPass test (records h n)

-- where all in the preorder and in the records of a well-formed tree pass, all in the tree do
abbrev pub TreesHaveAll : Type 0
TreesHaveAll =
    (test : List ℕ → Bool) (dist : List ℕ → List ℕ → ℕ) (width greatest h : ℕ) (n : Node)
    → IsTree dist width greatest h n → RowsPass test (records h n)
    → ShapesPass test (preorder h n) → HasAll (Passes test) h n

-- the same of the root of a tree that is that of some shapes over some records
abbrev pub BuiltHaveAll : Type 0
BuiltHaveAll =
    (test : List ℕ → Bool) (dist : List ℕ → List ℕ → ℕ) (width greatest h : ℕ)
    (shapes : List Shape) (rows : Rows) (root : Option Node)
    → IsTreeOf dist width greatest h shapes rows root → RowsPass test rows
    → ShapesPass test shapes → RootHasAll (Passes test) h root
