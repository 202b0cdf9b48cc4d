-- One use of each law, with what a store asks for: no vector has a bit past its last one.
use Rattle.std.proofs.Common.{◌≡◌, ℕ, ◌≤◌, List, length, Option, Some, None}
use Rattle.std.proofs.Common.{refl, arith}
use Rattle.std.specs.Prelude.{IsTrue}
use Rattle.std.specs.List.{AllByRecursion}
use Rattle.std.specs.Option.{option_map}
use Rattle.vec_record.specs.declared.kind.MetricKind.{MetricKind}
use Rattle.vec_record.specs.Held.{Rows}
use Rattle.vec_record.specs.Spelled.{is_spelled}
use Rattle.mtree_node.specs.declared.node.Node.{Node}
use Rattle.mtree_node.specs.declared.shape.Shape.{Shape}
use Rattle.mtree_node.specs.Preorder.{preorder, retagged}
use Rattle.mtree_node.specs.Tree.{leaves, records, IsTree}
use Rattle.mtree_node.specs.Walk.{IsTreeOf}
use Rattle.mtree_index.specs.Plain.{PlainTree}
use Rattle.mtree_index.specs.Shrinking.{after_removal, IsRemoved}
use Rattle.mtree_index.specs.Tree.{after_insertion, IsInserted}
use Rattle.tree_objects.specs.Laws.{InsertionsKeep, InsertedKeep, RemovalsKeep, RemovedKeep}
use Rattle.tree_objects.specs.Laws.{TagsKeep, EmptyHasAll, ShapesHaveAll, RecordsHaveAll}
use Rattle.tree_objects.specs.Laws.{TreesHaveAll, BuiltHaveAll}
use Rattle.tree_objects.specs.Objects.{HasAll, RootHasAll, HasAllIn, ShapeHasAll, RowsHaveAll}
use Rattle.tree_objects.specs.Sizes.{HaveFewLeafShapes, HaveFewInnerShapes, HaveALeafShape}
use Rattle.tree_objects.specs.Sizes.{HaveTwoKinds}

module _ (metric : MetricKind) (dim : ℕ) where
  -- no bit is past the vector's last one
  abbrev Spelled : List ℕ → Type 0
  Spelled v = IsTrue (is_spelled metric dim v)

  module _ (dist : List ℕ → List ℕ → ℕ) (most : ℕ → ℕ) (t after : PlainTree) where
    module _ (number : ℕ) (v : List ℕ) where
      use_insertion : InsertionsKeep → Spelled v → HasAllIn Spelled t
          → HasAllIn Spelled (after_insertion dist most number v t)
      use_insertion law = law (is_spelled metric dim) dist most t number v

      use_inserted : InsertedKeep → IsInserted dist most t after number v → Spelled v
          → HasAllIn Spelled t → HasAllIn Spelled after
      use_inserted law = law (is_spelled metric dim) dist most t after number v

      use_removal : RemovalsKeep → Some after ≡ after_removal dist most number v t
          → HasAllIn Spelled t → HasAllIn Spelled after
      use_removal law = law (is_spelled metric dim) dist most t after number v

      use_removed : RemovedKeep → IsRemoved dist most t after number v → HasAllIn Spelled t
          → HasAllIn Spelled after
      use_removed law = law (is_spelled metric dim) dist most t after number v

    use_tags : TagsKeep → (tags : List ℕ) → HasAllIn Spelled t
        → HasAllIn Spelled (record t { root = option_map (retagged tags t.height) t.root })
    use_tags law tags = law (is_spelled metric dim) tags t

  use_empty : EmptyHasAll → (width : ℕ)
      → HasAllIn Spelled (record { width = width; height = 0; root = None })
  use_empty law width =
      law (is_spelled metric dim) (record { width = width; height = 0; root = None }) refl

  module _ (h : ℕ) (n : Node) where
    use_shapes : ShapesHaveAll → HasAll Spelled h n
        → AllByRecursion (ShapeHasAll Spelled) (preorder h n)
    use_shapes law = law (is_spelled metric dim) h n

    use_records : RecordsHaveAll → HasAll Spelled h n → RowsHaveAll Spelled (records h n)
    use_records law = law (is_spelled metric dim) h n

  module _ (dist : List ℕ → List ℕ → ℕ) (width greatest h : ℕ) where
    use_tree : TreesHaveAll → (n : Node) → IsTree dist width greatest h n
        → RowsHaveAll Spelled (records h n)
        → AllByRecursion (ShapeHasAll Spelled) (preorder h n) → HasAll Spelled h n
    use_tree law n = law (is_spelled metric dim) dist width greatest h n

    use_built : BuiltHaveAll → (shapes : List Shape) (rows : Rows) (root : Option Node)
        → IsTreeOf dist width greatest h shapes rows root → RowsHaveAll Spelled rows
        → AllByRecursion (ShapeHasAll Spelled) shapes → RootHasAll Spelled h root
    use_built law shapes rows root =
        law (is_spelled metric dim) dist width greatest h shapes rows root

-- a tree of 200,000 leaf entries has at most 33,334 nodes, and one at least
use_sizes : HaveFewLeafShapes → HaveFewInnerShapes → HaveALeafShape → HaveTwoKinds
    → (dist : List ℕ → List ℕ → ℕ) (width greatest h : ℕ) (n : Node)
    → IsTree dist width greatest h n → length (leaves h n) ≡ 200000
    → (1 ≤ length (preorder h n)) × (length (preorder h n) ≤ 33334)
use_sizes leaf inner some kinds dist width greatest h n t is =
    let a = leaf dist width greatest h n t in
    let b = inner dist width greatest h n t in
    let c = some dist width greatest h n t in
    let d = kinds dist width greatest h n t in
    (omega (arith, a, b, c, d, is), omega (arith, a, b, c, d, is))
