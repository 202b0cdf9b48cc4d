-- Laws over the definitions.
use Rattle.std.specs.Prelude.{◌≡◌, ◌≤◌, ℕ, List, [], length, map, None}
use Rattle.std.specs.FinMap as finite
use Rattle.mtree_node.specs.declared.node.Node.{Node}
use Rattle.mtree_node.specs.declared.shape.Shape.{Shape}
use Rattle.mtree_node.specs.declared.shape.Shape.TheVariants as shape
use Rattle.mtree_node.specs.Tree.{records, IsLeveled, IsTree}
use Rattle.mtree_node.specs.Preorder.{size, preorder, retagged}
use Rattle.mtree_node.specs.Walk.{Builds, walk, start, CanBeBuilt}

-- the walk over the preorder of a well-formed tree and its records builds that tree, reaches each shape and names each record
abbrev pub TreesComeBack : Type 0
TreesComeBack = (dist : List ℕ → List ℕ → ℕ) (width greatest h : ℕ) (n : Node) → IsTree dist width greatest h n
    → walk dist h None (start (preorder h n) (records h n)) ≡ Builds n (record { next = size h n; rest = []; left = finite.empty })

-- the preorder of a well-formed tree has what shapes need to be asked, over the tree's records
abbrev pub TreesCanBeBuilt : Type 0
TreesCanBeBuilt = (dist : List ℕ → List ℕ → ℕ) (width greatest h : ℕ) (n : Node) → IsTree dist width greatest h n → h ≤ 6 → length (preorder h n) ≤ 200000 → CanBeBuilt width greatest h (preorder h n) (records h n)

abbrev pub tag_of : Shape → ℕ
tag_of (shape.Leaf tag rows) = tag
tag_of (shape.Inner tag rows) = tag

-- new tags stand in the preorder one after the other
abbrev pub TagsAreInPreorder : Type 0
TagsAreInPreorder = (tags : List ℕ) (h : ℕ) (n : Node) → IsLeveled h n → length tags ≡ size h n → map tag_of (preorder h (retagged tags h n)) ≡ tags

-- tags are nothing that a tree's form rests on
abbrev pub TagsAreFree : Type 0
TagsAreFree = (dist : List ℕ → List ℕ → ℕ) (width greatest h : ℕ) (n : Node) (tags : List ℕ) → IsTree dist width greatest h n → IsTree dist width greatest h (retagged tags h n)
