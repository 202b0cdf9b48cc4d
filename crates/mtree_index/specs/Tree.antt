-- The trees that the tree's type keeps, what they hold and cost, and the tree after an insertion.
use Rattle.std.specs.Prelude.{◌≡◌, ℕ, ◌+◌, ◌≤◌, List, [], ◌∷◌, map, Option, Some, None}
use Rattle.std.specs.FinMap as finite
use Rattle.vec_record.specs.Vectors.{IsWidth}
use Rattle.vec_record.specs.Held.{Rows}
use Rattle.mtree_node.specs.declared.node.LeafEntry.{LeafEntry}
use Rattle.mtree_node.specs.declared.node.Node.{Node}
use Rattle.mtree_node.specs.declared.node.Node.TheVariants as node
use Rattle.mtree_node.specs.Tree.{leaves, record_of, IsTree}
use Rattle.mtree_node.specs.Cost.{cost}
use Rattle.mtree_index.specs.Plain.{PlainTree}
use Rattle.mtree_index.specs.Insertion.{Outcome, Stays, Splits, new_entry, inserted}

-- the leaf entries below a root, none in the empty tree
abbrev pub leaves_of : ℕ → Option Node → List LeafEntry
leaves_of h None = []
leaves_of h (Some n) = leaves h n

-- the vectors below a root, by their numbers
abbrev pub records_of : ℕ → Option Node → Rows
records_of h root = finite.from_entries (map record_of (leaves_of h root))

-- the vectors of a tree, by their numbers
abbrev pub contents : PlainTree → Rows
contents t = records_of t.height t.root

abbrev pub root_cost : (List ℕ → List ℕ → ℕ) → ℕ → Option Node → List ℕ → ℕ → ℕ
root_cost dist h None centre radius = 0
root_cost dist h (Some n) centre radius = cost dist centre radius h None n

-- the distances that a range query computes, by its centre and radius
abbrev pub query_cost : (List ℕ → List ℕ → ℕ) → PlainTree → List ℕ → ℕ → ℕ
query_cost dist t centre radius = root_cost dist t.height t.root centre radius

-- the empty tree has the height 0, and any other is well formed
abbrev pub IsRoot : (List ℕ → List ℕ → ℕ) → ℕ → ℕ → ℕ → Option Node → Type 0
IsRoot dist width greatest h None = h ≡ 0
IsRoot dist width greatest h (Some n) = IsTree dist width greatest h n

-- the trees that the type keeps: a lawful width, a well-formed root, and at most 6 levels
pub record IsLawful (dist : List ℕ → List ℕ → ℕ) (most : ℕ → ℕ) (t : PlainTree) : Type 0 where
  pub width : IsWidth t.width
  pub root : IsRoot dist t.width (most t.width) t.height t.root
  pub low : t.height ≤ 6

-- the tree whose root had this outcome: a root that was split gets a new root above it
abbrev pub rooted : ℕ → ℕ → Outcome → PlainTree
rooted width h (Stays n) = record { width = width; height = h; root = Some n }
rooted width h (Splits left right) = record { width = width; height = h + 1; root = Some (node.Inner 0 (left ∷ right ∷ [])) }

module _ (dist : List ℕ → List ℕ → ℕ) where
  -- the tree with this root after an insertion. The first vector makes a leaf
  abbrev pub grown_from : ℕ → ℕ → List ℕ → ℕ → ℕ → Option Node → PlainTree
  grown_from greatest number v width h None = record { width = width; height = 1; root = Some (node.Leaf 0 (new_entry dist greatest number v None ∷ [])) }
  grown_from greatest number v width h (Some n) = rooted width h (inserted dist greatest number v h None n)

  module _ (most : ℕ → ℕ) where
    -- the tree after the insertion of a number and a vector
    abbrev pub after_insertion : ℕ → List ℕ → PlainTree → PlainTree
    after_insertion number v t = grown_from (most t.width) number v t.width t.height t.root

    -- a tree before and after an insertion, which adds the pair to what it holds
    pub record IsInserted (before after : PlainTree) (number : ℕ) (v : List ℕ) : Type 0 where
      pub tree : after ≡ after_insertion number v before
      pub width : after.width ≡ before.width
      pub contents : contents after ≡ finite.insert (contents before) number v
