-- Which trees are well formed, and what records a tree holds. A definition goes down one level at a time, by the height.
use Rattle.std.specs.Prelude.{◌≡◌, ℕ, zero, suc, ◌<◌, ◌≤◌, ◌==◌, List, [], length, map, count_by, Option, Some, None}
use Rattle.std.specs.List.{AllByRecursion, flat_map}
use Rattle.std.specs.FinMap as finite
use Rattle.vec_record.specs.Vectors.{IsVector}
use Rattle.vec_record.specs.Held.{Rows}
use Rattle.mtree_node.specs.declared.node.LeafEntry.{LeafEntry}
use Rattle.mtree_node.specs.declared.node.InnerEntry.{out-InnerEntry}
use Rattle.mtree_node.specs.declared.node.Node.{Node, out-Node}
use Rattle.mtree_node.specs.declared.node.Node.TheOpen.{Node-F}
use Rattle.mtree_node.specs.Layer.{Layer, EntryLayer}

abbrev pub leaves_in : (Node → List LeafEntry) → Layer → List LeafEntry
leaves_in below (Node-F.Leaf tag es) = es
leaves_in below (Node-F.Inner tag es) = flat_map (λ e. below (out-InnerEntry e).child) es

-- the leaf entries below a node, from the first leaf to the last
abbrev pub leaves : ℕ → Node → List LeafEntry
leaves zero n = []
leaves (suc h) n = leaves_in (leaves h) (out-Node n)

-- a leaf entry's record
abbrev pub record_of : LeafEntry → ℕ × List ℕ
record_of e = (e.number, e.vector)

-- the records of a tree, by their numbers
abbrev pub records : ℕ → Node → Rows
records h n = finite.from_entries (map record_of (leaves h n))

-- no number stands twice
abbrev pub AreDistinct : List LeafEntry → Type 0
AreDistinct es = (number : ℕ) → count_by (λ e. e.number == number) es ≤ 1

abbrev pub IsLeveledIn : ℕ → (Node → Type 0) → Layer → Type 0
IsLeveledIn h below (Node-F.Leaf tag es) = (h ≡ 0) × (length es ≤ 30)
IsLeveledIn h below (Node-F.Inner tag es) = (0 < h) × (1 ≤ length es) × (length es ≤ 30) × AllByRecursion (λ e. below (out-InnerEntry e).child) es

-- the leaves are all on the level that the height says, no node has more than 30 entries, and each inner node has some
abbrev pub IsLeveled : ℕ → Node → Type 0
IsLeveled zero n = ⊥
IsLeveled (suc h) n = IsLeveledIn h (IsLeveled h) (out-Node n)

-- what a walk over all nodes asks of a tree: its leaves are all on one level, of at most 6
abbrev pub IsLevel : Node → Type 0
IsLevel n = (levels : ℕ) × (levels ≤ 6) × IsLeveled levels n

-- a node has at most 30 entries, and at least 7. The root has at least its own lower bound
abbrev pub IsFilled : Option (List ℕ) → ℕ → ℕ → Type 0
IsFilled None low entries = (low ≤ entries) × (entries ≤ 30)
IsFilled (Some object) low entries = (7 ≤ entries) × (entries ≤ 30)

module _ (dist : List ℕ → List ℕ → ℕ) where
  -- the distance from the object of the node that an entry stands in, 0 in the root
  abbrev pub parent_distance : Option (List ℕ) → List ℕ → ℕ
  parent_distance None v = 0
  parent_distance (Some object) v = dist object v

  module _ (width greatest : ℕ) where
    -- a leaf entry: a vector of the width with its exact parent distance
    pub record IsLeafEntry (over : Option (List ℕ)) (e : LeafEntry) : Type 0 where
      pub vector : IsVector width e.vector
      pub parent : e.parent ≡ parent_distance over e.vector

    -- an inner entry: an object of the width with its exact parent distance, and a radius that reaches to each vector below and isn't above the greatest distance
    pub record IsInnerEntry (below : List ℕ → Node → Type 0) (under : Node → List LeafEntry) (over : Option (List ℕ)) (e : EntryLayer) : Type 0 where
      pub object : IsVector width e.object
      pub parent : e.parent ≡ parent_distance over e.object
      pub radius : e.radius ≤ greatest
      pub covers : AllByRecursion (λ l. dist e.object l.vector ≤ e.radius) (under e.child)
      pub child : below e.object e.child

    abbrev pub IsNodeIn : ℕ → (List ℕ → Node → Type 0) → (Node → List LeafEntry) → Option (List ℕ) → Layer → Type 0
    IsNodeIn h below under over (Node-F.Leaf tag es) = (h ≡ 0) × IsFilled over 1 (length es) × AllByRecursion (IsLeafEntry over) es
    IsNodeIn h below under over (Node-F.Inner tag es) = (0 < h) × IsFilled over 2 (length es) × AllByRecursion (λ e. IsInnerEntry below under over (out-InnerEntry e)) es

    -- a node below an entry with this object, none for the root: well filled, with lawful entries, and all leaves on the level that the height says
    abbrev pub IsNode : ℕ → Option (List ℕ) → Node → Type 0
    IsNode zero over n = ⊥
    IsNode (suc h) over n = IsNodeIn h (λ object m. IsNode h (Some object) m) (leaves h) over (out-Node n)

    -- a well-formed tree: a root whose leaves hold no number twice
    pub record IsTree (h : ℕ) (n : Node) : Type 0 where
      pub node : IsNode h None n
      pub distinct : AreDistinct (leaves h n)
