-- The tree after an insertion.
use Rattle.std.specs.Prelude.{◌≡◌, ℕ, zero, suc, ◌+◌, ◌-◌, max, if◌then◌else◌, nat_le, nat_lt, List, [], ◌∷◌, ◌++◌, length, map, slice_index, Option, Some, None}
use Rattle.mtree_split.specs.Least.{first_least, beyond}
use Rattle.mtree_node.specs.declared.node.LeafEntry.{LeafEntry}
use Rattle.mtree_node.specs.declared.node.InnerEntry.{InnerEntry, out-InnerEntry, roll-InnerEntry}
use Rattle.mtree_node.specs.declared.node.Node.{Node, out-Node}
use Rattle.mtree_node.specs.declared.node.Node.TheOpen.{Node-F}
use Rattle.mtree_node.specs.declared.node.Node.TheVariants as node
use Rattle.mtree_node.specs.Layer.{Layer, EntryLayer}
use Rattle.mtree_node.specs.Tree.{parent_distance}
use Rattle.mtree_index.specs.declared.split.Half.{Half}
use Rattle.mtree_index.specs.declared.settle.Pair.{Pair}
use Rattle.mtree_index.specs.Entries.{leaf_with_parent, inner_with_parent}
use Rattle.mtree_index.specs.Split.{left_half, right_half}

-- what becomes of a node: it stays as it is then, or two entries take the place of its own
pub data Outcome : Type 0 where
  Stays : Node → Outcome
  Splits : InnerEntry → InnerEntry → Outcome

-- the outcome that a call gives: a node, and the pair of its halves where it was split
abbrev pub outcome : Option Pair → Node → Outcome
outcome None n = Stays n
outcome (Some pair) n = Splits pair.left pair.right

-- the objects of a pair have this width
abbrev pub HasWidth : ℕ → Option Pair → Type 0
HasWidth width None = Unit {0}
HasWidth width (Some pair) = (length (out-InnerEntry pair.left).object ≡ width) × (length (out-InnerEntry pair.right).object ≡ width)

-- the list with other elements in place of the one at a place
abbrev pub replaced_at : {A : Type 0} → ℕ → (A → List A) → List A → List A
replaced_at at f [] = []
replaced_at zero f (x ∷ xs) = f x ++ xs
replaced_at (suc at) f (x ∷ xs) = x ∷ replaced_at at f xs

-- the entry of a half, whose child is this node. Its parent distance is 0 until it stands below an object
abbrev pub entry_of : {A : Type 0} → Half A → Node → InnerEntry
entry_of half child = roll-InnerEntry (record { object = half.object; radius = half.radius; parent = 0; child = child })

-- an entry whose radius isn't exceeded comes before all others, the nearest first; then the one whose radius must grow least
abbrev pub rank : (distance radius : ℕ) → ℕ
rank distance radius = if nat_le distance radius then distance else beyond + (distance - radius)

-- the entry with its radius raised to a distance, and with this child
abbrev pub raised : ℕ → Node → EntryLayer → InnerEntry
raised distance child e = roll-InnerEntry (record { object = e.object; radius = max e.radius distance; parent = e.parent; child = child })

module _ (dist : List ℕ → List ℕ → ℕ) where
  -- an entry that stands in a node with this object
  abbrev pub placed_under : Option (List ℕ) → InnerEntry → InnerEntry
  placed_under over e = inner_with_parent (parent_distance dist over (out-InnerEntry e).object) e

  abbrev pub after_child : Option (List ℕ) → EntryLayer → ℕ → Outcome → List InnerEntry
  after_child over e distance (Stays child) = raised distance child e ∷ []
  after_child over e distance (Splits left right) = placed_under over left ∷ placed_under over right ∷ []

  -- the entries that stand for a node: the pair of its halves where it was split, and its own entry where it wasn't
  abbrev pub entries_of : Option (List ℕ) → Option Pair → InnerEntry → List InnerEntry
  entries_of over None e = e ∷ []
  entries_of over (Some pair) e = placed_under over pair.left ∷ placed_under over pair.right ∷ []

  module _ (v : List ℕ) where
    abbrev pub entry_distance : InnerEntry → ℕ
    entry_distance e = dist (out-InnerEntry e).object v

    abbrev pub entry_rank : InnerEntry → ℕ
    entry_rank e = rank (entry_distance e) (out-InnerEntry e).radius

    -- the place of the entry below which the vector goes: the least rank, ties to the earlier entry
    abbrev pub chosen : List InnerEntry → ℕ
    chosen es = first_least (slice_index (map entry_rank es)) (length es)

    -- what takes the place of the chosen entry: itself with its child after the insertion, or the two entries into which its child is split
    abbrev pub renewed : Option (List ℕ) → (List ℕ → Node → Outcome) → InnerEntry → List InnerEntry
    renewed over below e = after_child over (out-InnerEntry e) (entry_distance e) (below (out-InnerEntry e).object (out-InnerEntry e).child)

  module _ (greatest : ℕ) where
    abbrev pub leaf_halves : (List LeafEntry → Half LeafEntry) × (List LeafEntry → Half LeafEntry)
    leaf_halves =
        (left_half dist greatest (λ e. e.vector) (λ e. 0) leaf_with_parent, right_half dist greatest (λ e. e.vector) (λ e. 0) leaf_with_parent)

    abbrev pub inner_halves : (List InnerEntry → Half InnerEntry) × (List InnerEntry → Half InnerEntry)
    inner_halves = (
      left_half dist greatest (λ e. (out-InnerEntry e).object) (λ e. (out-InnerEntry e).radius) inner_with_parent,
      right_half dist greatest (λ e. (out-InnerEntry e).object) (λ e. (out-InnerEntry e).radius) inner_with_parent,
    )

    -- a leaf of over 30 entries is split. The left node keeps the tag, and the right one has a tag of its own
    abbrev pub settled_leaf : (tag right : ℕ) → List LeafEntry → Outcome
    settled_leaf tag right es =
        if nat_lt 30 (length es)
        then Splits (entry_of (leaf_halves.0 es) (node.Leaf tag (leaf_halves.0 es).entries)) (entry_of (leaf_halves.1 es) (node.Leaf right (leaf_halves.1 es).entries))
        else Stays (node.Leaf tag es)

    -- so is an inner node of over 30 entries
    abbrev pub settled_inner : (tag right : ℕ) → List InnerEntry → Outcome
    settled_inner tag right es =
        if nat_lt 30 (length es)
        then Splits (entry_of (inner_halves.0 es) (node.Inner tag (inner_halves.0 es).entries)) (entry_of (inner_halves.1 es) (node.Inner right (inner_halves.1 es).entries))
        else Stays (node.Inner tag es)

    module _ (number : ℕ) (v : List ℕ) where
      -- the new entry of a leaf
      abbrev pub new_entry : Option (List ℕ) → LeafEntry
      new_entry over = record { number = number; vector = v; parent = parent_distance dist over v }

      abbrev pub inserted_in : (List ℕ → Node → Outcome) → Option (List ℕ) → Layer → Outcome
      inserted_in below over (Node-F.Leaf tag es) = settled_leaf tag 0 (es ++ new_entry over ∷ [])
      inserted_in below over (Node-F.Inner tag es) = settled_inner tag 0 (replaced_at (chosen v es) (renewed v over below) es)

      -- what becomes of a node below an entry with this object, none for the root, when the vector comes in. A new node has tag 0
      abbrev pub inserted : ℕ → Option (List ℕ) → Node → Outcome
      inserted zero over n = Stays n
      inserted (suc h) over n = inserted_in (λ object m. inserted h (Some object) m) over (out-Node n)
