-- The tree after a removal.
use Rattle.std.specs.Prelude.{ℕ, zero, suc, ◌+◌, ◌-◌, max, min, Bool, false, ◌&&◌, if◌then◌else◌, nat_le, nat_lt, nat_eq, List, [], ◌∷◌, ◌++◌, length, map, Option, Some, None}
use Rattle.std.specs.Option.{option_map}
use Rattle.mtree_node.specs.declared.node.LeafEntry.{LeafEntry}
use Rattle.mtree_node.specs.declared.node.InnerEntry.{InnerEntry, out-InnerEntry, roll-InnerEntry}
use Rattle.mtree_node.specs.declared.node.Node.{Node, out-Node}
use Rattle.mtree_node.specs.declared.node.Node.TheOpen.{Node-F}
use Rattle.mtree_node.specs.declared.node.Node.TheVariants as node
use Rattle.mtree_node.specs.Layer.{Layer, EntryLayer}
use Rattle.mtree_node.specs.Cost.{is_skipped}
use Rattle.mtree_index.specs.Entries.{leaf_with_parent, inner_with_parent}
use Rattle.mtree_index.specs.Insertion.{Outcome, Stays, Splits, placed_under, settled_leaf, settled_inner}

module _ {A : Type 0} where
  -- the list without the first element that passes a test, if one does
  abbrev pub without_first : (A → Bool) → List A → Option (List A)
  without_first test [] = None
  without_first test (e ∷ es) = if test e then Some es else option_map (λ xs. e ∷ xs) (without_first test es)

  abbrev pub changed_here : Option A → A → List A → Option (ℕ × List A) → Option (ℕ × List A)
  changed_here (Some x) e es later = Some (0, x ∷ es)
  changed_here None e es later = option_map (λ p. (suc p.0, e ∷ p.1)) later

  -- the first element for which there is another one gives way to it: its place, and the list then
  abbrev pub first_changed : (A → Option A) → List A → Option (ℕ × List A)
  first_changed f [] = None
  first_changed f (e ∷ es) = changed_here (f e) e es (first_changed f es)

  -- the elements at a place and at the next one give way to others
  abbrev pub joined_at : ℕ → (A → A → List A) → List A → List A
  joined_at at f [] = []
  joined_at at f (x ∷ []) = x ∷ []
  joined_at zero f (x ∷ y ∷ xs) = f x y ++ xs
  joined_at (suc at) f (x ∷ y ∷ xs) = x ∷ joined_at at f (y ∷ xs)

abbrev pub size_in : Layer → ℕ
size_in (Node-F.Leaf tag es) = length es
size_in (Node-F.Inner tag es) = length es

-- how many entries a node has
abbrev pub size : Node → ℕ
size n = size_in (out-Node n)

-- whether the child of the entry at a place has too few entries: fewer than 7
abbrev pub is_short_at : ℕ → List InnerEntry → Bool
is_short_at at [] = false
is_short_at zero (e ∷ es) = nat_lt (size (out-InnerEntry e).child) 7
is_short_at (suc at) (e ∷ es) = is_short_at at es

-- the entry with another child
abbrev pub with_child : EntryLayer → Node → InnerEntry
with_child e child = roll-InnerEntry (record { object = e.object; radius = e.radius; parent = e.parent; child = child })

module _ (dist : List ℕ → List ℕ → ℕ) where
  -- the greatest sum of an entry's radius and the distance of its object from this one
  abbrev pub farthest : {A : Type 0} → (A → List ℕ) → (A → ℕ) → List ℕ → List A → ℕ
  farthest object radius from [] = 0
  farthest object radius from (e ∷ es) = max (dist from (object e) + radius e) (farthest object radius from es)

  -- the entries under this object, with their distances to it
  abbrev pub all_under : {A : Type 0} → (A → List ℕ) → (ℕ → A → A) → List ℕ → List A → List A
  all_under object with_parent from es = map (λ e. with_parent (dist from (object e)) e) es

  module _ (v : List ℕ) where
    -- the distance of a node's object from the vector, none for the root
    abbrev pub to_object : Option (List ℕ) → Option ℕ
    to_object over = option_map (dist v) over

    -- whether a query of radius 0 finds the pair of this number at a leaf entry
    abbrev pub is_pair : ℕ → Option (List ℕ) → LeafEntry → Bool
    is_pair number over e = if is_skipped (to_object over) 0 e.parent then false else (nat_eq (dist v e.vector) 0 && nat_eq e.number number)

    -- an entry without the pair, if a query of radius 0 goes to its child and the pair is found there
    abbrev pub entry_without : (List ℕ → Node → Option Node) → Option (List ℕ) → InnerEntry → Option InnerEntry
    entry_without below over e =
        if is_skipped (to_object over) (out-InnerEntry e).radius (out-InnerEntry e).parent then None
        else (
        if nat_le (dist v (out-InnerEntry e).object) (out-InnerEntry e).radius then option_map (with_child (out-InnerEntry e)) (below (out-InnerEntry e).object (out-InnerEntry e).child)
        else None
        )

  module _ (greatest : ℕ) where
    -- the entry whose node has all these leaf entries: they stand under its object, and its radius is that of a side of a split. Its own parent distance stays
    abbrev pub leaf_over : EntryLayer → ℕ → List LeafEntry → InnerEntry
    leaf_over e tag es = roll-InnerEntry (record {
      object = e.object;
      radius = min (farthest (λ x. x.vector) (λ x. 0) e.object es) greatest;
      parent = e.parent;
      child = node.Leaf tag (all_under (λ x. x.vector) leaf_with_parent e.object es);
    })

    -- the same over inner entries
    abbrev pub inner_over : EntryLayer → ℕ → List InnerEntry → InnerEntry
    inner_over e tag es = roll-InnerEntry (record {
      object = e.object;
      radius = min (farthest (λ x. (out-InnerEntry x).object) (λ x. (out-InnerEntry x).radius) e.object es) greatest;
      parent = e.parent;
      child = node.Inner tag (all_under (λ x. (out-InnerEntry x).object) inner_with_parent e.object es);
    })

    -- one entry for the joined node, or two where it is split again
    abbrev pub joined_as : Option (List ℕ) → InnerEntry → Outcome → List InnerEntry
    joined_as over one (Stays n) = one ∷ []
    joined_as over one (Splits left right) = placed_under dist over left ∷ placed_under dist over right ∷ []

    -- nodes of both kinds are never joined, since all leaves are at one depth
    abbrev pub joined_nodes : Option (List ℕ) → EntryLayer → Layer → Layer → List InnerEntry
    joined_nodes over e (Node-F.Leaf tag es) (Node-F.Leaf right fs) = joined_as over (leaf_over e tag (es ++ fs)) (settled_leaf dist greatest tag right (es ++ fs))
    joined_nodes over e (Node-F.Inner tag es) (Node-F.Inner right fs) = joined_as over (inner_over e tag (es ++ fs)) (settled_inner dist greatest tag right (es ++ fs))
    joined_nodes over e (Node-F.Leaf tag es) (Node-F.Inner right fs) = []
    joined_nodes over e (Node-F.Inner tag es) (Node-F.Leaf right fs) = []

    -- what takes the place of two neighbours in a node with this object, none for the root: the left one's entries come first, and over 30 entries are split again, each side with its own tag
    abbrev pub joined : Option (List ℕ) → InnerEntry → InnerEntry → List InnerEntry
    joined over left right = joined_nodes over (out-InnerEntry left) (out-Node (out-InnerEntry left).child) (out-Node (out-InnerEntry right).child)

    -- the entries of a node when the child at a place has lost an entry: with too few left it joins its left sibling, or its right one where it is the first
    abbrev pub refilled : Option (List ℕ) → ℕ → List InnerEntry → List InnerEntry
    refilled over place es = if is_short_at place es then joined_at (place - 1) (joined over) es else es

    module _ (number : ℕ) (v : List ℕ) where
      abbrev pub removed_in : (List ℕ → Node → Option Node) → Option (List ℕ) → Layer → Option Node
      removed_in below over (Node-F.Leaf tag es) = option_map (node.Leaf tag) (without_first (is_pair v number over) es)
      removed_in below over (Node-F.Inner tag es) = option_map (λ p. node.Inner tag (refilled over p.0 p.1)) (first_changed (entry_without v below over) es)

      -- a node below an entry with this object, none for the root, without the pair, or none where the pair isn't found
      abbrev pub removed : ℕ → Option (List ℕ) → Node → Option Node
      removed zero over n = None
      removed (suc h) over n = removed_in (λ object m. removed h (Some object) m) over (out-Node n)
