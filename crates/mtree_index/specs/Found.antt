-- What the rule of a range query finds, in the order of the leaves. No public contract cites these: the numbers that are found are those that are near.
use Rattle.std.specs.Prelude.{◌≡◌, ℕ, zero, suc, ◌+◌, ◌<◌, ◌≤◌, length, if◌then◌else◌, nat_le, List, [], ◌∷◌, Option, Some}
use Rattle.std.specs.List.{AllByRecursion, flat_map}
use Rattle.vec_record.specs.Vectors.{IsVector}
use Rattle.mtree_node.specs.declared.node.LeafEntry.{LeafEntry}
use Rattle.mtree_node.specs.declared.node.InnerEntry.{out-InnerEntry}
use Rattle.mtree_node.specs.declared.node.Node.{Node, out-Node}
use Rattle.mtree_node.specs.declared.node.Node.TheOpen.{Node-F}
use Rattle.mtree_node.specs.Layer.{Layer, EntryLayer}
use Rattle.mtree_node.specs.Cost.{is_skipped}

module _ (width : ℕ) where
  -- an entry with an object of the width, whose child has such vectors too
  pub record IsEntryOver (below : Node → Type 0) (e : EntryLayer) : Type 0 where
    pub object : IsVector width e.object
    pub child : below e.child

  abbrev pub IsShapedIn : ℕ → (Node → Type 0) → Layer → Type 0
  IsShapedIn h below (Node-F.Leaf tag es) = (h ≡ 0) × (length es ≤ 30) × AllByRecursion (λ e. IsVector width e.vector) es
  IsShapedIn h below (Node-F.Inner tag es) = (0 < h) × AllByRecursion (λ e. IsEntryOver below (out-InnerEntry e)) es

  -- the vectors of a tree have the width, and its leaves are on the level that the height says, with at most 30 entries each
  abbrev pub IsShaped : ℕ → Node → Type 0
  IsShaped zero n = ⊥
  IsShaped (suc h) n = IsShapedIn h (IsShaped h) (out-Node n)

module _ (dist : List ℕ → List ℕ → ℕ) (centre : List ℕ) (radius : ℕ) where
  -- the number of a leaf entry within the radius
  abbrev pub number_within : LeafEntry → List ℕ
  number_within e = if nat_le (dist centre e.vector) radius then e.number ∷ [] else []

  abbrev pub numbers_within : List LeafEntry → List ℕ
  numbers_within es = flat_map number_within es

  -- the number of a leaf entry that is found
  abbrev pub leaf_found : Option ℕ → LeafEntry → List ℕ
  leaf_found to_object e = if is_skipped to_object radius e.parent then [] else number_within e

  abbrev pub entry_found : (Option ℕ → Node → List ℕ) → Option ℕ → EntryLayer → List ℕ
  entry_found below to_object e =
      if is_skipped to_object (radius + e.radius) e.parent then []
      else (if nat_le (dist centre e.object) (radius + e.radius) then below (Some (dist centre e.object)) e.child else [])

  abbrev pub found_in : (Option ℕ → Node → List ℕ) → Option ℕ → Layer → List ℕ
  found_in below to_object (Node-F.Leaf tag es) = flat_map (leaf_found to_object) es
  found_in below to_object (Node-F.Inner tag es) = flat_map (λ e. entry_found below to_object (out-InnerEntry e)) es

  -- the numbers that are found in a node and below it
  abbrev pub found : ℕ → Option ℕ → Node → List ℕ
  found zero to_object n = []
  found (suc h) to_object n = found_in (found h) to_object (out-Node n)
