-- What the definitions of this crate come to, said without computing.
use Rattle.std.specs.Prelude.{◌≡◌, ℕ, ◌+◌, ◌<◌, ◌≤◌, ◌⊎◌, min, Bool, true, false, List, length, slice_index, slice_index_or, slice_set}
use Rattle.mtree_split.specs.Sides.{Sides, is_on}

-- an entry that no side has taken yet
abbrev pub IsLeft : List Bool → ℕ → Type 0
IsLeft taken k = slice_index_or taken k false ≡ false

-- an entry that is left is at least as near as every other one that is left, and nearer than those before it
pub record IsNearestLeft (row : List ℕ) (taken : List Bool) (k : ℕ) : Type 0 where
  pub inside : k < length row
  pub left : IsLeft taken k
  pub nearest : (m : ℕ) → m < length row → IsLeft taken m → slice_index row k ≤ slice_index row m
  pub first : (m : ℕ) → m < k → IsLeft taken m → slice_index row k < slice_index row m

-- a turn: the nearest entry that is left goes to the side whose turn it is, and nothing else changes
abbrev pub TakesNearest : List ℕ → Bool → Sides → Sides → Type 0
TakesNearest row to_right before after =
    (k : ℕ) × IsNearestLeft row before.taken k × (after.taken ≡ slice_set before.taken k true) × (after.right ≡ slice_set before.right k to_right)

-- one pair of positions comes before another in lexicographic order
abbrev pub IsEarlier : ℕ → ℕ → ℕ → ℕ → Type 0
IsEarlier i j left right = (i < left) ⊎ ((i ≡ left) × (j < right))

-- a side's radius reaches over each of its entries, up to the greatest distance, and is no larger than one of them asks
pub record IsRadius (greatest : ℕ) (row radii : List ℕ) (right : List Bool) (side : Bool) (radius : ℕ) : Type 0 where
  pub covers : (k : ℕ) → k < length row → is_on side (slice_index_or right k false) ≡ true → min (slice_index row k + slice_index radii k) greatest ≤ radius
  pub attained : (radius ≡ 0) ⊎ ((k : ℕ) × (k < length row) × (is_on side (slice_index_or right k false) ≡ true) × (radius ≡ min (slice_index row k + slice_index radii k) greatest))
