-- The split of a node that has too many entries. Entries of both kinds are split alike: each has an
-- object and a radius, and can be given another parent distance.
use Rattle.std.specs.Prelude.{ℕ, if◌then◌else◌, Bool, true, false, List, [], ◌∷◌, length, map, slice_index_or}
use Rattle.std.specs.List.{flat_map}
use Rattle.mtree_split.specs.declared.pair.Parting.{Parting}
use Rattle.mtree_split.specs.Sides.{is_on}
use Rattle.mtree_split.specs.Choice.{choice}
use Rattle.mtree_index.specs.declared.split.Half.{Half}

-- the entries of one side, in their order
abbrev pub on_side : {A : Type 0} → Bool → List Bool → List A → List A
on_side side [] es = []
on_side side (went_right ∷ sides) [] = []
on_side side (went_right ∷ sides) (e ∷ es) =
    if is_on side went_right then e ∷ on_side side sides es else on_side side sides es

-- the entries with these parent distances
abbrev pub with_parents : {A : Type 0} → (ℕ → A → A) → List ℕ → List A → List A
with_parents with_parent [] es = []
with_parents with_parent (d ∷ ds) [] = []
with_parents with_parent (d ∷ ds) (e ∷ es) = with_parent d e ∷ with_parents with_parent ds es

module _ (dist : List ℕ → List ℕ → ℕ) where
  -- the distances from one object to all
  abbrev pub row : List ℕ → List (List ℕ) → List ℕ
  row object objects = map (dist object) objects

  -- the distances between all, row by row
  abbrev pub distances : List (List ℕ) → List ℕ
  distances objects = flat_map (λ object. row object objects) objects

  module _
      (greatest : ℕ)
      {A : Type 0}
      (object : A → List ℕ)
      (radius : A → ℕ)
      (with_parent : ℕ → A → A) where
    -- the pair that is promoted, and the sides and radii of its balanced parting
    abbrev pub parting : List A → Parting
    parting es = choice (length es) (distances (map object es)) (map radius es) greatest

    -- the entries of a side under the object of the promoted entry, with their distances to it
    abbrev pub half : Bool → ℕ → ℕ → List Bool → List A → Half A
    half side promoted reach sides es = record {
      object = slice_index_or (map object es) promoted [];
      radius = reach;
      entries = on_side side sides (with_parents with_parent
          (row (slice_index_or (map object es) promoted []) (map object es)) es);
    }

    -- the half under the pair's first entry
    abbrev pub left_half : List A → Half A
    left_half es = half false (parting es).left (parting es).left_radius (parting es).sides es

    -- the half under the pair's second entry
    abbrev pub right_half : List A → Half A
    right_half es = half true (parting es).right (parting es).right_radius (parting es).sides es
