-- The balanced parting of a pair of entries, and the radius of a side.
use Rattle.std.specs.Prelude.{ℕ, zero, suc, ◌+◌, ◌%◌, max, min, nat_eq, if◌then◌else◌, Bool, true, false, not, List, length, slice_index, slice_index_or, slice_set, replicate}
use Rattle.mtree_split.specs.Least.{first_least, beyond}

-- an entry that is left ranks by its distance, and one that was taken ranks behind all of them
abbrev pub rank_left : List ℕ → List Bool → ℕ → ℕ
rank_left row taken k = if slice_index_or taken k false then beyond else slice_index row k

-- the nearest entry that is left, ties to the least position. The row is the distances to the side's object
abbrev pub nearest_left : List ℕ → List Bool → ℕ
nearest_left row taken = first_least (rank_left row taken) (length row)

-- which entries were taken so far, and which of all 36 places went right
pub record Sides : Type 0 where
  pub taken : List Bool
  pub right : List Bool

-- at first all entries are left
abbrev pub all_left : ℕ → Sides
all_left n = record { taken = replicate n false; right = replicate 36 false }

-- one turn: a side takes its nearest entry that is left
abbrev pub with_nearest : List ℕ → Bool → Sides → Sides
with_nearest row to_right s =
    record { taken = slice_set s.taken (nearest_left row s.taken) true; right = slice_set s.right (nearest_left row s.taken) to_right }

-- the sides after some turns. The left side has the first turn, and then they alternate
unfoldable pub after_turns : List ℕ → List ℕ → ℕ → Sides
after_turns left_row right_row zero = all_left (length left_row)
after_turns left_row right_row (suc t) =
    if nat_eq (t % 2) 1 then with_nearest right_row true (after_turns left_row right_row t) else with_nearest left_row false (after_turns left_row right_row t)

-- which entries go right in the balanced parting: there are as many turns as entries
abbrev pub sides_of : List ℕ → List ℕ → List Bool
sides_of left_row right_row = (after_turns left_row right_row (length left_row)).right

-- whether an entry that went right, or did not, is on the side that is asked for
abbrev pub is_on : Bool → Bool → Bool
is_on true went_right = went_right
is_on false went_right = not went_right

-- the greatest sum of an entry's distance and radius, over the entries of one side below a bound
unfoldable pub greatest_sum : List ℕ → List ℕ → List Bool → Bool → ℕ → ℕ
greatest_sum row radii right side zero = 0
greatest_sum row radii right side (suc k) =
    if is_on side (slice_index_or right k false) then max (greatest_sum row radii right side k) (slice_index row k + slice_index radii k) else greatest_sum row radii right side k

-- the radius of a side, cut at the greatest distance
abbrev pub side_radius : ℕ → List ℕ → List ℕ → List Bool → Bool → ℕ
side_radius greatest row radii right side = min (greatest_sum row radii right side (length row)) greatest

-- the greatest sum of an entry's radius and its distance to the nearer of two objects, over the entries below a bound. No parting of the two has lesser radii, since each entry is on one of the sides
unfoldable pub nearer_sum : List ℕ → List ℕ → List ℕ → ℕ → ℕ
nearer_sum left_row right_row radii zero = 0
nearer_sum left_row right_row radii (suc k) = max (nearer_sum left_row right_row radii k) (min (slice_index left_row k) (slice_index right_row k) + slice_index radii k)
