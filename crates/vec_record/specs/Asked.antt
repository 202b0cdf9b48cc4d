-- What is asked of several rows of a table at once, over any distance.
use Rattle.std.specs.Prelude.{◌≡◌, ℕ, ◌<◌, ◌-◌, nat_le, List, length, map, take}
use Rattle.std.specs.List.{AllByRecursion, filter, range_with_len}
use Rattle.std.specs.declared.ops.Range.{Range}
use Rattle.vec_record.specs.Table.{Table, row_at}

-- each place has a row
abbrev pub ArePlaces : Table → List ℕ → Type 0
ArePlaces t places = AllByRecursion (λ place. place < length t.rows) places

-- those of the places whose rows are within the radius of the centre, in their order
abbrev pub near_at : (List ℕ → List ℕ → ℕ) → List ℕ → Table → ℕ → List ℕ → List ℕ
near_at dist centre t radius places =
    filter (λ place. nat_le (dist centre (row_at t place)) radius) places

-- the places of a range whose rows are within the radius of the centre, rising
abbrev pub near_rows : (List ℕ → List ℕ → ℕ) → List ℕ → Table → ℕ → Range ℕ → List ℕ
near_rows dist centre t radius rows =
    near_at dist centre t radius (range_with_len rows.start (rows.end - rows.start))

-- a list begins with the distances of the rows at the places from the centre, in their order
abbrev pub AreFar : (List ℕ → List ℕ → ℕ) → List ℕ → Table → List ℕ → List ℕ → Type 0
AreFar dist centre t places far =
    take (length places) far ≡ map (λ place. dist centre (row_at t place)) places
