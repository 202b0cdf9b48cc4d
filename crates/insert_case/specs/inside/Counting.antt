-- How the counts change where one record more is counted.
use Rattle.std.specs.Prelude.{◌≡◌, ◌≢◌, ◌⊎◌, ℕ, ◌&&◌, cond, nat_lt, nat_le, List, [], ◌∷◌, ◌++◌, length, find, Option, Some, None, is_some}
use Rattle.std.specs.Option.{option_map}
use Rattle.std.specs.FinMap as map
use Rattle.vec_record.specs.Vectors.{IsWidth}
use Rattle.vec_record.specs.Held.{Rows, HaveWidth}
use Rattle.plain_dbscan.specs.Index.{near}
use Rattle.count_book.specs.declared.row.Row.{Row}
use Rattle.count_book.specs.Counted.{Counted, row_of, one_more, IsCore, BecameCore}
use Rattle.label_book.specs.Labels.{Labels, IsMember}

-- the list is what an index of this width with these pairs finds around a vector
pub record IsFound
    (dist : List ℕ → List ℕ → ℕ) (width : ℕ) (contents : Rows) (v : List ℕ) (eps : ℕ)
    (around : List ℕ) : Type 0 where
  pub lawful : IsWidth width
  pub vectors : HaveWidth width contents
  pub found : around ≡ near dist contents v eps

-- an anchor, or none where a count came up to `minpts`
abbrev pub anchor_after : ℕ → ℕ → ℕ → Option ℕ → Option ℕ
anchor_after minpts before after anchor =
    cond (nat_lt before minpts && nat_le minpts after) None anchor

-- the row with one more counted, without anchor where it became core
abbrev pub raised : ℕ → Row → Row
raised minpts r =
    let n = (one_more r).count in
    row_of n (anchor_after minpts r.count n r.anchor)

-- the first of these numbers that has a label
abbrev pub first_labelled : Labels → List ℕ → Option ℕ
first_labelled labels around = find (λ q. is_some (map.get labels q)) around

-- the row of a new record: how many are near it, and the first labelled one where it isn't core
abbrev pub first_row : ℕ → Labels → List ℕ → Row
first_row minpts labels around =
    let n = length around in
    row_of n (cond (nat_lt n minpts) (first_labelled labels around) None)

-- the list of these numbers with this one behind them, where it became core
abbrev pub IsNoted : Counted → Counted → ℕ → List ℕ → List ℕ → Type 0
IsNoted old new q before after =
    (BecameCore old new q × (after ≡ before ++ q ∷ []))
    ⊎ ((BecameCore old new q → ⊥) × (after ≡ before))

-- the counts with this row under a number, or with none, and nothing else changed
pub record ChangesRow (q : ℕ) (row : Option Row) (old new : Counted) : Type 0 where
  pub minpts_kept : new.minpts ≡ old.minpts
  pub at : map.get new.rows q ≡ row
  pub others : (n : ℕ) → n ≢ q → map.get new.rows n ≡ map.get old.rows n

-- the counts after one more was counted at a number
abbrev pub IsRaised : ℕ → Counted → Counted → Type 0
IsRaised q old new =
    ChangesRow q (option_map (raised old.minpts) (map.get old.rows q)) old new

-- the counts after one more was counted at each of these numbers but one
pub record AreRaised (number : ℕ) (around : List ℕ) (old new : Counted) : Type 0 where
  pub minpts_kept : new.minpts ≡ old.minpts
  pub raised_is :
      (q : ℕ) → IsMember around q → q ≢ number
      → map.get new.rows q ≡ option_map (raised old.minpts) (map.get old.rows q)
  pub others :
      (q : ℕ) → (IsMember around q → ⊥) ⊎ (q ≡ number)
      → map.get new.rows q ≡ map.get old.rows q
  pub stay : (q : ℕ) → IsCore old q → IsCore new q

-- the counts after a record was counted at all that is near it, and entered
pub record IsCountedIn
    (labels : Labels) (number : ℕ) (around : List ℕ) (old new : Counted) : Type 0 where
  pub minpts_kept : new.minpts ≡ old.minpts
  pub entered : map.get new.rows number ≡ Some (first_row old.minpts labels around)
  pub raised_is :
      (q : ℕ) → IsMember around q → q ≢ number
      → map.get new.rows q ≡ option_map (raised old.minpts) (map.get old.rows q)
  pub others :
      (q : ℕ) → (IsMember around q → ⊥) → q ≢ number
      → map.get new.rows q ≡ map.get old.rows q
  pub stay : (q : ℕ) → IsCore old q → IsCore new q
