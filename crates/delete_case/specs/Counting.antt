-- What one record less changes of the counts.
use Rattle.std.specs.Prelude.{◌≡◌, ◌≢◌, ◌↔◌, ℕ, ◌-◌, List, None, nat_lt}
use Rattle.std.specs.Prelude.{if◌then◌else◌}
use Rattle.std.specs.Option.{option_map}
use Rattle.std.specs.FinMap as map
use Rattle.count_book.specs.declared.row.Row.{Row}
use Rattle.count_book.specs.Counted.{Counted, CeasedToBeCore}
use Rattle.label_book.specs.Labels.{IsMember, EachOnce}

-- The row with one less counted. A count of 1 stays.
abbrev pub lowered : Row → Row
lowered r = record r { count = if nat_lt 1 r.count then r.count - 1 else r.count }

-- The book after one less was counted at each of these, and the deleted number left. The lost ones
-- are those that ceased to be core by this.
pub record AreCountedOut
    (gone : ℕ) (around : List ℕ) (old new : Counted) (lost : List ℕ) : Type 0 where
  pub minpts_kept : new.minpts ≡ old.minpts
  pub left : map.get new.rows gone ≡ None
  pub near :
      (q : ℕ) → IsMember around q
      → map.get new.rows q ≡ option_map lowered (map.get old.rows q)
  pub far :
      (q : ℕ) → q ≢ gone → (IsMember around q → ⊥) → map.get new.rows q ≡ map.get old.rows q
  pub lost_are :
      (q : ℕ) → IsMember lost q ↔ (IsMember around q × CeasedToBeCore old new q)
  pub lost_once : EachOnce lost
