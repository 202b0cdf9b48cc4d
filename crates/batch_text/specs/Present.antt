-- For the functions inside `check` alone: which numbers are present, by the records as they were and by the changes so far.
use Rattle.std.specs.Prelude.{◌≡◌, ℕ, Bool, Option, Some, None, Result, Ok}
use Rattle.std.specs.Map.{lookup}
use Rattle.std.specs.Ordering.{nat_cmp}
use Rattle.std.specs.BTreeMap.{is_at}
use Rattle.std.specs.FinMap as map
use Rattle.vec_record.specs.Held.{Rows}
use Rattle.batch_text.specs.declared.check.Standing.{Standing}
use Rattle.batch_text.specs.declared.faults.CheckFault.{CheckFault}

-- what a mark says, or else what was
abbrev pub or_else : Option Bool → Bool → Bool
or_else (Some b) was = b
or_else None was = was

-- whether a number is present: by its mark, or else by the records as they were
abbrev pub has_number : Rows → Standing → ℕ → Bool
has_number was s n = or_else (lookup (is_at (nat_cmp n)) s.marks.entries) (map.contains_key was n)

-- the records that stand now have the numbers that are present, and this is their count
pub record Stands (was : Rows) (s : Standing) (now : Rows) : Type 0 where
  pub present : (n : ℕ) → has_number was s n ≡ map.contains_key now n
  pub count : s.count ≡ map.len now

-- a change could apply, and the records that it made stand now
abbrev pub Applied : Rows → Standing → Result Rows CheckFault → Type 0
Applied was s due = (next : Rows) × (due ≡ Ok next) × Stands was s next
