-- What is asked of the clusters of records.
use Rattle.std.specs.Prelude.{ℕ, filter, Option, Some, None, if◌then◌else◌}
use Rattle.std.specs.List.{list_any}
use Rattle.std.specs.FinMap as map
use Rattle.vec_record.specs.Held.{Rows}
use Rattle.plain_dbscan.specs.declared.marks.Mark.{Mark}
use Rattle.plain_dbscan.specs.Marks.{Density, mark_of}
use Rattle.plain_dbscan.specs.Cases.{Listed, is_core_of, is_member_of}

-- The mark of a number, or none where it is absent.
abbrev pub mark_due : Density → Rows → ℕ → Option Mark
mark_due d rows a =
    if map.contains_key rows a then Some (mark_of d (map.entries rows) a) else None

-- The cores and the borders with a label, or none where no core has it.
abbrev pub members_of : ℕ → Listed → Option Listed
members_of label marks =
    if list_any (λ (m : ℕ × Mark). is_core_of label m.1) marks
    then Some (filter (λ (m : ℕ × Mark). is_member_of label m.1) marks) else None
