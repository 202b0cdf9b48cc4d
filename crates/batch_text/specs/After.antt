-- What records become by changes, and the first change that cannot apply.
use Rattle.std.specs.Prelude.{◌≡◌, ℕ, ◌+◌, nat_le, if◌then◌else◌, List, [], ◌∷◌, None, Result, Ok, Err}
use Rattle.std.specs.FinMap as map
use Rattle.vec_record.specs.Held.{Rows}
use Rattle.vec_record.specs.declared.change.Change.{Change}
use Rattle.vec_record.specs.declared.change.Change.TheVariants.{Insert, Delete}
use Rattle.batch_text.specs.declared.faults.CheckFault.{CheckFault}
use Rattle.batch_text.specs.declared.faults.CheckFault.TheVariants.{Repeated, Unknown, Full, Memory}

-- the records after one change at a place: an insertion wants its number absent and fewer than cap records, a deletion wants its number present
abbrev pub after_one : ℕ → ℕ → Rows → Change → Result Rows CheckFault
after_one place cap rows (Insert n v) =
    if map.contains_key rows n then Err (Repeated place)
    else if nat_le cap (map.len rows) then Err (Full place)
    else Ok (map.insert rows n v)
after_one place cap rows (Delete n) =
    if map.contains_key rows n then Ok (map.remove rows n) else Err (Unknown place)

-- what follows where a change could apply
abbrev pub and_then : Result Rows CheckFault → (Rows → Result Rows CheckFault) → Result Rows CheckFault
and_then (Ok rows) next = next rows
and_then (Err fault) next = Err fault

-- the records after the changes from a place on, or the first fault
abbrev pub after_from : ℕ → ℕ → Rows → List Change → Result Rows CheckFault
after_from place cap rows [] = Ok rows
after_from place cap rows (c ∷ cs) = and_then (after_one place cap rows c) (λ next. after_from (place + 1) cap next cs)

-- the records after all changes, whose places count from 1, or the first fault
abbrev pub after : ℕ → Rows → List Change → Result Rows CheckFault
after cap rows changes = after_from 1 cap rows changes

-- the fault that is answered is this one; want of memory is free
abbrev pub Explains : CheckFault → Result Rows CheckFault → Type 0
Explains (Repeated place) due = due ≡ Err (Repeated place)
Explains (Unknown place) due = due ≡ Err (Unknown place)
Explains (Full place) due = due ≡ Err (Full place)
Explains Memory due = Unit {0}

-- for the function inside `apply` alone: a change can apply to records, however many there are
abbrev pub CanApply : Rows → Change → Type 0
CanApply rows (Insert n v) = map.get rows n ≡ None
CanApply rows (Delete n) = Unit {0}

-- for the same: the records with one change that can apply
abbrev pub changed : Rows → Change → Rows
changed rows (Insert n v) = map.insert rows n v
changed rows (Delete n) = map.remove rows n
