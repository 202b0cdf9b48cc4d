-- What becomes of a batch over records: its changes, or the refusal of its first fault.
use Rattle.std.specs.Prelude.{ℕ, ◌+◌, ◌==◌, nat_lt, if◌then◌else◌, List, [], ◌∷◌, ◌++◌, length, Option, Some, None, Result, Ok, Err}
use Rattle.std.specs.FinMap as map
use Rattle.vec_record.specs.Distance.{distance_of}
use Rattle.vec_record.specs.Held.{Rows}
use Rattle.vec_record.specs.declared.change.Change.{Change}
use Rattle.vec_record.specs.declared.event.Event.{Event}
use Rattle.plain_dbscan.specs.declared.marks.Mark.{Mark}
use Rattle.plain_dbscan.specs.Marks.{Density, density, marks_of}
use Rattle.plain_dbscan.specs.Cases.{cases_of}
use Rattle.page_layout.specs.Heads.{Values}
use Rattle.batch_text.specs.After.{after, changed}
use Rattle.batch_text.specs.Batch.{said_by}
use Rattle.batch_text.specs.Records.{records_of}
use Rattle.batch_text.specs.declared.read.ReadBatch.{ReadBatch}
use Rattle.batch_text.specs.declared.faults.LineFault as line
use Rattle.batch_text.specs.declared.faults.LineFault.TheVariants as line_fault
use Rattle.batch_text.specs.declared.faults.CheckFault as check
use Rattle.batch_text.specs.declared.faults.CheckFault.TheVariants as check_fault
use Rattle.warehouse_core.specs.declared.refusal.Refusal.{Refusal}
use Rattle.warehouse_core.specs.declared.refusal.Refusal.TheVariants.{Malformed, WrongLength, Repeated, Unknown, Full, TooManyRecords, BatchesUsedUp, Memory}

-- the marks of records under parameters
abbrev pub density_by : Values → Density
density_by v = density (distance_of v.metric) v.eps v.minpts

abbrev pub marks_on : Values → Rows → List (ℕ × Mark)
marks_on v rows = marks_of (density_by v) (map.entries rows)

-- the refusal of a fault of grammar at a place
abbrev pub refusal_at : ℕ → line.LineFault → Refusal
refusal_at place line_fault.Malformed = Malformed place
refusal_at place line_fault.WrongLength = WrongLength place

-- the changes of a batch, where the record behind them has no fault
abbrev pub unless_faulty : List Change → Option line.LineFault → Result (List Change) Refusal
unless_faulty changes None = Ok changes
unless_faulty changes (Some fault) = Err (refusal_at (length changes + 1) fault)

-- the refusal of a change that can't apply; `after` never wants memory
abbrev pub refusal_of : check.CheckFault → Refusal
refusal_of (check_fault.Repeated place) = Repeated place
refusal_of (check_fault.Unknown place) = Unknown place
refusal_of (check_fault.Full place) = Full place
refusal_of check_fault.Memory = Memory

-- what follows where all changes can apply, or the refusal of the first that can't
abbrev pub unless_refused : Result Rows check.CheckFault → Result (List Change) Refusal → Result (List Change) Refusal
unless_refused (Ok rows) next = next
unless_refused (Err fault) next = Err (refusal_of fault)

-- the first faulty record of a batch over records, the lesser place first, or its changes
abbrev pub judged : Values → Rows → ReadBatch → Result (List Change) Refusal
judged v rows b = unless_refused (after v.cap rows b.changes) (unless_faulty b.changes b.fault)

-- The changes of a batch that is accepted, or why it is refused: too many records, then batch numbers used up, then the
-- first faulty record.
unfoldable pub outcome : Values → ℕ → Rows → List ℕ → Result (List Change) Refusal
outcome v batches rows body =
    if nat_lt 100000 (length (records_of body)) then Err TooManyRecords
    else if batches == 4294967295 then Err BatchesUsedUp
    else judged v rows (said_by v.metric v.dim (records_of body))

-- the records after accepted changes
abbrev pub or_else : Rows → Result Rows check.CheckFault → Rows
or_else rows (Ok next) = next
or_else rows (Err fault) = rows

abbrev pub rows_after : Values → Rows → List Change → Rows
rows_after v rows changes = or_else rows (after v.cap rows changes)

-- the events of changes, in order: each from the marks before it and after it
abbrev pub events_of : Values → Rows → List Change → List Event
events_of v rows [] = []
events_of v rows (c ∷ cs) = cases_of (marks_on v rows) (marks_on v (changed rows c)) ++ events_of v (changed rows c) cs
