-- The records of an input, which is the body of one batch.
use Rattle.std.specs.Prelude.{ℕ, ◌+◌, ◌==◌, nat_lt, Bool, if◌then◌else◌, List, length, Option, Some, None, Result, Ok, Err}
use Rattle.std.specs.List.{slice_split, list_any}
use Rattle.std.specs.FinMap as map
use Rattle.vec_record.specs.Held.{Rows}
use Rattle.vec_record.specs.declared.kind.MetricKind.{MetricKind}
use Rattle.batch_text.specs.After.{after}
use Rattle.batch_text.specs.Batch.{said_by}
use Rattle.batch_text.specs.Records.{records_of}
use Rattle.batch_text.specs.declared.read.ReadBatch.{ReadBatch}
use Rattle.batch_text.specs.declared.faults.LineFault as line
use Rattle.batch_text.specs.declared.faults.LineFault.TheVariants as line_fault
use Rattle.batch_text.specs.declared.faults.CheckFault as check
use Rattle.batch_text.specs.declared.faults.CheckFault.TheVariants as check_fault
use Rattle.session_desk.specs.declared.input.Refusal.{Refusal}
use Rattle.session_desk.specs.declared.input.Refusal.TheVariants.{LongLine, TooManyRecords, Malformed, WrongLength, Repeated, Unknown, Full}

-- whether a byte ends a line
abbrev pub is_line_feed : ℕ → Bool
is_line_feed b = b == 10

-- whether a line has over 4,096 bytes
abbrev pub is_long : List ℕ → Bool
is_long line = nat_lt 4096 (length line)

-- Whether a line of the input has over 4,096 bytes, a carriage return at its end counted.
abbrev pub has_long_line : List ℕ → Bool
has_long_line input = list_any is_long (slice_split is_line_feed input)

-- the records, or the refusal of the faulty one behind all changes
abbrev pub unless_faulty : ℕ → Rows → Option line.LineFault → Result Rows Refusal
unless_faulty place rows None = Ok rows
unless_faulty place rows (Some line_fault.Malformed) = Err (Malformed place)
unless_faulty place rows (Some line_fault.WrongLength) = Err (WrongLength place)

-- what follows where all changes apply, or the refusal of the first that can't; `after` never wants memory
abbrev pub unless_refused : Result Rows check.CheckFault → (Rows → Result Rows Refusal) → Result Rows Refusal
unless_refused (Ok rows) next = next rows
unless_refused (Err (check_fault.Repeated place)) next = Err (Repeated place)
unless_refused (Err (check_fault.Unknown place)) next = Err (Unknown place)
unless_refused (Err (check_fault.Full place)) next = Err (Full place)
unless_refused (Err check_fault.Memory) next = Err TooManyRecords

-- the records after a batch over none, or the refusal of its first faulty record, the lesser place first
abbrev pub rows_after : ReadBatch → Result Rows Refusal
rows_after b = unless_refused (after 200000 map.empty b.changes) (λ rows. unless_faulty (length b.changes + 1) rows b.fault)

-- The records of an input, or why it is refused: a long line, too many records, or the first faulty record.
abbrev pub rows_of : MetricKind → ℕ → List ℕ → Result Rows Refusal
rows_of metric dim input =
    if has_long_line input then Err LongLine
    else if nat_lt 100000 (length (records_of input)) then Err TooManyRecords
    else rows_after (said_by metric dim (records_of input))
