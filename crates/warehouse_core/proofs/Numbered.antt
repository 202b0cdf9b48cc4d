-- What is due to a body has a number.
use Rattle.std.proofs.Common.{◌≡◌, ℕ, ◌+◌, ◌==◌, nat_le, nat_lt, Bool, true, false, cond, List, [], ◌∷◌, length, Option, Some, None, Result, Ok, Err, IfErr, refl}
use Rattle.std.specs.FinMap as maps
use Rattle.vec_record.specs.Held.{Rows}
use Rattle.vec_record.specs.declared.change.Change.{Change}
use Rattle.vec_record.specs.declared.change.Change.TheVariants.{Insert, Delete}
use Rattle.page_layout.specs.Heads.{Values}
use Rattle.batch_text.specs.After.{after_from, after_one, and_then}
use Rattle.batch_text.specs.Batch.{said_by}
use Rattle.batch_text.specs.Records.{records_of}
use Rattle.batch_text.specs.declared.read.ReadBatch.{ReadBatch}
use Rattle.batch_text.specs.declared.faults.LineFault as line
use Rattle.batch_text.specs.declared.faults.LineFault.TheVariants as line_fault
use Rattle.batch_text.specs.declared.faults.CheckFault.{CheckFault}
use Rattle.batch_text.specs.declared.faults.CheckFault.TheVariants.{Repeated, Unknown, Full}
use Rattle.warehouse_core.specs.declared.refusal.Refusal.{Refusal}
use Rattle.warehouse_core.specs.declared.refusal.Refusal.TheVariants as refusal
use Rattle.warehouse_core.specs.Applying.{DueAreNumbered, is_numbered}
use Rattle.warehouse_core.specs.Batches.{judged, outcome, refusal_at, refusal_of, unless_faulty, unless_refused}

abbrev IsPlaced : CheckFault → Type 0
IsPlaced fault = is_numbered (refusal_of fault) ≡ true

insert_placed : (a b : Bool) (place : ℕ) (rows : Rows) → IfErr (cond a (Err (Repeated place)) (cond b (Err (Full place)) (Ok rows))) IsPlaced
insert_placed true b place rows = refl
insert_placed false true place rows = refl
insert_placed false false place rows = tt

delete_placed : (a : Bool) (place : ℕ) (rows : Rows) → IfErr (cond a (Ok rows) (Err (Unknown place))) IsPlaced
delete_placed true place rows = tt
delete_placed false place rows = refl

one_placed : (place cap : ℕ) (rows : Rows) (c : Change) → IfErr (after_one place cap rows c) IsPlaced
one_placed place cap rows (Insert n v) = insert_placed (maps.contains_key rows n) (nat_le cap (maps.len rows)) place (maps.insert rows n v)
one_placed place cap rows (Delete n) = delete_placed (maps.contains_key rows n) place (maps.remove rows n)

then_placed : (r : Result Rows CheckFault) (next : Rows → Result Rows CheckFault) → IfErr r IsPlaced → ((rows : Rows) → IfErr (next rows) IsPlaced) → IfErr (and_then r next) IsPlaced
then_placed (Ok rows) next first more = more rows
then_placed (Err fault) next first more = first

-- the checks of changes never want memory
all_placed : (place cap : ℕ) (rows : Rows) (cs : List Change) → IfErr (after_from place cap rows cs) IsPlaced
all_placed place cap rows [] = tt
all_placed place cap rows (c ∷ cs) =
    then_placed (after_one place cap rows c) (λ next. after_from (place + 1) cap next cs) (one_placed place cap rows c) (λ next. all_placed (place + 1) cap next cs)

abbrev HasNumber : Refusal → Type 0
HasNumber e = is_numbered e ≡ true

fault_numbered : (place : ℕ) (fault : line.LineFault) → HasNumber (refusal_at place fault)
fault_numbered place line_fault.Malformed = refl
fault_numbered place line_fault.WrongLength = refl

unless_numbered : (changes : List Change) (fault : Option line.LineFault) → IfErr (unless_faulty changes fault) HasNumber
unless_numbered changes None = tt
unless_numbered changes (Some fault) = fault_numbered (length changes + 1) fault

refused_numbered : (r : Result Rows CheckFault) (next : Result (List Change) Refusal) → IfErr r IsPlaced → IfErr next HasNumber → IfErr (unless_refused r next) HasNumber
refused_numbered (Ok rows) next first more = more
refused_numbered (Err fault) next first more = first

judged_numbered : (v : Values) (rows : Rows) (b : ReadBatch) → IfErr (judged v rows b) HasNumber
judged_numbered v rows b = refused_numbered (after_from 1 v.cap rows b.changes) (unless_faulty b.changes b.fault) (all_placed 1 v.cap rows b.changes) (unless_numbered b.changes b.fault)

counted_numbered : (many used : Bool) (r : Result (List Change) Refusal) → IfErr r HasNumber → IfErr (cond many (Err refusal.TooManyRecords) (cond used (Err refusal.BatchesUsedUp) r)) HasNumber
counted_numbered true used r h = refl
counted_numbered false true r h = refl
counted_numbered false false r h = h

pub numbered : DueAreNumbered
unfolding outcome
numbered v batches rows body =
    counted_numbered (nat_lt 100000 (length (records_of body))) (batches == 4294967295) (judged v rows (said_by v.metric v.dim (records_of body))) (judged_numbered v rows (said_by v.metric v.dim (records_of body)))
