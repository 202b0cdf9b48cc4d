-- What a body says as a batch.
use Rattle.std.specs.Prelude.{ℕ, ◌≢◌, IsTrue, List, [], ◌∷◌, length, take, Option, Some, None, Result, Ok, Err}
use Rattle.vec_record.specs.Vectors.{IsVector}
use Rattle.vec_record.specs.Spelled.{is_spelled}
use Rattle.vec_record.specs.declared.change.Change.{Change}
use Rattle.vec_record.specs.declared.change.Change.TheVariants.{Insert, Delete}
use Rattle.vec_record.specs.declared.kind.MetricKind.{MetricKind}
use Rattle.batch_text.specs.Grammar.{change_of}
use Rattle.batch_text.specs.Records.{records_of}
use Rattle.batch_text.specs.declared.faults.LineFault.{LineFault}
use Rattle.batch_text.specs.declared.read.ReadBatch.{ReadBatch}

abbrev pub changes_next : Result Change LineFault → List Change → List Change
changes_next (Ok c) more = c ∷ more
changes_next (Err e) more = []

-- the changes before the first faulty record
abbrev pub changes_of : MetricKind → ℕ → List (List (List ℕ)) → List Change
changes_of metric dim [] = []
changes_of metric dim (r ∷ rs) = changes_next (change_of metric dim r) (changes_of metric dim rs)

abbrev pub fault_next : Result Change LineFault → Option LineFault → Option LineFault
fault_next (Ok c) more = more
fault_next (Err e) more = Some e

-- the fault of the first faulty record, if there is one
abbrev pub fault_of : MetricKind → ℕ → List (List (List ℕ)) → Option LineFault
fault_of metric dim [] = None
fault_of metric dim (r ∷ rs) = fault_next (change_of metric dim r) (fault_of metric dim rs)

-- what records say: the changes before the first fault, that fault, and how many records there are
abbrev pub said_by : MetricKind → ℕ → List (List (List ℕ)) → ReadBatch
said_by metric dim rs =
    record { changes = changes_of metric dim rs; fault = fault_of metric dim rs; total = length rs }

-- what a body says as a batch, by its first 100,001 records
abbrev pub batch_of : MetricKind → ℕ → List ℕ → ReadBatch
batch_of metric dim body = said_by metric dim (take 100001 (records_of body))

-- a change whose number is not 0, and whose vector has the width
abbrev pub IsChangeOf : ℕ → Change → Type 0
IsChangeOf width (Insert n v) = (n ≢ 0) × IsVector width v
IsChangeOf width (Delete n) = n ≢ 0

-- a change whose vector has no bit past its last
abbrev pub IsSpelledChange : MetricKind → ℕ → Change → Type 0
IsSpelledChange metric dim (Insert n v) = IsTrue (is_spelled metric dim v)
IsSpelledChange metric dim (Delete n) = Unit {0}
