-- For the functions inside `rows` and `read` alone: what a reader of a body in memory has left, and what was read so far.
use Rattle.std.specs.Prelude.{Bool, true, false, ℕ, suc, List, [], ◌∷◌, length, Some, ◌≡◌}
use Rattle.std.specs.Borrow.{Bor}
use Rattle.csv.specs.Reading.{Ready, default_config, is_flexible, reader_config, reader_state, reader_trim, records_from, source_of}
use Rattle.csv.specs.declared.parser.State.{State}
use Rattle.csv.specs.declared.reader.Reader.{Reader}
use Rattle.csv.specs.declared.reader.Trim.TheVariants as trim
use Rattle.vec_record.specs.declared.kind.MetricKind.{MetricKind}
use Rattle.batch_text.specs.Batch.{changes_of, fault_of}
use Rattle.batch_text.specs.declared.read.ReadBatch.{ReadBatch}

-- the records of these bytes, read on from a state of the reader's machine
abbrev pub records_after : State → List ℕ → List (List (List ℕ))
records_after s bytes = records_from default_config (suc (suc (length bytes))) s bytes

-- a reader of a text in memory that will give these records, and no others
abbrev pub HasLeft : Reader (Bor (List ℕ)) → List (List (List ℕ)) → Type 0
HasLeft r rows = (reader_trim r ≡ trim.None) × Ready r × (reader_config r ≡ default_config) × (is_flexible r ≡ true)
    × (bytes : List ℕ) × (source_of (λ s. Some s.now) r ≡ Some bytes) × (rows ≡ records_after (reader_state r) bytes)

-- what one read takes from the records that are left
abbrev pub Gives : Bool → List (List (List ℕ)) → List (List ℕ) → Reader (Bor (List ℕ)) → Type 0
Gives true rows fields r = (rest : List (List (List ℕ))) × (rows ≡ fields ∷ rest) × HasLeft r rest
Gives false rows fields r = rows ≡ []

-- what was read of a batch is what these records say
pub record Holds (metric : MetricKind) (dim : ℕ) (done : List (List (List ℕ))) (b : ReadBatch) : Type 0 where
  pub changes : b.changes ≡ changes_of metric dim done
  pub fault : b.fault ≡ fault_of metric dim done
  pub total : b.total ≡ length done
