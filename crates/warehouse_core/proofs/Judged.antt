-- What becomes of a batch, by the order of its refusals.
use Rattle.std.proofs.Common.{◌≡◌, ◌≢◌, ℕ, refl, ◌<◌, ◌≤◌, cond, List, length, Err, sym, ap, arith, ◌==◌, min}
use Rattle.std.proofs.lemmas.Bool.{lt-ltb, le-ltb, eq-eqb, ne_eqb}
use Rattle.vec_record.specs.Held.{Rows}
use Rattle.page_layout.specs.Heads.{Values}
use Rattle.batch_text.specs.Batch.{said_by}
use Rattle.batch_text.specs.Records.{records_of}
use Rattle.batch_text.specs.declared.read.ReadBatch.{ReadBatch}
use Rattle.warehouse_core.specs.declared.refusal.Refusal.TheVariants.{TooManyRecords, BatchesUsedUp}
use Rattle.warehouse_core.specs.Batches.{judged, outcome}

module _ (v : Values) (batches : ℕ) (rows : Rows) (body : List ℕ) where
  by_count : (few : ℕ) → few ≡ length (records_of body) → few ≤ 100000 → outcome v batches rows body ≡ cond (batches == 4294967295) (Err BatchesUsedUp) (judged v rows (said_by v.metric v.dim (records_of body)))
  unfolding outcome
  by_count few is le = rw (le-ltb 100000 (length (records_of body)) (omega (arith, is, le))) refl

  pub too_many : 100000 < length (records_of body) → outcome v batches rows body ≡ Err TooManyRecords
  unfolding outcome
  too_many lt = rw (lt-ltb 100000 (length (records_of body)) lt) refl

  pub used_up : length (records_of body) ≤ 100000 → batches ≡ 4294967295 → outcome v batches rows body ≡ Err BatchesUsedUp
  unfolding outcome
  used_up le is = rw (le-ltb 100000 (length (records_of body)) le, eq-eqb batches 4294967295 is) refl

  pub by_records : (b : ReadBatch) → length (records_of body) ≤ 100000 → batches ≢ 4294967295 → b ≡ said_by v.metric v.dim (records_of body) → outcome v batches rows body ≡ judged v rows b
  unfolding outcome
  by_records b le other is = rw (le-ltb 100000 (length (records_of body)) le, ne_eqb batches 4294967295 other) (ap (judged v rows) (sym is))

-- as many records as were counted
pub counted_few : (n total : ℕ) → total ≡ min n 100001 → total ≤ 100000 → n ≤ 100000
counted_few n total is le = omega (arith, is, le)

pub counted_many : (n total : ℕ) → total ≡ min n 100001 → 100000 < total → 100000 < n
counted_many n total is lt = omega (arith, is, lt)
