-- A batch with a faulty record behind changes that apply.
use Rattle.std.proofs.Common.{◌≡◌, ℕ, ◌+◌, length, ap, subst, ◌∙◌}
use Rattle.std.specs.Prelude.{Option, Some, Result, Ok, Err, IsOk}
use Rattle.std.specs.FinMap as map
use Rattle.vec_record.specs.Held.{Rows}
use Rattle.batch_text.specs.After.{after}
use Rattle.batch_text.specs.declared.read.ReadBatch.{ReadBatch}
use Rattle.batch_text.specs.declared.faults.LineFault.{LineFault}
use Rattle.batch_text.specs.declared.faults.CheckFault.{CheckFault}
use Rattle.session_desk.specs.declared.input.Refusal.{Refusal}
use Rattle.session_desk.specs.Input.{unless_faulty, unless_refused, rows_after}

behind : (due : Result Rows CheckFault) (place : ℕ) (found : Option LineFault) (fault : LineFault) (r : Refusal) → IsOk due → found ≡ Some fault → ((rows : Rows) → unless_faulty place rows (Some fault) ≡ Err r) → unless_refused due (λ rows. unless_faulty place rows found) ≡ Err r
behind (Ok rows) place found fault r ok is each = ap (unless_faulty place rows) is ∙ each rows
behind (Err e) place found fault r ok is each = absurd (cc ok)

pub faulty_batch : (cap : ℕ) (rows : Rows) (b : ReadBatch) (fault : LineFault) (r : Refusal) → cap ≡ 200000 → rows ≡ map.empty → IsOk (after cap rows b.changes) → b.fault ≡ Some fault
    → ((x : Rows) → unless_faulty (length b.changes + 1) x (Some fault) ≡ Err r) → rows_after b ≡ Err r
faulty_batch cap rows b fault r room none ok is each =
    let P : ℕ → Type 0 = λ k. IsOk (after k map.empty b.changes) in
    let Q : Rows → Type 0 = λ x. IsOk (after cap x b.changes) in
    behind (after 200000 map.empty b.changes) (length b.changes + 1) b.fault fault r (subst P room (subst Q none ok)) is each
