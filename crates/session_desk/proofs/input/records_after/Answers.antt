use Rattle.std.proofs.Common.{◌≡◌, ◌+◌, ℕ, sym, ap, subst, ◌∙◌}
use Rattle.std.specs.Prelude.{Some, Err}
use Rattle.std.specs.List.{AllByRecursion}
use Rattle.vec_record.specs.Held.{Held}
use Rattle.batch_text.specs.Batch.{IsChangeOf}
use Rattle.session_desk.specs.Input.{unless_faulty}
use Rattle.session_desk.proofs.Batches.{faulty_batch}
use Rattle.session_desk.proofs.input.records_after.Goals as goal

pub returns-in-Some-clause-refused : goal.returns-in-Some-clause-refused
returns-in-Some-clause-refused c = λ r e.
    let same : c.refusal_at.result ≡ r = cc e in
    faulty_batch c.args.params.now.cap c.new-records.result.vectors c.args.batch c.in-Some.fault r c.requires.cap (ap (λ (h : Held). h.vectors) c.new-records.ensures) c.in_ok-check.ensures.ok c.in-Some.is
    (λ rows. ap (λ (k : ℕ). unless_faulty (k + 1) rows (Some c.in-Some.fault)) (sym c.len.ensures) ∙ c.refusal_at.ensures rows ∙ ap Err same)

pub apply_all-requires-clause-fits : goal.apply_all-requires-clause-fits
apply_all-requires-clause-fits c =
    let width : c.new-records.result.width ≡ _ = ap (λ (h : Held). h.width) c.new-records.ensures ∙ c.width.ensures.value in
    let P : ℕ → Type 0 = λ w. AllByRecursion (IsChangeOf w) c.args.batch.changes in
    subst P (sym width) c.requires.fits
