use Rattle.std.proofs.Common.{◌≡◌, ◌+◌, ◌*◌, ◌/◌, ℕ, List, Ok, subst, ap, ◌∙◌, sym, arith}
use Rattle.std.proofs.lemmas.Result.{err_from_is_err_and}
use Rattle.vec_record.specs.Limits.{width_of}
use Rattle.page_layout.specs.Fields.{IsWhy}
use Rattle.page_layout.specs.Heads.{Values, values_of}
use Rattle.page_layout.specs.Slots.{slots_in_page, slot_at}
use Rattle.page_layout.specs.Steps.{slot_of}
use Rattle.page_layout.proofs.RowLaws.{one_more, one_bad}
use Rattle.page_layout.proofs.rows.read_slots.Goals as goal

pub returns-in_err-row : goal.returns-in_err-row
returns-in_err-row c =
    let v : Values = values_of c.args.params.now in
    let page : List ℕ = c.args.page.now in
    let at_is : 16 + (16 + c.width.result) * c.loop-k.k ≡ slot_at (width_of v.metric v.dim) c.loop-k.k = ap (λ (n : ℕ). 16 + (16 + n) * c.loop-k.k) c.width.ensures.value in
    let slots_are : 16368 / (16 + c.width.result) ≡ slots_in_page (width_of v.metric v.dim) = ap (λ (n : ℕ). 16368 / (16 + n)) c.width.ensures.value in
    let p = err_from_is_err_and c.from_residual-in_err-row.result c.from_residual-in_err-row.ensures.1 in
    rw (p.1, p.2) (one_bad v page c.loop-k.k c.loop-k.rows c.in_err-row.field-0.0 c.loop-k.invariant (omega (arith, slots_are, c.loop-k-test.true)) (subst (λ (at : ℕ). IsWhy (slot_of v page at) c.in_err-row.field-0.0) at_is c.in_err-row.ensures))

pub loop-k-preserved : goal.loop-k-preserved
loop-k-preserved c =
    let v : Values = values_of c.args.params.now in
    let page : List ℕ = c.args.page.now in
    let at_is : 16 + (16 + c.width.result) * c.loop-k.k ≡ slot_at (width_of v.metric v.dim) c.loop-k.k = ap (λ (n : ℕ). 16 + (16 + n) * c.loop-k.k) c.width.ensures.value in
    let row_is : slot_of v page (slot_at (width_of v.metric v.dim) c.loop-k.k) ≡ Ok c.in_ok-row.row = ap (slot_of v page) (sym at_is) ∙ c.in_ok-row.ensures in
    rw c.in_ok-push.ensures.ok (one_more v page c.loop-k.k c.loop-k.rows c.in_ok-row.row c.loop-k.invariant row_is)
