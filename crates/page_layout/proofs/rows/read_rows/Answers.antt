use Rattle.std.proofs.Common.{◌≡◌, ◌+◌, ◌-◌, ◌*◌, ◌/◌, ℕ, List, Some, None, Ok, ap, ◌∙◌, sym, arith}
use Rattle.std.proofs.lemmas.Result.{err_from_is_err_and}
use Rattle.vec_record.specs.Limits.{width_of}
use Rattle.page_layout.specs.Fields.{zero_fields, first_bad}
use Rattle.page_layout.specs.Heads.{Values, values_of}
use Rattle.page_layout.specs.Slots.{slots_in_page, slot_at, slots_fields, rows_in}
use Rattle.page_layout.proofs.Places.{bytes_by_index, said_ok}
use Rattle.page_layout.proofs.RowLaws.{kind_bad, front_bad, slots_why, end_said, record_from}
use Rattle.page_layout.proofs.rows.read_rows.Goals as goal

-- the zeros behind the slots, at a width that was computed
end_is : (width n : ℕ) (page : List ℕ) → n ≡ width
    → first_bad (zero_fields (16 + (16 + n) * (16368 / (16 + n))) (16384 - (16 + (16 + n) * (16368 / (16 + n)))) page) ≡ first_bad (zero_fields (slot_at width (slots_in_page width)) (16384 - slot_at width (slots_in_page width)) page)
end_is width n page is = ap (λ (k : ℕ). first_bad (zero_fields (16 + (16 + k) * (16368 / (16 + k))) (16384 - (16 + (16 + k) * (16368 / (16 + k)))) page)) is

pub returns-then-page-ne1-clause-rows : goal.returns-then-page-ne1-clause-rows
returns-then-page-ne1-clause-rows c = kind_bad (values_of c.args.params.now) c.args.page.now c.if-page-ne1.true

pub returns-in-Some-clause-rows : goal.returns-in-Some-clause-rows
returns-in-Some-clause-rows c = front_bad (values_of c.args.params.now) c.args.page.now c.if-page-ne1.false c.in-Some.offset c.in-Some.ensures

pub returns-in_err-rows-clause-rows : goal.returns-in_err-rows-clause-rows
returns-in_err-rows-clause-rows c =
    let p = err_from_is_err_and c.from_residual.result c.from_residual.ensures.1 in
    rw (p.1, p.2) (slots_why (values_of c.args.params.now) c.args.page.now c.if-page-ne1.false (sym c.in_default.ensures) c.in_err-rows.field-0.0 c.in_err-rows.ensures)

pub returns-in-Some-first_set-clause-rows : goal.returns-in-Some-first_set-clause-rows
returns-in-Some-first_set-clause-rows c =
    let v : Values = values_of c.args.params.now in
    let page : List ℕ = c.args.page.now in
    let slots = said_ok (first_bad (slots_fields v page 0 (slots_in_page (width_of v.metric v.dim)))) (rows_in (width_of v.metric v.dim) page) c.in_ok-rows.rows c.in_ok-rows.ensures in
    end_said v page c.if-page-ne1.false (sym c.in_default.ensures) (Some c.in-Some-first_set.offset) slots.0 (c.in-Some-first_set.ensures ∙ end_is (width_of v.metric v.dim) c.width.result page c.width.ensures.value)

pub returns-clause-rows : goal.returns-clause-rows
returns-clause-rows c =
    let v : Values = values_of c.args.params.now in
    let page : List ℕ = c.args.page.now in
    let slots = said_ok (first_bad (slots_fields v page 0 (slots_in_page (width_of v.metric v.dim)))) (rows_in (width_of v.metric v.dim) page) c.in_ok-rows.rows c.in_ok-rows.ensures in
    end_said v page c.if-page-ne1.false (sym c.in_default.ensures) None slots.0 (c.in_default-first_set.ensures ∙ end_is (width_of v.metric v.dim) c.width.result page c.width.ensures.value) ∙ ap Ok slots.1

pub returns-clause-lawful : goal.returns-clause-lawful
returns-clause-lawful c =
    (record_from (values_of c.args.params.now) c.args.page.now c.in_ok-rows.rows (bytes_by_index c.args.page.now (λ i. omega (arith, c.type_inv.page i))) c.requires (returns-clause-rows c)).0
