use Rattle.std.proofs.Common.{◌≡◌, ℕ, List, ap, sym, ◌∙◌}
use Rattle.vec_record.specs.Limits.{width_of}
use Rattle.page_layout.specs.Fields.{first_bad}
use Rattle.page_layout.specs.Heads.{Values, values_of}
use Rattle.page_layout.specs.Inner.{inner_row_at, inner_row_fields}
use Rattle.page_layout.proofs.Runs.{fields_more, fields_bad}
use Rattle.page_layout.proofs.inner.bad_rows.Goals as goal

pub returns-in-Some : goal.returns-in-Some
returns-in-Some c =
    let v : Values = values_of c.args.params.now in
    let page : List ℕ = c.args.page.now in
    let at_is : inner_row_at c.width.result c.loop-k.k ≡ inner_row_at (width_of v.metric v.dim) c.loop-k.k = ap (λ (n : ℕ). inner_row_at n c.loop-k.k) c.width.ensures.value in
    sym (fields_bad (λ k. inner_row_fields v page (inner_row_at (width_of v.metric v.dim) k)) c.loop-k.k c.args.fill c.in-Some.offset c.loop-k-test.true c.loop-k.invariant
    (ap (λ (at : ℕ). first_bad (inner_row_fields v page at)) (sym at_is) ∙ sym c.in-Some.ensures))

pub loop-k-preserved : goal.loop-k-preserved
loop-k-preserved c =
    let v : Values = values_of c.args.params.now in
    let page : List ℕ = c.args.page.now in
    let at_is : inner_row_at c.width.result c.loop-k.k ≡ inner_row_at (width_of v.metric v.dim) c.loop-k.k = ap (λ (n : ℕ). inner_row_at n c.loop-k.k) c.width.ensures.value in
    fields_more (λ k. inner_row_fields v page (inner_row_at (width_of v.metric v.dim) k)) c.loop-k.k c.loop-k.invariant (ap (λ (at : ℕ). first_bad (inner_row_fields v page at)) (sym at_is) ∙ sym c.in_default.ensures)
