use Rattle.std.proofs.Common.{◌≡◌, ℕ, List, ap, ◌∙◌}
use Rattle.vec_record.specs.Limits.{width_of}
use Rattle.page_layout.specs.Heads.{Values, values_of}
use Rattle.page_layout.specs.Inner.{inner_row_at, inner_row_in}
use Rattle.page_layout.proofs.InnerReads.{rows_next}
use Rattle.page_layout.proofs.inner.read_rows.Goals as goal

pub loop-k-preserved : goal.loop-k-preserved
loop-k-preserved c =
    let v : Values = values_of c.args.params.now in
    let width : ℕ = width_of v.metric v.dim in
    let page : List ℕ = c.args.page.now in
    let at_is : inner_row_at c.width.result c.loop-k.k ≡ inner_row_at width c.loop-k.k = ap (λ (n : ℕ). inner_row_at n c.loop-k.k) c.width.ensures.value in
    rows_next width page c.loop-k.k c.loop-k.rows c.push.new.self c.in_ok-row.row c.loop-k.invariant (c.in_ok-row.ensures ∙ ap (inner_row_in width page) at_is) c.in_ok-push.ensures.ok
