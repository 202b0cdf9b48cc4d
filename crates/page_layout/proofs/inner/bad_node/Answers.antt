use Rattle.std.proofs.Common.{◌≡◌, ℕ, true, false, Option, sym, ap, ◌∙◌, rules}
use Rattle.std.specs.Option.{option_or}
use Rattle.vec_record.specs.Limits.{width_of}
use Rattle.page_layout.specs.Heads.{Values, values_of}
use Rattle.page_layout.specs.Inner.{inner_row_at}
use Rattle.page_layout.proofs.InnerLaws.{fill_bad, node_said}
use Rattle.page_layout.proofs.inner.bad_node.Goals as goal

pub returns-then-not-is_fill : goal.returns-then-not-is_fill
returns-then-not-is_fill c =
    let known : c.is_fill.result ≡ false = search rules in
    sym (fill_bad (values_of c.args.params.now) c.args.page.now c.word_at-fill.result c.word_at-fill.ensures (sym c.is_fill.ensures.is ∙ known))

pub returns : goal.returns
returns c =
    let v : Values = values_of c.args.params.now in
    let n : ℕ = c.word_at-fill.result in
    let known : c.is_fill.result ≡ true = search rules in
    let end_is : inner_row_at c.width.result n ≡ inner_row_at (width_of v.metric v.dim) n = ap (λ (w : ℕ). inner_row_at w n) c.width.ensures.value in
    c.or-2.ensures ∙ ap (λ (o : Option ℕ). option_or o c.first_set-2.result) c.or.ensures
    ∙ node_said v c.args.page.now n (inner_row_at c.width.result n) c.first_set.result c.bad_rows.result c.first_set-2.result c.word_at-fill.ensures (sym c.is_fill.ensures.is ∙ known) end_is c.first_set.ensures c.bad_rows.ensures c.first_set-2.ensures
