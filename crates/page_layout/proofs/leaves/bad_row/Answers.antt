use Rattle.std.proofs.Common.{ℕ, sym, ◌∙◌}
use Rattle.page_layout.specs.Leaves.{leaf_row_at, leaf_row_fields}
use Rattle.page_layout.proofs.Runs.{fields_more, fields_bad}
use Rattle.page_layout.proofs.LeafReads.{row_bad, row_good}
use Rattle.page_layout.proofs.leaves.bad_row.Goals as goal

pub returns-then-word_at-eq0 : goal.returns-then-word_at-eq0
returns-then-word_at-eq0 c =
    let at : ℕ = leaf_row_at c.args.at c.loop-k.k in
    sym (fields_bad (λ k. leaf_row_fields c.args.page.now (leaf_row_at c.args.at k)) c.loop-k.k c.args.fill at c.loop-k-test.true c.loop-k.invariant (row_bad c.args.page.now at (sym c.word_at.ensures ∙ c.if-word_at-eq0.true)))

pub loop-k-preserved : goal.loop-k-preserved
loop-k-preserved c =
    let at : ℕ = leaf_row_at c.args.at c.loop-k.k in
    fields_more (λ k. leaf_row_fields c.args.page.now (leaf_row_at c.args.at k)) c.loop-k.k c.loop-k.invariant (row_good c.args.page.now at (λ is. c.if-word_at-eq0.false (c.word_at.ensures ∙ is)))
