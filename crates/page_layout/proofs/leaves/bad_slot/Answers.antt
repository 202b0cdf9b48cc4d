use Rattle.std.proofs.Common.{ℕ, Option, ap, ◌∙◌, arith}
use Rattle.std.specs.Option.{option_or}
use Rattle.page_layout.proofs.LeafReads.{slot_said}
use Rattle.page_layout.proofs.leaves.bad_slot.Goals as goal

pub returns : goal.returns
returns c =
    c.or-2.ensures ∙ ap (λ (o : Option ℕ). option_or o c.first_set-2.result) c.or.ensures
    ∙ slot_said c.args.page.now c.args.at c.word_at-fill.result _ _ c.first_set.result c.bad_row.result c.first_set-2.result c.word_at-fill.ensures (omega arith) (omega arith) (omega arith) c.first_set.ensures c.bad_row.ensures c.first_set-2.ensures
