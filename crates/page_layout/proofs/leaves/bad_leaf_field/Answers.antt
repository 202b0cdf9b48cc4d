use Rattle.std.proofs.Common.{ℕ, Option, sym, ap, ◌∙◌}
use Rattle.std.specs.Option.{option_or}
use Rattle.page_layout.proofs.LeafLaws.{kind_bad, fields_said}
use Rattle.page_layout.proofs.leaves.bad_leaf_field.Goals as goal

pub returns-then-page-ne2 : goal.returns-then-page-ne2
returns-then-page-ne2 c = sym (kind_bad c.args.page.now c.if-page-ne2.true)

pub returns : goal.returns
returns c =
    c.or-2.ensures ∙ ap (λ (o : Option ℕ). option_or o c.first_set-2.result) c.or.ensures
    ∙ fields_said c.args.page.now c.first_set.result c.bad_slots.result c.first_set-2.result c.if-page-ne2.false c.first_set.ensures c.bad_slots.ensures c.first_set-2.ensures
