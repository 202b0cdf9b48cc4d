use Rattle.std.proofs.Common.{sym, ◌∙◌}
use Rattle.page_layout.specs.Heads.{values_of}
use Rattle.page_layout.proofs.InnerLaws.{kind_bad, fields_said}
use Rattle.page_layout.proofs.inner.bad_inner_field.Goals as goal

pub returns-then-page-ne3 : goal.returns-then-page-ne3
returns-then-page-ne3 c = sym (kind_bad (values_of c.args.params.now) c.args.page.now c.if-page-ne3.true)

pub returns : goal.returns
returns c = c.or.ensures ∙ fields_said (values_of c.args.params.now) c.args.page.now c.first_set.result c.bad_node.result c.if-page-ne3.false c.first_set.ensures c.bad_node.ensures
