use Rattle.std.proofs.Common.{◌∙◌}
use Rattle.page_layout.specs.Heads.{Values, values_of}
use Rattle.page_layout.proofs.InnerReads.{row_is, object_is}
use Rattle.page_layout.proofs.inner.read_row.Goals as goal

pub returns : goal.returns
returns c =
    let v : Values = values_of c.args.params.now in
    row_is v c.args.page.now c.args.at c.word_at-child.result c.word_at-parent.result c.word_at-radius.result c.in_ok-object.object c.word_at-child.ensures c.word_at-parent.ensures c.word_at-radius.ensures
    (c.in_ok-object.ensures ∙ object_is v c.args.page.now c.args.at c.width-width.result c.width-width.ensures.value)
