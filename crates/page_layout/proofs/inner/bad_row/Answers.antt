use Rattle.std.proofs.Common.{ap, ◌∙◌}
use Rattle.page_layout.specs.Fields.{first_bad}
use Rattle.page_layout.specs.Heads.{Values, values_of}
use Rattle.page_layout.proofs.InnerReads.{fields_are, object_is}
use Rattle.page_layout.proofs.inner.bad_row.Goals as goal

pub returns : goal.returns
returns c =
    let v : Values = values_of c.args.params.now in
    c.first_bad.ensures
    ∙ ap first_bad
    (fields_are v c.args.page.now c.args.at c.width-width.result c.word_at.result c.word_at-2.result c.greatest-greatest.result _ c.is_spelled.result c.width-width.ensures.value c.word_at.ensures c.word_at-2.ensures c.greatest-greatest.ensures.value
    (object_is v c.args.page.now c.args.at c.width-width.result c.width-width.ensures.value) c.is_spelled.ensures)
