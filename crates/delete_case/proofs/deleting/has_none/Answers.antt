use Rattle.std.proofs.Common.{◌∙◌, not, ap, sym, arith}
use Rattle.delete_case.proofs.Endings.{no_length, none_is}
use Rattle.delete_case.proofs.deleting.has_none.Goals as goal

pub returns : goal.returns
returns c t = (
  no_length c.args.lost.now (omega (arith, c.len-many.ensures, c.if-many-gt0.false)),
  sym c.label_of.ensures.value ∙ none_is c.label_of.result (c.is_none.ensures ∙ ap not t),
)
