use Rattle.std.proofs.Common.{◌∙◌, sym, ap}
use Rattle.page_gate.specs.Gate.{count_of, number_4, is_blank}
use Rattle.page_gate.proofs.tests.bear.Goals as goal

pub birth-requires-clause-count : goal.birth-requires-clause-count
unfolding count_of
birth-requires-clause-count g c = sym (ap (number_4 0) c.as_slice.ensures.same) ∙ sym c.number_4-count.ensures ∙ c.if-count-ne2.false

pub birth-requires-clause-unborn : goal.birth-requires-clause-unborn
birth-requires-clause-unborn g c = λ told. let asks = c.in_ok-blank.ensures.told told in record {
  only = asks.only;
  blank = ap is_blank asks.content ∙ sym asks.answer ∙ c.if-not-blank.false;
}
