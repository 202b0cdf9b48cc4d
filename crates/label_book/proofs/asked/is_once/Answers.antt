use Rattle.std.proofs.Common.{subst}
use Rattle.std.proofs.lemmas.List.{take_all}
use Rattle.label_book.specs.Labels.{EachOnce}
use Rattle.label_book.proofs.Parted.{not_both}
use Rattle.label_book.proofs.Checks.{once_next}
use Rattle.label_book.proofs.asked.is_once.Goals as goal

pub loop-i-preserved : goal.loop-i-preserved
loop-i-preserved c = once_next c.args.list.now c.loop-i.i c.loop-i-test.true c.loop-i.invariant (λ m. not_both c.is_among.result c.if-is_among.false (c.is_among.ensures.1 m))

pub returns : goal.returns
returns c _ = subst EachOnce (take_all c.loop-i.i c.args.list.now c.loop-i-test.false) c.loop-i.invariant
