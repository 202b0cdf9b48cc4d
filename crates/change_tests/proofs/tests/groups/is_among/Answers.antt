use Rattle.std.proofs.Common.{◌∙◌, sym}
use Rattle.update_seed.proofs.Looking.{core_in_is, same_option}
use Rattle.split_expand.proofs.Remain.{remains}
use Rattle.change_tests.proofs.tests.groups.is_among.Goals as goal

pub returns-then-is_core : goal.returns-then-is_core
returns-then-is_core c = λ t.
    let counts = c.args.counts.now in
    let labels = c.args.labels.now in
    (remains counts labels c.args.label c.args.number).1 (
      (core_in_is counts c.args.number).1 (c.is_core.ensures.0 c.if-is_core.true),
      sym c.label_of.ensures.value ∙ same_option c.label_of.result c.args.label (sym c.eq.ensures ∙ t),
    )
