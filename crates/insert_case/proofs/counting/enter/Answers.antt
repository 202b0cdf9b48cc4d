use Rattle.std.proofs.Common.{◌≡◌, false, true, sym, subst, ◌∙◌, length}
use Rattle.count_book.specs.Counted.{updated, anchored}
use Rattle.insert_case.specs.inside.Counting.{first_labelled}
use Rattle.insert_case.proofs.Raised.{enters_core, enters_other}
use Rattle.insert_case.proofs.counting.enter.Goals as goal

pub returns-then-not-is_core : goal.returns-then-not-is_core
returns-then-not-is_core c =
    enters_other c.args.counts.now c.enter.new.self c.args.number (length c.args.around.now) c.in_ok-enter.ensures.ok (first_labelled c.args.labels.now c.args.around.now) c.set_anchor.new.self
    (λ h. let bad : false ≡ true = sym c.if-not-is_core.true ∙ c.is_core.ensures.1 h in cc)
    (subst (λ o. c.set_anchor.new.self ≡ updated (anchored o) c.enter.new.self c.args.number) c.first_core.ensures c.set_anchor.ensures)

pub returns-else-not-is_core : goal.returns-else-not-is_core
returns-else-not-is_core c =
    enters_core c.args.counts.now c.enter.new.self c.args.number (length c.args.around.now) c.in_ok-enter.ensures.ok (first_labelled c.args.labels.now c.args.around.now) (c.is_core.ensures.0 c.if-not-is_core.false)
