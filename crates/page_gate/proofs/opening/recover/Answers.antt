use Rattle.std.proofs.Common.{sym, ◌∙◌}
use Rattle.page_gate.proofs.Finding.{gate_room, recovers_order}
use Rattle.page_gate.proofs.opening.recover.Goals as goal

pub numbers_rise-requires-clause-told : goal.numbers_rise-requires-clause-told
numbers_rise-requires-clause-told g c = λ told. gate_room (g.T.Site.state c.args.site.now).content c.args.start c.args.count (sym (c.requires.told told).gate_is)

pub returns-in-Ok-false-clause-told : goal.returns-in-Ok-false-clause-told
returns-in-Ok-false-clause-told g c = λ told. recovers_order c.args.start c.args.count (g.met.T.Site.is_now c.args.site.now told) (c.requires.told told) (c.numbers_rise.ensures.told told).stays (sym c.in-Ok-false.field-0-test ∙ (c.in-Ok-false.ensures.told told).answer)
