use Rattle.std.proofs.Common.{sym, ◌∙◌}
use Rattle.page_layout.specs.Heads.{values_of}
use Rattle.session_desk.proofs.Bearings.{births, refuses-birth}
use Rattle.session_desk.proofs.birth.init.Goals as goal

pub returns-in-Ok-true-clause-moments : goal.returns-in-Ok-true-clause-moments
returns-in-Ok-true-clause-moments g c = λ t.
    births (values_of c.args.params.now) (g.T.Site.state c.args.site.now) (g.T.Site.state c.is_blank.new.site) (g.T.Site.state c.bear.new.site) (sym (c.in-Ok-true.ensures.told t).answer ∙ c.in-Ok-true.field-0-test) (c.is_blank.ensures.told t) (c.bear.ensures.moments t)

pub returns-in-Ok-false-clause-moments : goal.returns-in-Ok-false-clause-moments
returns-in-Ok-false-clause-moments g c = λ t.
    refuses-birth (values_of c.args.params.now) (g.T.Site.state c.args.site.now) (g.T.Site.state c.is_blank.new.site) (g.T.Site.state c.say.new.site) (sym (c.in-Ok-false.ensures.told t).answer ∙ c.in-Ok-false.field-0-test) (c.is_blank.ensures.told t) (c.say.ensures.moments t)
