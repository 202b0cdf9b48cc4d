use Rattle.session_desk.proofs.Spoken.{text_said, spoken}
use Rattle.session_desk.proofs.saying.say.Goals as goal

pub returns-in-Ok-clause-moments : goal.returns-in-Ok-clause-moments
returns-in-Ok-clause-moments g c = λ t. text_said (g.T.Site.state c.args.site.now) (g.T.Site.state c.say.new.self) (g.met.T.Site.is_now c.args.site.now t) c.args.text.now (c.say.ensures.told t)

pub returns-in-Ok-clause-alone : goal.returns-in-Ok-clause-alone
returns-in-Ok-clause-alone g c = λ t. spoken (g.T.Site.state c.args.site.now) (g.T.Site.state c.say.new.self) c.args.text.now (c.say.ensures.told t)

pub returns-in-Err-clause-moments : goal.returns-in-Err-clause-moments
returns-in-Err-clause-moments g c = λ t. text_said (g.T.Site.state c.args.site.now) (g.T.Site.state c.say.new.self) (g.met.T.Site.is_now c.args.site.now t) c.args.text.now (c.say.ensures.told t)

pub returns-in-Err-clause-alone : goal.returns-in-Err-clause-alone
returns-in-Err-clause-alone g c = λ t. spoken (g.T.Site.state c.args.site.now) (g.T.Site.state c.say.new.self) c.args.text.now (c.say.ensures.told t)
