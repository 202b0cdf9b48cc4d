use Rattle.std.proofs.Common.{◌∙◌}
use Rattle.session_desk.specs.Trial.{trial_text}
use Rattle.session_desk.proofs.Spoken.{says_text}
use Rattle.session_desk.proofs.trial.run_trial.Goals as goal

pub returns-in-Ok-clause-says : goal.returns-in-Ok-clause-says
returns-in-Ok-clause-says g c = λ t.
    says_text (g.T.Site.state c.args.site.now) (g.T.Site.state c.say.new.site) c.as_slice.result.now (trial_text c.args.trial.seed c.args.trial.count) (c.as_slice.ensures ∙ c.in-Ok.ensures.text)
    c.say.result (c.say.ensures.said t) (c.say.ensures.prefix t) (c.say.ensures.moments t)
