use Rattle.std.proofs.Common.{map, string_bytes, sym, ap, subst, ◌∙◌}
use Rattle.std.specs.Prelude.{Option, Some}
use Rattle.session_desk.specs.declared.words.Task.{Task}
use Rattle.session_desk.specs.Settings.{IsTask}
use Rattle.session_desk.specs.Words.{Setting, setting_of, command_of}
use Rattle.session_desk.specs.Answers.{answer_of}
use Rattle.session_desk.proofs.Answered.{usage_due}
use Rattle.session_desk.proofs.Spoken.{says_text}
use Rattle.session_desk.proofs.Trials.{says_trial}
use Rattle.session_desk.proofs.top.run.Goals as goal

pub returns-in-None-clause-says : goal.returns-in-None-clause-says
returns-in-None-clause-says g c = λ s t words.
    says_text (g.T.Site.state c.args.site.now) (g.T.Site.state c.say.new.site) _ _
    (usage_due (setting_of (map string_bytes c.args.words.now)) (g.S.Source.left c.args.source.now) c.in-None.ensures.1)
    c.say.result (c.say.ensures.said t) (c.say.ensures.prefix t) (c.say.ensures.moments t)

pub returns-in-Some-Once-clause-says : goal.returns-in-Some-Once-clause-says
returns-in-Some-Once-clause-says g c = λ s t words.
    let P : Task → Type 0 = λ task. IsTask (Some task) (command_of (map string_bytes c.args.words.now)) (setting_of (map string_bytes c.args.words.now)) in
    let asked = subst P c.in-Some-Once.field-0-is c.in-Some-Once.ensures in
    says_text (g.T.Site.state c.args.site.now) (g.T.Site.state c.run_once.new.site) _ _
    (ap (λ (w : Option Setting). (answer_of w (g.S.Source.left c.args.source.now)).text) (sym asked.1))
    c.run_once.result (c.run_once.ensures.text s t) (c.run_once.ensures.prefix s t) (c.run_once.ensures.moments s t)

pub returns-in-Some-Trial-clause-trial_says : goal.returns-in-Some-Trial-clause-trial_says
returns-in-Some-Trial-clause-trial_says g c = λ seed count t words.
    let P : Task → Type 0 = λ task. IsTask (Some task) (command_of (map string_bytes c.args.words.now)) (setting_of (map string_bytes c.args.words.now)) in
    let asked = subst P c.in-Some-Trial.field-0-is c.in-Some-Trial.ensures in
    says_trial c.in-Some-Trial.trial.seed c.in-Some-Trial.trial.count seed count c.run_trial.result (g.T.Site.state c.args.site.now) (g.T.Site.state c.run_trial.new.site) (sym asked.0 ∙ words) (c.run_trial.ensures.says t)
