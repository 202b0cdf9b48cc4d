use Rattle.std.proofs.Common.{◌++◌, ℕ, List, take, ap, ◌∙◌}
use Rattle.session_desk.specs.Words.{setting}
use Rattle.session_desk.proofs.Answered.{report_due, too_long_due}
use Rattle.session_desk.proofs.Spoken.{same_text}
use Rattle.session_desk.proofs.once.run_once.Goals as goal

pub returns-in-Ok-report-clause-prefix : goal.returns-in-Ok-report-clause-prefix
returns-in-Ok-report-clause-prefix g c = λ s t.
    let said = c.say-in-Ok-report.ensures.prefix t in
    let p = c.args.params.now in
    let same = report_due (setting p.metric p.dim p.eps p.minpts) (g.S.Source.left c.args.source.now) c.in-Ok.input.items c.deref.result.now c.in-Ok-report.answer.status c.in-Ok-report.answer.text
    (c.in-Ok.ensures.whole s) c.deref.ensures.value c.in-Ok.ensures.few c.in-Ok-report.ensures.due in
    (said.0, said.1 ∙ ap (λ (l : List ℕ). (g.T.Site.state c.args.site.now).said ++ take said.0 l) (c.as_slice.ensures ∙ same))

pub returns-in-Err-TooMuch-clause-moments : goal.returns-in-Err-TooMuch-clause-moments
returns-in-Err-TooMuch-clause-moments g c = λ s t.
    let p = c.args.params.now in
    same_text (g.T.Site.state c.args.site.now) (g.T.Site.state c.say.new.site) _ _
    (too_long_due (setting p.metric p.dim p.eps p.minpts) (g.S.Source.left c.args.source.now) (c.read_all.ensures.too_much s (cc))) (c.say.ensures.moments t)

pub returns-in-Ok-report-clause-moments : goal.returns-in-Ok-report-clause-moments
returns-in-Ok-report-clause-moments g c = λ s t.
    let p = c.args.params.now in
    same_text (g.T.Site.state c.args.site.now) (g.T.Site.state c.say-in-Ok-report.new.site) _ _
    (c.as_slice.ensures ∙ report_due (setting p.metric p.dim p.eps p.minpts) (g.S.Source.left c.args.source.now) c.in-Ok.input.items c.deref.result.now c.in-Ok-report.answer.status c.in-Ok-report.answer.text
    (c.in-Ok.ensures.whole s) c.deref.ensures.value c.in-Ok.ensures.few c.in-Ok-report.ensures.due)
    (c.say-in-Ok-report.ensures.moments t)

pub returns-in-Err-TooMuch-clause-prefix : goal.returns-in-Err-TooMuch-clause-prefix
returns-in-Err-TooMuch-clause-prefix g c = λ s t.
    let said = c.say.ensures.prefix t in
    let p = c.args.params.now in
    (said.0, said.1 ∙ ap (λ (l : List ℕ). (g.T.Site.state c.args.site.now).said ++ take said.0 l) (too_long_due (setting p.metric p.dim p.eps p.minpts) (g.S.Source.left c.args.source.now) (c.read_all.ensures.too_much s (cc))))
