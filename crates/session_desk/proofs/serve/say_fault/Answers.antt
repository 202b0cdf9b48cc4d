use Rattle.std.proofs.Common.{◌++◌, sym, ap, ◌∙◌}
use Rattle.std.specs.Prelude.{codes}
use Rattle.page_gate.specs.declared.fault.OpenFault.{OpenFault}
use Rattle.session_desk.specs.Opened.{refusal_course}
use Rattle.session_desk.proofs.Spoken.{same_text}
use Rattle.session_desk.proofs.serve.say_fault.Goals as goal

pub returns-in-Blank-clause-moments : goal.returns-in-Blank-clause-moments
returns-in-Blank-clause-moments g c = λ t.
    same_text (g.T.Site.state c.args.site.now) (g.T.Site.state c.say.new.site) (codes "blank store\n") (refusal_course c.args.fault).ending (ap (λ (f : OpenFault). (refusal_course f).ending) (sym c.in-Blank.is)) (c.say.ensures.moments t)

pub returns-in-Foreign-clause-said : goal.returns-in-Foreign-clause-said
returns-in-Foreign-clause-said g c = λ t fine.
    c.say-in-Foreign.ensures.said t fine ∙ ap (λ (f : OpenFault). (g.T.Site.state c.args.site.now).said ++ (refusal_course f).ending) (sym c.in-Foreign.is)

pub returns-in-Foreign-clause-moments : goal.returns-in-Foreign-clause-moments
returns-in-Foreign-clause-moments g c = λ t.
    same_text (g.T.Site.state c.args.site.now) (g.T.Site.state c.say-in-Foreign.new.site) (codes "foreign store\n") (refusal_course c.args.fault).ending (ap (λ (f : OpenFault). (refusal_course f).ending) (sym c.in-Foreign.is)) (c.say-in-Foreign.ensures.moments t)
