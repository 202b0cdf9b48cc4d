use Rattle.std.proofs.Common.{◌∙◌}
use Rattle.page_gate.specs.declared.fault.OpenFault.TheVariants.{Damaged}
use Rattle.session_desk.specs.Opened.{refusal_course}
use Rattle.session_desk.proofs.Spoken.{same_text}
use Rattle.session_desk.proofs.serve.say_damage.Goals as goal

pub returns-clause-moments : goal.returns-clause-moments
returns-clause-moments g c = λ t.
    same_text (g.T.Site.state c.args.site.now) (g.T.Site.state c.say.new.site) c.as_bytes.result.now (refusal_course (Damaged c.args.page c.args.offset)).ending (c.as_bytes.ensures.value ∙ c.in-Ok.ensures.ok) (c.say.ensures.moments t)
