use Rattle.std.proofs.Common.{ap, ◌∙◌}
use Rattle.page_gate.specs.Gate.{count_of}
use Rattle.page_layout.specs.Heads.{values_of}
use Rattle.session_desk.proofs.Bearings.{new-count, bears}
use Rattle.session_desk.proofs.birth.bear.Goals as goal

pub birth-requires-clause-count : goal.birth-requires-clause-count
birth-requires-clause-count g c = ap count_of c.in-Ok.ensures ∙ new-count (values_of c.args.params.now)

pub returns-in-Ok-birth-clause-moments : goal.returns-in-Ok-birth-clause-moments
returns-in-Ok-birth-clause-moments g c = λ t.
    bears (values_of c.args.params.now) c.in-Ok.first c.in-Ok.ensures (g.T.Site.state c.args.site.now) (g.T.Site.state c.birth.new.site) (g.T.Site.state c.say.new.site) (c.birth.ensures.told t) (c.in-Ok-birth.ensures.told t).holds (c.say.ensures.moments t)
