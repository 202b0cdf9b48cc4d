use Rattle.std.proofs.Common.{subst}
use Rattle.page_gate.specs.declared.gate.Gate.{Gate}
use Rattle.page_gate.specs.Looks.{HasGate}
use Rattle.page_gate.proofs.Finding.{recovers_bad, recovers_closed}
use Rattle.page_gate.proofs.opening.settle_gate.Goals as goal

pub returns-in-Bad-clause-told : goal.returns-in-Bad-clause-told
returns-in-Bad-clause-told g c = λ told. recovers_bad c.in-Bad.fault (g.met.T.Site.is_now c.args.site.now told) (subst (λ (gate : Gate). HasGate gate (g.T.Site.state c.args.site.now)) c.in-Bad.is (c.requires.told told))

pub returns-in-Closed-clause-told : goal.returns-in-Closed-clause-told
returns-in-Closed-clause-told g c = λ told. recovers_closed (g.met.T.Site.is_now c.args.site.now told) (subst (λ (gate : Gate). HasGate gate (g.T.Site.state c.args.site.now)) c.in-Closed.is (c.requires.told told))
