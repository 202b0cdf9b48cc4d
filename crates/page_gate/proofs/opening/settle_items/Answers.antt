use Rattle.page_gate.specs.Gate.{items}
use Rattle.page_gate.specs.Steps.{IsUnnamed, InPlace}
use Rattle.page_gate.proofs.Moving.{keeps}
use Rattle.std.proofs.Common.{refl}
use Rattle.page_gate.proofs.Recovery.{ready, settled, settle_broke}
use Rattle.page_gate.proofs.opening.settle_items.Goals as goal

pub take_in-requires-clause-told : goal.take_in-requires-clause-told
take_in-requires-clause-told g c = λ told. let can = c.requires.told told in ready c.args.start c.args.count (g.T.Site.state c.args.site.now).content can.gate can.rising

pub returns-clause-told : goal.returns-clause-told
returns-clause-told g c = λ told. let can = c.requires.told told in
    settled c.args.start c.args.count (g.T.Site.state c.args.site.now).content can.gate can.rising (g.T.Site.state c.args.site.now) refl can.only (c.in_ok-take_in.ensures.told told) (c.in_ok-sync.ensures.told told) (c.turn_gate.ensures.told told)

pub returns-in_err-take_in-clause-told : goal.returns-in_err-take_in-clause-told
returns-in_err-take_in-clause-told g c = λ told. let can = c.requires.told told in
    settle_broke c.args.start c.args.count (g.T.Site.state c.args.site.now).content can.gate can.rising (g.T.Site.state c.args.site.now) refl can.only (InPlace (items c.args.start c.args.count (g.T.Site.state c.args.site.now).content))
    c.from_residual.result c.from_residual.ensures.0 (c.take_in.ensures.told told)

pub returns-in_err-sync-clause-told : goal.returns-in_err-sync-clause-told
returns-in_err-sync-clause-told g c = λ told. let can = c.requires.told told in
    let its = items c.args.start c.args.count (g.T.Site.state c.args.site.now).content in
    let kept = keeps (IsUnnamed its) c.args.start (InPlace its) (c.in_ok-take_in.ensures.told told) (c.sync.ensures.told told) in
    settle_broke c.args.start c.args.count (g.T.Site.state c.args.site.now).content can.gate can.rising (g.T.Site.state c.args.site.now) refl can.only (InPlace its)
    c.from_residual-in_err-sync.result c.from_residual-in_err-sync.ensures.0 kept.puts
