use Rattle.std.proofs.Common.{◌+◌, ◌*◌, refl, arith}
use Rattle.page_gate.specs.Gate.{items}
use Rattle.page_gate.specs.Steps.{IsUnnamed, InPlace}
use Rattle.page_gate.proofs.Moving.{puts_none, puts_err}
use Rattle.page_gate.proofs.Taking.{one_more_at}
use Rattle.page_gate.proofs.opening.take_in.Goals as goal

pub loop-k-init : goal.loop-k-init
unfolding items
loop-k-init g c = record {
  later = omega arith;
  told = λ told. puts_none (IsUnnamed (items c.args.start c.args.count (g.T.Site.state c.args.site.now).content)) c.args.start (InPlace (items c.args.start 0 (g.T.Site.state c.args.site.now).content)) (g.met.T.Site.is_now c.args.site.now told) tt;
}

pub take_item-requires-clause-limit : goal.take_item-requires-clause-limit
take_item-requires-clause-limit g c = omega (arith, c.requires.room)

pub loop-k-preserved : goal.loop-k-preserved
loop-k-preserved g c = record {
  later = omega (arith, c.take_item.ensures.cause.later, c.loop-k.invariant.later);
  told = λ told. one_more_at c.args.start c.args.count (g.T.Site.state c.args.site.now).content (c.requires.told told) c.loop-k.k (omega arith) (c.args.start + 16392 * c.from.result) (omega (arith, c.from.ensures)) refl
      (c.loop-k.invariant.told told) (c.in_ok-take_item.ensures.told told);
}

pub returns-in_err-take_item-clause-told : goal.returns-in_err-take_item-clause-told
returns-in_err-take_item-clause-told g c = λ told. puts_err (IsUnnamed (items c.args.start c.args.count (g.T.Site.state c.args.site.now).content)) c.args.start (InPlace (items c.args.start (c.loop-k.k + 1) (g.T.Site.state c.args.site.now).content))
    (InPlace (items c.args.start c.args.count (g.T.Site.state c.args.site.now).content)) c.from_residual.result c.from_residual.ensures.0
    (one_more_at c.args.start c.args.count (g.T.Site.state c.args.site.now).content (c.requires.told told) c.loop-k.k (omega arith) (c.args.start + 16392 * c.from.result) (omega (arith, c.from.ensures)) refl
    (c.loop-k.invariant.told told) (c.take_item.ensures.told told))
