use Rattle.std.proofs.Common.{subst}
use Rattle.update_seed.specs.inside.Ties.{AreAlone}
use Rattle.update_seed.proofs.Lists.{whole}
use Rattle.update_seed.proofs.Tied.{alone_none, alone_free, alone_more}
use Rattle.update_seed.proofs.ties.each_alone.Goals as goal

pub loop-i-init : goal.loop-i-init
loop-i-init c = alone_none _ c.new-ties.ensures

pub found-requires-clause-free : goal.found-requires-clause-free
found-requires-clause-free c =
    alone_free c.loop-i.ties c.args.cores.now c.in_ok-single.field-0 c.loop-i.i c.requires c.loop-i-test.true c.loop-i.invariant c.in_ok-single.ensures

pub loop-i-preserved : goal.loop-i-preserved
loop-i-preserved c =
    alone_more c.loop-i.ties c.found.new.self c.args.cores.now c.in_ok-single.field-0 c.loop-i.i c.in_ok-found.field-0 c.loop-i-test.true c.loop-i.invariant c.in_ok-single.ensures
    c.in_ok-found.ensures.label c.in_ok-found.ensures.ok

pub returns : goal.returns
returns c = subst (λ xs. AreAlone xs c.loop-i.ties) (whole c.args.cores.now c.loop-i.i c.loop-i-test.false) c.loop-i.invariant
