use Rattle.std.proofs.Common.{◌≡◌, ◌∙◌, ◌<◌, ◌≤◌, length, sym, subst, get_or, arith}
use Rattle.update_seed.specs.inside.Ties.{IsBegun, AreBegun, AreHeads}
use Rattle.update_seed.proofs.Lists.{next, whole, here_in, any_default}
use Rattle.update_seed.proofs.Heads.{begun_start, begun_more, above_all, heads_same}
use Rattle.update_seed.proofs.gathering.heads_of.Goals as goal

pub loop-i-init : goal.loop-i-init
loop-i-init c = begun_start c.args.ties.now _ _ c.new-begun.ensures c.new-heads.ensures.items

pub loop-i-preserved : goal.loop-i-preserved
loop-i-preserved c =
    let order = c.in_ok-order.order.items in
    let core = get_or order c.loop-i.i 0 in
    let low : c.loop-i.i < length order = omega (arith, c.len-i-end.ensures, c.loop-i-test.true, c.in_ok-order.order.ok) in
    let e : c.index.result.now ≡ core = c.index.ensures ∙ any_default order c.loop-i.i _ low in
    let inside = here_in order c.loop-i.i low in
    let there = c.requires.tied core ((c.in_ok-order.ensures.same core).1 inside) in
    subst (λ xs. AreBegun c.args.ties.now xs c.begin.new.begun c.begin.new.heads.items) (sym (next order c.loop-i.i low))
    (begun_more c.args.ties.now _ c.loop-i.begun c.begin.new.begun c.loop-i.heads.items c.begin.new.heads.items core there
    (above_all order c.loop-i.i c.in_ok-order.ensures.order low) c.loop-i.invariant
    (subst (λ x. IsBegun c.args.ties.now x c.loop-i.begun c.loop-i.heads.items c.begin.new.begun c.begin.new.heads.items) e c.in_ok-begin.ensures))

pub returns : goal.returns
returns c =
    let order = c.in_ok-order.order.items in
    let high : length order ≤ c.loop-i.i = omega (arith, c.len-i-end.ensures, c.loop-i-test.false, c.in_ok-order.order.ok) in
    heads_same c.args.ties.now c.args.cores.now order c.loop-i.heads.items c.in_ok-order.ensures.same
    (subst (λ xs. AreHeads c.args.ties.now xs c.loop-i.heads.items) (whole order c.loop-i.i high) c.loop-i.invariant.heads_are)
