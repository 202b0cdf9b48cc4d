use Rattle.std.proofs.Common.{◌≡◌, ◌<◌, ◌≤◌, length, sym, ap, subst, arith, length-append}
use Rattle.std.proofs.lemmas.Bool.Decides.{nat_tests}
use Rattle.update_seed.specs.Books.{near_in}
use Rattle.update_seed.specs.Price.{cost_at}
use Rattle.split_expand.specs.inside.Growing.{AreThere}
use Rattle.split_expand.proofs.Begun.{goes_itself, goes_on, fewer_left, begun_start, begun_counted, begun_whole, begun_last, begun_asked, begun_ask}
use Rattle.split_expand.proofs.growing.grow.Goals as goal

pub asks-init : goal.asks-init
asks-init g c =
    let near = near_in g.M.Metric.dist c.args.eps c.args.records.now in
    let cost = cost_at (g.I.RangeIndex.cost c.args.index.now) c.args.records.now c.args.eps in
    record {
      sound = c.requires.sound;
      on = goes_itself c.args.growth.now;
      few = c.requires.asked;
      growing = λ core b. begun_start core near c.requires.alike cost c.args.growth.now b c.args.steps.now c.requires.sound.once;
    }

pub asks-preserved : goal.asks-preserved
asks-preserved g c =
    let near = near_in g.M.Metric.dist c.args.eps c.args.records.now in
    let cost = cost_at (g.I.RangeIndex.cost c.args.index.now) c.args.records.now c.args.eps in
    let inv = c.asks.invariant in
    let e = c.in_ok-ask_next.ensures in
    let lt : c.asks.growth.asked < length c.asks.growth.order.keys = omega (arith, c.asks-test.true, c.len.ensures.len) in
    let some : 0 < c.asks.growth.unfound = omega (arith, c.if-growth-eq0.false) in
    record {
      sound = e.sound;
      on = goes_on c.args.growth.now c.asks.growth c.ask_next.new.growth inv.on e.members e.seeds e.entered.added e.entered.is;
      few = omega (arith, lt, e.asked, ap length e.entered.is, length-append c.asks.growth.order.keys e.entered.added);
      growing = λ core b.
          begun_ask core near c.requires.alike cost c.args.growth.now b c.asks.growth c.args.steps.now c.asks.steps (inv.growing core b) inv.on inv.sound lt some c.ask_next.new.steps e.at_most c.ask_next.new.growth e.sound e.entered e.asked;
    }

pub asks-smaller : goal.asks-smaller
asks-smaller g c =
    let lt : c.asks.growth.asked < length c.asks.growth.order.keys = omega (arith, c.asks-test.true, c.len.ensures.len) in
    fewer_left c.asks.growth c.ask_next.new.growth c.asks.invariant.sound lt c.in_ok-ask_next.ensures.members c.in_ok-ask_next.ensures.asked

pub ask_next-requires-clause-there : goal.ask_next-requires-clause-there
ask_next-requires-clause-there g c = subst (AreThere c.args.records.now) (sym c.asks.invariant.on.members) c.requires.there

pub ask_next-requires-clause-asked : goal.ask_next-requires-clause-asked
ask_next-requires-clause-asked g c = omega (arith, c.asks-test.true, c.len.ensures.len)

pub returns-then-growth-eq0-clause-paid : goal.returns-then-growth-eq0-clause-paid
returns-then-growth-eq0-clause-paid g c =
    let near = near_in g.M.Metric.dist c.args.eps c.args.records.now in
    let cost = cost_at (g.I.RangeIndex.cost c.args.index.now) c.args.records.now c.args.eps in
    let inv = c.asks.invariant in
    λ core b. begun_counted core near c.requires.alike cost c.args.growth.now b c.asks.growth c.args.steps.now c.asks.steps (inv.growing core b) inv.on inv.sound

pub returns-then-growth-eq0-clause-last : goal.returns-then-growth-eq0-clause-last
returns-then-growth-eq0-clause-last g c =
    let near = near_in g.M.Metric.dist c.args.eps c.args.records.now in
    let cost = cost_at (g.I.RangeIndex.cost c.args.index.now) c.args.records.now c.args.eps in
    let inv = c.asks.invariant in
    λ f core b. begun_last core near c.requires.alike cost c.args.growth.now b c.asks.growth c.args.steps.now c.asks.steps (inv.growing core b) inv.on inv.sound c.if-growth-eq0.true

pub returns-in_err-ask_next-clause-paid : goal.returns-in_err-ask_next-clause-paid
returns-in_err-ask_next-clause-paid g c =
    let near = near_in g.M.Metric.dist c.args.eps c.args.records.now in
    let cost = cost_at (g.I.RangeIndex.cost c.args.index.now) c.args.records.now c.args.eps in
    let inv = c.asks.invariant in
    let lt : c.asks.growth.asked < length c.asks.growth.order.keys = omega (arith, c.asks-test.true, c.len.ensures.len) in
    let some : 0 < c.asks.growth.unfound = omega (arith, c.if-growth-eq0.false) in
    λ core b. begun_asked core near c.requires.alike cost c.args.growth.now b c.asks.growth c.args.steps.now c.asks.steps (inv.growing core b) inv.on inv.sound lt some c.ask_next.new.steps c.ask_next.ensures.at_most

pub returns-clause-asked : goal.returns-clause-asked
returns-clause-asked g c = λ t. omega (arith, c.asks-test.false, c.len.ensures.len, c.asks.invariant.few)

pub returns-clause-paid : goal.returns-clause-paid
returns-clause-paid g c =
    let near = near_in g.M.Metric.dist c.args.eps c.args.records.now in
    let cost = cost_at (g.I.RangeIndex.cost c.args.index.now) c.args.records.now c.args.eps in
    let inv = c.asks.invariant in
    λ core b. begun_counted core near c.requires.alike cost c.args.growth.now b c.asks.growth c.args.steps.now c.asks.steps (inv.growing core b) inv.on inv.sound

pub returns-clause-whole : goal.returns-clause-whole
returns-clause-whole g c =
    let near = near_in g.M.Metric.dist c.args.eps c.args.records.now in
    let cost = cost_at (g.I.RangeIndex.cost c.args.index.now) c.args.records.now c.args.eps in
    let inv = c.asks.invariant in
    let end : length c.asks.growth.order.keys ≤ c.asks.growth.asked = omega (arith, c.asks-test.false, c.len.ensures.len) in
    λ t core b. begun_whole core near c.requires.alike cost c.args.growth.now b c.asks.growth c.args.steps.now c.asks.steps (inv.growing core b) inv.on inv.sound end

pub returns-clause-last : goal.returns-clause-last
returns-clause-last g c =
    let near = near_in g.M.Metric.dist c.args.eps c.args.records.now in
    let cost = cost_at (g.I.RangeIndex.cost c.args.index.now) c.args.records.now c.args.eps in
    let inv = c.asks.invariant in
    λ f core b.
    let none : c.asks.growth.unfound ≡ 0 = grind (arith, nat_tests) in
    begun_last core near c.requires.alike cost c.args.growth.now b c.asks.growth c.args.steps.now c.asks.steps (inv.growing core b) inv.on inv.sound none
