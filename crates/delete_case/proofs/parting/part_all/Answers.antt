use Rattle.std.proofs.Common.{List, ◌+◌, subst}
use Rattle.update_seed.specs.declared.former.Former.{Former}
use Rattle.update_seed.specs.Books.{core_in, near_in}
use Rattle.update_seed.specs.Price.{cost_at}
use Rattle.update_seed.proofs.Lists.{whole}
use Rattle.delete_case.specs.Parting.{AreAllParted, AreAllTold, AreAllPaid}
use Rattle.delete_case.proofs.Loop.{partable_now, parted_next, told_next, paid_next, paid_longer, told_none, paid_start}
use Rattle.delete_case.proofs.Parts.{parted_none}
use Rattle.delete_case.proofs.parting.part_all.Goals as goal

pub loop-i-init : goal.loop-i-init
loop-i-init g c =
    let scene = c.args.scene.now in
    let records = scene.records.now in
    let core = core_in c.args.counts.now in
    let near = near_in g.M.Metric.dist scene.eps records in
    record {
      parted = parted_none core near c.args.labels.now;
      told = told_none c.args.labels.now c.args.labels.now c.args.out.now;
      paid = paid_start core near (cost_at (g.I.RangeIndex.cost scene.index.now) records scene.eps) c.args.labels.now c.args.steps.now;
    }

pub part_one-requires-clause-former : goal.part_one-requires-clause-former
part_one-requires-clause-former g c =
    let scene = c.args.scene.now in
    partable_now (core_in c.args.counts.now) (near_in g.M.Metric.dist scene.eps scene.records.now) c.args.counts.now c.args.labels.now c.loop-i.labels c.args.former.now c.requires.former
    c.loop-i.i c.index-former-i.result c.loop-i-test.true c.index-former-i.is c.loop-i.invariant.parted

pub loop-i-preserved : goal.loop-i-preserved
loop-i-preserved g c =
    let scene = c.args.scene.now in
    let records = scene.records.now in
    let core = core_in c.args.counts.now in
    let near = near_in g.M.Metric.dist scene.eps records in
    let cost = cost_at (g.I.RangeIndex.cost scene.index.now) records scene.eps in
    let list = c.args.former.now in
    let f = c.index-former-i.result in
    let inv = c.loop-i.invariant in
    record {
      parted = parted_next core near c.args.counts.now c.args.labels.now c.loop-i.labels list c.requires.former c.loop-i.i f c.loop-i-test.true c.index-former-i.is inv.parted c.part_one.new.labels c.in_ok-part_one.ensures.cut;
      told = told_next core near c.args.counts.now c.args.labels.now c.loop-i.labels list c.requires.former c.loop-i.i f c.loop-i-test.true c.index-former-i.is inv.parted c.part_one.new.labels c.in_ok-part_one.ensures.cut c.args.out.now c.loop-i.out c.part_one.new.out inv.told c.in_ok-part_one.ensures.told;
      paid = paid_next core near c.args.counts.now c.args.labels.now c.loop-i.labels list c.requires.former c.loop-i.i f c.loop-i-test.true c.index-former-i.is inv.parted cost c.args.steps.now c.loop-i.steps c.part_one.new.steps inv.paid c.in_ok-part_one.ensures.paid;
    }

pub returns-in_err-part_one-clause-paid : goal.returns-in_err-part_one-clause-paid
returns-in_err-part_one-clause-paid g c =
    let scene = c.args.scene.now in
    let records = scene.records.now in
    let core = core_in c.args.counts.now in
    let near = near_in g.M.Metric.dist scene.eps records in
    let cost = cost_at (g.I.RangeIndex.cost scene.index.now) records scene.eps in
    let list = c.args.former.now in
    let inv = c.loop-i.invariant in
    paid_longer core near cost c.args.labels.now list (c.loop-i.i + 1) c.args.steps.now c.part_one.new.steps
    (paid_next core near c.args.counts.now c.args.labels.now c.loop-i.labels list c.requires.former c.loop-i.i c.index-former-i.result c.loop-i-test.true c.index-former-i.is inv.parted cost c.args.steps.now c.loop-i.steps c.part_one.new.steps inv.paid c.part_one.ensures.paid)

pub returns-clause-parted : goal.returns-clause-parted
returns-clause-parted g c =
    let scene = c.args.scene.now in
    subst (λ (xs : List Former). AreAllParted (core_in c.args.counts.now) (near_in g.M.Metric.dist scene.eps scene.records.now) c.args.labels.now xs c.loop-i.labels)
    (whole c.args.former.now c.loop-i.i c.loop-i-test.false) c.loop-i.invariant.parted

pub returns-clause-told : goal.returns-clause-told
returns-clause-told g c =
    subst (λ (xs : List Former). AreAllTold c.args.labels.now xs c.loop-i.labels c.args.out.now c.loop-i.out)
    (whole c.args.former.now c.loop-i.i c.loop-i-test.false) c.loop-i.invariant.told

pub returns-clause-paid : goal.returns-clause-paid
returns-clause-paid g c =
    let scene = c.args.scene.now in
    let records = scene.records.now in
    let cost = cost_at (g.I.RangeIndex.cost scene.index.now) records scene.eps in
    subst (λ (xs : List Former). AreAllPaid (core_in c.args.counts.now) (near_in g.M.Metric.dist scene.eps records) cost c.args.labels.now xs c.args.steps.now c.loop-i.steps)
    (whole c.args.former.now c.loop-i.i c.loop-i-test.false) c.loop-i.invariant.paid
