use Rattle.std.proofs.Common.{◌<◌, List, ℕ, sym, subst, length, arith}
use Rattle.update_seed.specs.Books.{core_in, near_in}
use Rattle.update_seed.specs.Price.{cost_at}
use Rattle.update_seed.proofs.Clusters.{near_alike}
use Rattle.split_expand.specs.Remaining.{remaining}
use Rattle.split_expand.proofs.Remain.{remains}
use Rattle.delete_case.specs.inside.Cutting.{IsCutBy}
use Rattle.delete_case.proofs.Cuts.{cut_by_none, cut_by, paid_none, paid_by, cores_in, seeds_among}
use Rattle.delete_case.proofs.Results.{if_ok_both}
use Rattle.delete_case.proofs.parting.groups_of.Goals as goal

pub returns-then-seeds-lt2-clause-groups : goal.returns-then-seeds-lt2-clause-groups
returns-then-seeds-lt2-clause-groups g c =
    let scene = c.args.scene.now in
    let records = scene.records.now in
    let near = near_in g.M.Metric.dist scene.eps records in
    let back = λ (u v : List ℕ). g.met.M.Metric.symmetry records.width u v c.width.ensures.width in
    let alike = near_alike g.M.Metric.dist scene.eps 1 records.width records.vectors c.width.ensures.vectors back in
    let few : length c.args.former.now.seeds < 2 = omega (arith, c.len-seeds.ensures, c.if-seeds-lt2.true) in
    subst (IsCutBy (core_in c.args.counts.now) near c.args.labels.now c.args.former.now) (sym c.new.ensures)
    (cut_by_none c.args.counts.now near c.args.labels.now c.args.former.now c.requires.former alike few)

pub returns-then-seeds-lt2-clause-paid : goal.returns-then-seeds-lt2-clause-paid
returns-then-seeds-lt2-clause-paid g c =
    let scene = c.args.scene.now in
    let records = scene.records.now in
    paid_none (core_in c.args.counts.now) (near_in g.M.Metric.dist scene.eps records) (cost_at (g.I.RangeIndex.cost scene.index.now) records scene.eps) c.args.labels.now c.args.former.now _ _ (omega arith)

pub expand-requires-clause-former : goal.expand-requires-clause-former
expand-requires-clause-former g c =
    let scene = c.args.scene.now in
    let near = near_in g.M.Metric.dist scene.eps scene.records.now in
    cores_in c.args.counts.now near c.args.labels.now c.args.former.now c.requires.former (remaining c.args.counts.now c.args.labels.now c.args.former.now.label) (remains c.args.counts.now c.args.labels.now c.args.former.now.label) scene.records.now c.requires.there

pub expand-requires-clause-seeds : goal.expand-requires-clause-seeds
expand-requires-clause-seeds g c =
    let scene = c.args.scene.now in
    let near = near_in g.M.Metric.dist scene.eps scene.records.now in
    seeds_among c.args.counts.now near c.args.labels.now c.args.former.now c.requires.former (remaining c.args.counts.now c.args.labels.now c.args.former.now.label) (remains c.args.counts.now c.args.labels.now c.args.former.now.label)

pub returns-clause-groups : goal.returns-clause-groups
returns-clause-groups g c =
    let scene = c.args.scene.now in
    let near = near_in g.M.Metric.dist scene.eps scene.records.now in
    if_ok_both c.expand.result _ _ _
    (λ groups are split. cut_by c.args.counts.now near c.args.labels.now c.args.former.now c.requires.former (remaining c.args.counts.now c.args.labels.now c.args.former.now.label) (remains c.args.counts.now c.args.labels.now c.args.former.now.label) groups are split)
    c.expand.ensures.groups c.expand.ensures.split

pub returns-clause-paid : goal.returns-clause-paid
returns-clause-paid g c =
    let scene = c.args.scene.now in
    let records = scene.records.now in
    let near = near_in g.M.Metric.dist scene.eps records in
    paid_by c.args.counts.now near c.args.labels.now c.args.former.now c.requires.former (remaining c.args.counts.now c.args.labels.now c.args.former.now.label) (remains c.args.counts.now c.args.labels.now c.args.former.now.label)
    (cost_at (g.I.RangeIndex.cost scene.index.now) records scene.eps) _ _ c.expand.ensures.paid
