use Rattle.std.proofs.Common.{◌∙◌, ℕ, List, sym, subst, get_or, arith}
use Rattle.std.specs.FinMap as map
use Rattle.std.proofs.lemmas.List.Sums.{sum_by-drop_more}
use Rattle.std.proofs.lemmas.Result.{IfOk-weaker}
use Rattle.plain_dbscan.specs.Marks.{density}
use Rattle.update_seed.specs.Books.{near_in}
use Rattle.update_seed.specs.Price.{cost_at}
use Rattle.update_seed.specs.Groups.{AreNew, AreGathered, AreMerged}
use Rattle.update_seed.specs.Offers.{AreOffered}
use Rattle.update_seed.specs.inside.Ties.{AreLinked}
use Rattle.update_seed.proofs.Lists.{next, whole, here_in}
use Rattle.update_seed.proofs.Linked.{linked_none, linked_more, offers_none, offers_more}
use Rattle.update_seed.proofs.Classes.{gathered}
use Rattle.update_seed.proofs.Clusters.{found_near, all_merged}
use Rattle.update_seed.proofs.seeds.seeds_in.Goals as goal

pub loop-i-init : goal.loop-i-init
loop-i-init g c =
    let cores = c.as_slice-cores.result.now in
    let near = near_in g.M.Metric.dist c.args.eps c.args.records.now in
    let new = subst (AreNew c.args.records.now c.args.counts.now c.args.labels.now) (sym c.as_slice-cores.ensures) c.requires.cores in
    record {
      links = linked_none near c.args.labels.now cores new.free c.in_ok-ties.ties c.in_ok-ties.ensures;
      offered = offers_none near c.args.labels.now cores new.free c.args.counts.now;
      spent = omega arith;
    }

pub ask-requires-clause-there : goal.ask-requires-clause-there
ask-requires-clause-there g c =
    let cores = c.as_slice-cores.result.now in
    let new = subst (AreNew c.args.records.now c.args.counts.now c.args.labels.now) (sym c.as_slice-cores.ensures) c.requires.cores in
    new.there _ (here_in cores c.loop-i.i c.loop-i-test.true)

pub tie_all-requires : goal.tie_all-requires
tie_all-requires g c = c.loop-i.invariant.links.there _ (here_in c.as_slice-cores.result.now c.loop-i.i c.loop-i-test.true)

pub loop-i-preserved : goal.loop-i-preserved
loop-i-preserved g c =
    let labels = c.args.labels.now in
    let counts = c.args.counts.now in
    let es = map.entries c.args.records.now.vectors in
    let d = density g.M.Metric.dist c.args.eps 1 in
    let near = near_in g.M.Metric.dist c.args.eps c.args.records.now in
    let cores = c.as_slice-cores.result.now in
    let core = get_or cores c.loop-i.i 0 in
    let found = c.as_slice.result.now in
    let new = subst (AreNew c.args.records.now counts labels) (sym c.as_slice-cores.ensures) c.requires.cores in
    let here = here_in cores c.loop-i.i c.loop-i-test.true in
    let all = found_near d es core found (c.as_slice.ensures ∙ c.in_ok-ask.ensures.near) in
    let on = sym (next cores c.loop-i.i c.loop-i-test.true) in
    let l = c.loop-i.invariant.links in
    record {
      links = subst (λ xs. AreLinked near labels cores xs c.tie_all.new.ties) on
          (linked_more near labels cores new.free _ found core c.loop-i.ties c.tie_all.new.ties here all l c.in_ok-tie_all.ensures.ties);
      offered = subst (λ xs. AreOffered near labels xs counts c.tie_all.new.counts) on
          (offers_more near labels cores new.free _ found core c.loop-i.ties counts c.loop-i.counts c.tie_all.new.counts all l.keys new.core c.loop-i.invariant.offered c.in_ok-tie_all.ensures.counts);
      spent = omega (arith, c.loop-i.invariant.spent, c.in_ok-ask.ensures.counted, sum_by-drop_more (cost_at (g.I.RangeIndex.cost c.args.index.now) c.args.records.now c.args.eps) cores c.loop-i.i 0 c.loop-i-test.true);
    }

pub gather-requires-clause-once : goal.gather-requires-clause-once
gather-requires-clause-once g c =
    let new = subst (AreNew c.args.records.now c.args.counts.now c.args.labels.now) (sym c.as_slice-cores.ensures) c.requires.cores in
    new.once

pub returns-clause-groups : goal.returns-clause-groups
returns-clause-groups g c =
    let cores = c.as_slice-cores.result.now in
    let new = subst (AreNew c.args.records.now c.args.counts.now c.args.labels.now) (sym c.as_slice-cores.ensures) c.requires.cores in
    let l = c.loop-i.invariant.links in
    IfOk-weaker c.gather.result _ _
    (λ groups are. subst (λ xs. AreGathered c.args.labels.now xs groups) c.as_slice-cores.ensures (gathered c.args.labels.now c.loop-i.ties cores groups new.free l.keys l.there are))
    c.gather.ensures

pub returns-clause-clusters : goal.returns-clause-clusters
returns-clause-clusters g c =
    let dist = g.M.Metric.dist in
    let records = c.args.records.now in
    let labels = c.args.labels.now in
    let cores = c.as_slice-cores.result.now in
    let new = subst (AreNew records c.args.counts.now labels) (sym c.as_slice-cores.ensures) c.requires.cores in
    let linked = subst (λ xs. AreLinked (near_in dist c.args.eps records) labels cores xs c.loop-i.ties) (whole cores c.loop-i.i c.loop-i-test.false) c.loop-i.invariant.links in
    let back = λ (u v : List ℕ). g.met.M.Metric.symmetry records.width u v c.width.ensures.width in
    IfOk-weaker c.gather.result _ _
    (λ groups are. subst (λ xs. AreMerged dist c.args.eps records labels xs groups) c.as_slice-cores.ensures
    (all_merged dist c.args.eps records labels c.loop-i.ties cores groups c.width.ensures.vectors back linked new.free are))
    c.gather.ensures
