use Rattle.std.proofs.Common.{◌≡◌, ◌∙◌, [], IsSome, refl, sym, ap, subst, take, get_or, arith}
use Rattle.std.specs.FinMap as map
use Rattle.std.proofs.lemmas.List.Sums.{sum_by-drop_more}
use Rattle.plain_dbscan.specs.Marks.{density}
use Rattle.count_book.specs.Counted.{updated, anchored}
use Rattle.update_seed.specs.Books.{near_in, all_near}
use Rattle.update_seed.specs.Price.{cost_at}
use Rattle.update_seed.specs.Outgoing.{AreOut, AreFormer, AreLoose, AreHung}
use Rattle.update_seed.specs.inside.Found.{AreFound}
use Rattle.update_seed.proofs.Lists.{next, whole, here_in, in_first, not_before}
use Rattle.update_seed.proofs.Clusters.{found_near}
use Rattle.update_seed.proofs.Looking.{missing}
use Rattle.update_seed.proofs.Leaving.{none_near, near_once, found_more, hung_none, core_same, hangs_same, hung_more, former}
use Rattle.update_seed.proofs.outgoing.seeds_out.Goals as goal

pub loop-i-init : goal.loop-i-init
loop-i-init g c =
    let rows = c.args.records.now.vectors in
    let near = near_in g.M.Metric.dist c.args.eps c.args.records.now in
    record {
      found = subst (λ xs. AreFound near c.args.counts.now c.args.labels.now c.args.gone xs [] c.in_ok-found.found) c.as_slice.ensures
          (c.in_ok-found.ensures near (none_near (density g.M.Metric.dist c.args.eps 1) (map.entries rows) c.args.gone (sym (map.get-entries rows c.args.gone) ∙ c.requires.lost.gone_absent)));
      hung = hung_none (all_near g.M.Metric.dist c.args.eps c.args.records.now) c.args.counts.now;
      spent = refl;
    }

pub ask-requires-clause-there : goal.ask-requires-clause-there
ask-requires-clause-there g c =
    let cores = c.as_slice-cores.result.now in
    let out = subst (AreOut c.args.records.now c.args.counts.now c.args.labels.now c.args.gone c.args.around.now) (sym c.as_slice-cores.ensures) c.requires.lost in
    out.there _ (here_in cores c.loop-i.i c.loop-i-test.true)

pub look-requires : goal.look-requires
look-requires g c =
    let cores = c.as_slice-cores.result.now in
    let out = subst (AreOut c.args.records.now c.args.counts.now c.args.labels.now c.args.gone c.args.around.now) (sym c.as_slice-cores.ensures) c.requires.lost in
    record { kept = c.loop-i.invariant.found.kept; label = out.labelled _ (here_in cores c.loop-i.i c.loop-i-test.true) }

pub loop-i-preserved : goal.loop-i-preserved
loop-i-preserved g c =
    let labels = c.args.labels.now in
    let counts = c.args.counts.now in
    let gone = c.args.gone in
    let around = c.args.around.now in
    let rows = c.args.records.now.vectors in
    let d = density g.M.Metric.dist c.args.eps 1 in
    let near = near_in g.M.Metric.dist c.args.eps c.args.records.now in
    let nears = all_near g.M.Metric.dist c.args.eps c.args.records.now in
    let cores = c.as_slice-cores.result.now in
    let i = c.loop-i.i in
    let core = get_or cores i 0 in
    let found = c.as_slice-close.result.now in
    let out = subst (AreOut c.args.records.now counts labels gone around) (sym c.as_slice-cores.ensures) c.requires.lost in
    let here = here_in cores i c.loop-i-test.true in
    let fresh = not_before cores i out.lost_once c.loop-i-test.true in
    let is : found ≡ nears core = c.as_slice-close.ensures ∙ c.in_ok-ask.ensures.near in
    let on = sym (next cores i c.loop-i-test.true) in
    let hung = c.loop-i.invariant.hung in
    record {
      found = subst (λ xs. AreFound near counts labels gone around xs c.look.new.self) on
          (found_more near counts labels gone around (take i cores) found core c.loop-i.counts c.loop-i.found c.look.new.self (found_near d (map.entries rows) core found is) (near_once d rows core found is)
          fresh (λ e. missing out.gone_absent (subst (λ q. IsSome (map.get rows q)) e (out.there core here))) (core_same nears (take i cores) counts c.loop-i.counts hung)
          (hangs_same nears (take i cores) counts c.loop-i.counts hung core (out.no_core core here) (λ q m. out.unhung q (in_first cores i q m))) c.loop-i.invariant.found c.in_ok-look.ensures);
      hung = subst (λ xs. AreHung nears xs counts c.set_anchor.new.self) on
          (hung_more nears (take i cores) counts c.loop-i.counts hung core found c.set_anchor.new.self fresh is
          (c.set_anchor.ensures ∙ ap (λ a. updated (anchored a) c.loop-i.counts core) c.first_core.ensures));
      spent = omega (arith, c.loop-i.invariant.spent, c.in_ok-ask.ensures.counted, sum_by-drop_more (cost_at (g.I.RangeIndex.cost c.args.index.now) c.args.records.now c.args.eps) cores i 0 c.loop-i-test.true);
    }

pub labelled-requires : goal.labelled-requires
labelled-requires g c =
    let out = subst (AreOut c.args.records.now c.args.counts.now c.args.labels.now c.args.gone c.args.around.now) (sym c.as_slice-cores.ensures) c.requires.lost in
    record { once = out.lost_once; there = out.labelled; other = λ m. missing out.gone_absent (out.there c.args.gone m) }

pub returns-clause-former : goal.returns-clause-former
returns-clause-former g c =
    let labels = c.args.labels.now in
    let counts = c.args.counts.now in
    let around = c.args.around.now in
    let near = near_in g.M.Metric.dist c.args.eps c.args.records.now in
    let cores = c.as_slice-cores.result.now in
    let found = subst (λ xs. AreFound near counts labels c.args.gone around xs c.loop-i.found) (whole cores c.loop-i.i c.loop-i-test.false) c.loop-i.invariant.found in
    subst (λ xs. AreFormer near counts labels c.args.gone around xs c.in_ok-former.former) c.as_slice-cores.ensures
    (former near counts labels c.args.gone around cores c.in_ok-labelled.field-0.items c.loop-i.found c.in_ok-former.former c.in_ok-labelled.ensures found c.in_ok-former.ensures)

pub returns-clause-loose : goal.returns-clause-loose
returns-clause-loose g c =
    let near = near_in g.M.Metric.dist c.args.eps c.args.records.now in
    let cores = c.as_slice-cores.result.now in
    subst (λ xs. AreLoose near c.args.counts.now c.args.labels.now c.args.gone c.args.around.now xs c.loop-i.found.loose) (whole cores c.loop-i.i c.loop-i-test.false ∙ c.as_slice-cores.ensures)
    c.loop-i.invariant.found.loose

pub returns-clause-anchors : goal.returns-clause-anchors
returns-clause-anchors g c =
    let cores = c.as_slice-cores.result.now in
    subst (λ xs. AreHung (all_near g.M.Metric.dist c.args.eps c.args.records.now) xs c.args.counts.now c.loop-i.counts) (whole cores c.loop-i.i c.loop-i-test.false ∙ c.as_slice-cores.ensures)
    c.loop-i.invariant.hung
