use Rattle.std.proofs.Common.{◌∙◌, ℕ, List, sym, ap, subst, get_or, ◌≡◌, arith}
use Rattle.std.specs.Prelude.{find}
use Rattle.std.proofs.lemmas.List.Sums.{sum_by-drop_more}
use Rattle.count_book.specs.Counted.{anchored, updated}
use Rattle.update_seed.specs.Books.{all_near, core_in}
use Rattle.update_seed.specs.Price.{cost_at}
use Rattle.update_seed.specs.Outgoing.{AreHung}
use Rattle.update_seed.proofs.Lists.{next, whole, here_in, not_before}
use Rattle.delete_case.proofs.Hung.{hung_none, hung_more}
use Rattle.delete_case.proofs.hanging.rehang.Goals as goal

pub loop-i-init : goal.loop-i-init
loop-i-init g c = record {
  hung = hung_none (all_near g.M.Metric.dist c.args.scene.now.eps c.args.scene.now.records.now) c.args.counts.now;
  spent = omega arith;
}

pub ask-requires-clause-there : goal.ask-requires-clause-there
ask-requires-clause-there g c = c.requires.there _ (here_in c.args.loose.now c.loop-i.i c.loop-i-test.true)

pub loop-i-preserved : goal.loop-i-preserved
loop-i-preserved g c =
    let records = c.args.scene.now.records.now in
    let eps = c.args.scene.now.eps in
    let all = all_near g.M.Metric.dist eps records in
    let loose = c.args.loose.now in
    let b = get_or loose c.loop-i.i 0 in
    let anchor : c.first_core-anchor.result ≡ find (core_in c.loop-i.counts) (all b) =
    c.first_core-anchor.ensures ∙ ap (find (core_in c.loop-i.counts)) (c.as_slice.ensures ∙ c.in_ok-ask.ensures.near) in
    record {
      hung = subst (λ (xs : List ℕ). AreHung all xs c.args.counts.now c.set_anchor.new.self) (sym (next loose c.loop-i.i c.loop-i-test.true))
          (hung_more all _ b c.args.counts.now c.loop-i.counts c.set_anchor.new.self (not_before loose c.loop-i.i c.requires.once c.loop-i-test.true) c.loop-i.invariant.hung
          (c.set_anchor.ensures ∙ ap (λ x. updated (anchored x) c.loop-i.counts b) anchor));
      spent = omega (arith, c.loop-i.invariant.spent, c.in_ok-ask.ensures.counted, sum_by-drop_more (cost_at (g.I.RangeIndex.cost c.args.scene.now.index.now) records eps) loose c.loop-i.i 0 c.loop-i-test.true);
    }

pub returns-clause-hung : goal.returns-clause-hung
returns-clause-hung g c =
    let all = all_near g.M.Metric.dist c.args.scene.now.eps c.args.scene.now.records.now in
    subst (λ (xs : List ℕ). AreHung all xs c.args.counts.now c.loop-i.counts) (whole c.args.loose.now c.loop-i.i c.loop-i-test.false) c.loop-i.invariant.hung
