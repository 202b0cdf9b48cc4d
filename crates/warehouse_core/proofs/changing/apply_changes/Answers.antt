use Rattle.std.proofs.Common.{◌≡◌, ◌∙◌, ◌++◌, List, subst, sym, ap, refl, arith, length}
use Rattle.std.specs.Vec.Iter.{into_iter_items, into_iter_len}
use Rattle.vec_record.specs.declared.change.Change.{Change}
use Rattle.vec_record.specs.declared.event.Event.{Event}
use Rattle.warehouse_core.specs.Batches.{events_of}
use Rattle.page_layout.specs.Heads.{values_of}
use Rattle.warehouse_core.specs.States.{StandBy}
use Rattle.warehouse_core.proofs.Applied.{Goes, begins, first_can, stopped_paid, stopped_worked, goes_further}
use Rattle.warehouse_core.proofs.changing.apply_changes.Goals as goal

pub apply_one-requires-clause-can : goal.apply_one-requires-clause-can
apply_one-requires-clause-can g c =
    first_can _ _ _ _ _ _ _ _ _ _ _ _ _ _ c.requires.accepted (begins _ _ _ _ _ _ _ _ _ _ _ _ _ _ _ c.in-Some.ensures.steps.0 c.loop-change.invariant.3)

pub returns-in_err-apply_one-clause-price : goal.returns-in_err-apply_one-clause-price
returns-in_err-apply_one-clause-price g c =
    λ s. stopped_paid _ _ _ _ _ _ _ _ _ _ _ _ _ _ c.requires.accepted (begins _ _ _ _ _ _ _ _ _ _ _ _ _ _ _ c.in-Some.ensures.steps.0 c.loop-change.invariant.3) s _ (c.apply_one.ensures.price (c.loop-change.invariant.3.clusters s))

pub returns-in_err-apply_one-clause-work : goal.returns-in_err-apply_one-clause-work
returns-in_err-apply_one-clause-work g c =
    λ s. stopped_worked _ _ _ _ _ _ _ _ _ _ _ _ _ _ c.requires.accepted (begins _ _ _ _ _ _ _ _ _ _ _ _ _ _ _ c.in-Some.ensures.steps.0 c.loop-change.invariant.3) s _ (c.apply_one.ensures.work (c.loop-change.invariant.3.clusters s))

pub loop-change-init : goal.loop-change-init
loop-change-init g c =
    let gives = c.into_iter-change-iterator.ensures.into_iter_gives in
    let all : into_iter_items c.into_iter-change-iterator.result ≡ c.args.changes = gives.0 ∙ c.into_vec-change-items.ensures in
    let P : List Change → Type 0 = λ cs.
    Goes (StandBy g.M.Metric.dist (values_of c.args.params.now) c.args.records.now c.args.clusters.now) g.M.Metric.dist g.M.Metric.most (values_of c.args.params.now) c.args.records.now c.args.clusters.now.tree c.args.steps.now c.args.changes c.args.records.now c.args.clusters.now c.new-events.result c.args.steps.now cs in
    let first : P c.args.changes = record {
      holds = c.requires.holds;
      kept = c.requires.kept;
      clusters = λ s. s;
      fit = c.requires.fits;
      spelled = c.requires.spelled;
      rest = (1, refl);
      events_are = λ s. ap (λ (es : List Event). es ++ events_of (values_of c.args.params.now) c.args.records.now.vectors c.args.changes) c.new-events.ensures;
      tree_is = refl;
      paid = λ s reached paid. paid;
      worked = λ s. omega arith;
    } in
    (tt, tt, gives.1 ∙ (c.into_vec-change-items.result.ok.0 ∙ ap length (sym gives.0)), subst P (sym all) first)

pub loop-change-preserved : goal.loop-change-preserved
loop-change-preserved g c =
    let steps = c.in-Some.ensures.steps in
    let done = c.in_ok-apply_one.ensures in
    let whole : into_iter_len c.next.new.self ≡ length (into_iter_items c.next.new.self) = omega (arith, steps.1, c.loop-change.invariant.2, ap length steps.0) in (
      tt,
      tt,
      whole,
      goes_further _ _ _ _ _ _ _ _ _ _ _ _ _ _ c.requires.accepted (begins _ _ _ _ _ _ _ _ _ _ _ _ _ _ _ steps.0 c.loop-change.invariant.3) _ _ _ _ done.records done.held done.kept (λ s. done.clusters (c.loop-change.invariant.3.clusters s)) done.tree (λ s. done.events (c.loop-change.invariant.3.clusters s)) (λ s. done.price (c.loop-change.invariant.3.clusters s)) (λ s. done.work (c.loop-change.invariant.3.clusters s)),
    )
