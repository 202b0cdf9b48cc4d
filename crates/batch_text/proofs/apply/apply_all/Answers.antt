use Rattle.std.proofs.Common.{◌≡◌, ◌∙◌, List, subst, sym, ap, refl, arith, length}
use Rattle.std.specs.Vec.Iter.{into_iter_items, into_iter_len}
use Rattle.vec_record.specs.declared.change.Change.{Change}
use Rattle.batch_text.specs.After.{after}
use Rattle.batch_text.proofs.Applying.{Applying, begins, first_can, first_fits, goes_further}
use Rattle.batch_text.proofs.apply.apply_all.Goals as goal

pub apply_change-requires-clause-fits : goal.apply_change-requires-clause-fits
apply_change-requires-clause-fits c = first_fits _ _ _ _ _ _ (begins _ _ _ _ _ _ _ c.in-Some.ensures.steps.0 c.loop-change.invariant.3)

pub apply_change-requires-clause-can : goal.apply_change-requires-clause-can
apply_change-requires-clause-can c = first_can _ _ _ _ _ _ c.requires.accepted (begins _ _ _ _ _ _ _ c.in-Some.ensures.steps.0 c.loop-change.invariant.3)

pub loop-change-init : goal.loop-change-init
loop-change-init c =
    let gives = c.into_iter-change-iterator.ensures.into_iter_gives in
    let all : into_iter_items c.into_iter-change-iterator.result ≡ c.args.changes = gives.0 ∙ c.into_vec-change-items.ensures in
    let P : List Change → Type 0 = λ cs. Applying c.args.params.now.cap c.args.records.now.width (after c.args.params.now.cap c.args.records.now.vectors c.args.changes) c.args.records.now cs in
    let first : P c.args.changes = record { same = refl; fit = c.requires.fits; rest = (1, refl) } in
    (tt, tt, gives.1 ∙ (c.into_vec-change-items.result.ok.0 ∙ ap length (sym gives.0)), subst P (sym all) first)

pub loop-change-preserved : goal.loop-change-preserved
loop-change-preserved c =
    let steps = c.in-Some.ensures.steps in
    let whole : into_iter_len c.next.new.self ≡ length (into_iter_items c.next.new.self) = omega (arith, steps.1, c.loop-change.invariant.2, ap length steps.0) in
    (tt, tt, whole, goes_further _ _ _ _ _ _ _ c.requires.accepted (begins _ _ _ _ _ _ _ steps.0 c.loop-change.invariant.3) c.in_ok-apply_change.ensures.ok)
