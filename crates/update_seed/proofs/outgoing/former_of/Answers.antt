use Rattle.std.proofs.Common.{◌≡◌, ◌∙◌, ◌<◌, ◌≤◌, Some, length, get_or, sym, ap, subst, arith}
use Rattle.std.proofs.lemmas.Option.{slice_get-get_or}
use Rattle.update_seed.specs.declared.former.Former.{Former}
use Rattle.update_seed.specs.inside.Split.{AreUnder, AreLabelsOf}
use Rattle.update_seed.proofs.Lists.{any_default}
use Rattle.update_seed.proofs.ByLabel.{made_none, made_more, split}
use Rattle.update_seed.proofs.outgoing.former_of.Goals as goal

pub loop-i-init : goal.loop-i-init
loop-i-init c = made_none _ _ _ _ c.new-list.ensures

pub loop-i-preserved : goal.loop-i-preserved
loop-i-preserved c =
    let labels = c.in_ok-labels.labels.items in
    let lost = c.sorted-lost.result.items in
    let seeds = c.sorted-seeds.result.items in
    let label = c.index-label.result.now in
    let low : c.loop-i.i < length labels = omega (arith, c.len-i-end.ensures, c.loop-i-test.true, c.in_ok-labels.labels.ok) in
    let e : label ≡ get_or labels c.loop-i.i 0 = c.index-label.ensures ∙ any_default labels c.loop-i.i _ low in
    let g : Former = record { label = label; lost = c.in_ok-with_label.field-0; seeds = c.in_ok-with_label-2.field-0 } in
    made_more lost seeds labels c.loop-i.i c.loop-i.list c.push.new.self g c.loop-i.invariant (slice_get-get_or labels c.loop-i.i 0 low ∙ ap (λ n. Some n) (sym e))
    (subst (λ xs. AreUnder xs label g.lost) c.deref-in-loop-i.ensures.value c.in_ok-with_label.ensures)
    (subst (λ xs. AreUnder xs label g.seeds) c.deref-in-loop-i-2.ensures.value c.in_ok-with_label-2.ensures) c.in_ok-push.ensures.ok

pub returns : goal.returns
returns c =
    let labels = c.in_ok-labels.labels.items in
    let high : length labels ≤ c.loop-i.i = omega (arith, c.len-i-end.ensures, c.loop-i-test.false, c.in_ok-labels.labels.ok) in
    split c.args.lost.items c.args.seeds.items c.sorted-lost.result.items c.sorted-seeds.result.items labels c.loop-i.i c.loop-i.list c.sorted-lost.ensures.same c.sorted-seeds.ensures.same
    (subst (λ xs. AreLabelsOf xs labels) c.deref.ensures.value c.in_ok-labels.ensures) c.loop-i.invariant high
