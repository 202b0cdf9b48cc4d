use Rattle.std.proofs.Common.{◌≡◌, ◌++◌, List, sym, ap, subst, ◌∙◌}
use Rattle.std.specs.List.{list_any}
use Rattle.std.specs.Result.{OnOk}
use Rattle.vec_record.specs.declared.event.Event.{Event}
use Rattle.plain_dbscan.specs.declared.cases.BothMarks.{BothMarks}
use Rattle.plain_dbscan.specs.Across.{is_core_alone, changed_in}
use Rattle.plain_dbscan.proofs.CasesOf.{grown_events, noise_event}
use Rattle.plain_dbscan.proofs.cases.push_insertion.Goals as goal

-- no new core: one event of noise
pub returns-then-not-has_lone_core : goal.returns-then-not-has_lone_core
returns-then-not-has_lone_core c =
    let none = ap (list_any is_core_alone) (sym c.deref.ensures.value) ∙ sym c.if-not-has_lone_core.ensures in
    let said = noise_event c.args.before.now c.args.after.now c.in_ok-both.both.items c.find_new_number.result c.in_ok-both.ensures none c.find_new_number.ensures in
    subst (λ (es : List Event). OnOk c.push.result (c.push.new.self ≡ c.args.out.now ++ es)) said c.push.ensures.ok

-- the events of each cluster that grew
pub returns : goal.returns
returns c =
    let any = ap (list_any is_core_alone) (sym c.deref.ensures.value) ∙ sym c.if-not-has_lone_core.ensures in
    let grown = c.deref-label-items.ensures.value ∙ c.in_ok-grown.ensures ∙ ap (λ (both : List BothMarks). changed_in both c.args.after.now) c.deref-2.ensures.value in
    c.loop-label.invariant
    ∙ ap (λ (es : List Event). c.args.out.now ++ es) (grown_events c.args.before.now c.args.after.now c.in_ok-both.both.items c.deref-label-items.result.now c.loop-label.label-index c.loop-label-test.false c.in_ok-both.ensures any grown)
