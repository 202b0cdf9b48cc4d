use Rattle.std.proofs.Common.{◌++◌, List, ap, ◌∙◌}
use Rattle.vec_record.specs.declared.event.Event.{Event}
use Rattle.plain_dbscan.specs.declared.cases.BothMarks.{BothMarks}
use Rattle.plain_dbscan.specs.Across.{changed_in}
use Rattle.plain_dbscan.proofs.CasesOf.{declined_events}
use Rattle.plain_dbscan.proofs.cases.push_deletion.Goals as goal

-- the events of each cluster that lost a core
pub returns : goal.returns
returns c =
    let declined = c.deref-label-items.ensures.value ∙ c.in_ok-declined.ensures ∙ ap (λ (both : List BothMarks). changed_in both c.args.before.now) c.deref.ensures.value in
    c.loop-label.invariant
    ∙ ap (λ (es : List Event). c.args.out.now ++ es) (declined_events c.args.before.now c.args.after.now c.in_ok-both.both.items c.deref-label-items.result.now c.loop-label.label-index c.loop-label-test.false c.in_ok-both.ensures declined)
