use Rattle.std.proofs.Common.{◌≤◌, ◌<◌, length, ◌∙◌, ap, arith}
use Rattle.std.specs.Prelude.{None}
use Rattle.vec_record.specs.Limits.{width_of}
use Rattle.page_layout.specs.Heads.{values_of}
use Rattle.page_layout.specs.Slots.{IsRow, record_page}
use Rattle.store_image.specs.Placing.{slot_for}
use Rattle.store_image.proofs.PlanFilling.{all_at, half_rows, half_free, half_next}
use Rattle.store_image.proofs.filling.fill_slots.Goals as goal

pub put_record-requires-clause-row : goal.put_record-requires-clause-row
put_record-requires-clause-row g c =
    all_at (IsRow (values_of c.args.state.now.head.params)) (slot_for c.args.state.now.records.vectors c.args.state.now.clusters) c.args.numbers.now c.loop-place.place c.loop-place-test.true c.requires.each

pub loop-place-preserved : goal.loop-place-preserved
loop-place-preserved g c =
    let s = c.args.state.now in
    let v = values_of s.head.params in
    let f = slot_for s.records.vectors s.clusters in
    let ns = c.args.numbers.now in
    let i = c.loop-place.place in
    let lt : i < length ns = c.loop-place-test.true in
    let within : i ≤ length ns = omega (arith, lt) in
    c.put_record.ensures _ (half_rows v f ns i within c.requires) (half_free None f ns i lt) c.loop-place.invariant
    ∙ ap (record_page (width_of s.head.params.metric s.head.params.dim)) (half_next None f ns i lt)
