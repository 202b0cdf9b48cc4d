use Rattle.std.proofs.Common.{rules, ◌∙◌, ap, ℕ, ◌<◌, nat_le, List, length, arith}
use Rattle.int_metric.proofs.Kept.{kept_next_of_range}
use Rattle.int_metric.proofs.kernel.within_range_any.Goals as goal

pub loop-place-preserved : goal.loop-place-preserved
loop-place-preserved g c =
    let more : c.loop-place.place < c.args.rows.end = omega (arith, c.loop-place-test.true) in
    let room : c.loop-place.count < length c.loop-place.near = omega (arith, c.loop-place.invariant.room, c.loop-place.invariant.few, more, c.requires.room) in
    record {
      room = search rules;
      few = search rules;
      kept = kept_next_of_range _ c.is_near.result _ _ _ _ _ _ more room c.from-count.ensures (c.is_near.ensures ∙ ap (λ (v : List ℕ). nat_le (g.K.Kernel.dist c.args.centre.now v) c.args.radius) c.row-row.ensures.value) c.loop-place.invariant.kept;
    }
