use Rattle.std.proofs.Common.{rules, ◌∙◌, ℕ, ◌<◌, length, not, slice_index, arith}
use Rattle.mtree_node.specs.Cost.{is_skipped}
use Rattle.mtree_index.specs.Pruned.{places_left}
use Rattle.int_metric.proofs.Kept.{kept_next_of_range}
use Rattle.mtree_index.proofs.pruning.left.Goals as goal

pub loop-place-preserved : goal.loop-place-preserved
loop-place-preserved c =
    let parents = c.args.parents.now in
    let at = c.loop-place.places in
    let count = c.loop-place.count in
    let k = c.loop-place.place in
    let p = λ (j : ℕ). not (is_skipped c.args.to_object c.args.radius (slice_index parents j)) in
    let room : count < length at = omega (arith, c.loop-place.invariant.room, c.loop-place.invariant.few, c.loop-place-test.true, c.requires) in
    record {
      room = search rules;
      few = search rules;
      kept = kept_next_of_range p c.has.result at count c.from-count.result k (length parents) (places_left c.args.to_object c.args.radius parents) c.loop-place-test.true room c.from-count.ensures (c.has.ensures.is ∙ c.new-band.ensures.left _ c.has.ensures.fits) c.loop-place.invariant.kept;
    }
