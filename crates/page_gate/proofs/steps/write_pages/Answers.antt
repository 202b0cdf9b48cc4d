use Rattle.std.proofs.Common.{◌≡◌, ◌+◌, ◌*◌, ℕ, take, arith}
use Rattle.page_gate.specs.Same.{IsOutside}
use Rattle.page_gate.specs.Steps.{IsUnnamed, InPlace, IsThere}
use Rattle.page_gate.specs.Writes.{pairs, new_count}
use Rattle.page_gate.proofs.Lists.{more_placed, unnamed_out, midst}
use Rattle.page_gate.proofs.Moving.{puts_on, puts_broke}
use Rattle.page_gate.proofs.steps.write_pages.Goals as goal

pub returns-in_err-write_image-clause-told : goal.returns-in_err-write_image-clause-told
returns-in_err-write_image-clause-told g c =
    let at : ℕ = 16384 * c.from-at.result in
    let at_is : at ≡ 16384 * c.index-writes-k.result.page = omega (arith, c.from-at.ensures) in
    let inside = midst c.args.writes.now c.loop-k.k c.index-writes-k.result (omega arith) c.index-writes-k.is (new_count (pairs c.args.writes.now)) c.requires in
    λ told. puts_broke (IsUnnamed (pairs c.args.writes.now)) (16384 * new_count (pairs c.args.writes.now)) (InPlace (pairs (take c.loop-k.k c.args.writes.now)))
    (InPlace (pairs c.args.writes.now)) (IsUnnamed (pairs c.args.writes.now)) (IsOutside at 16384) (16384 * new_count (pairs c.args.writes.now)) (at + 16384)
    (IsThere at c.as_slice.result.now) c.from_residual.result c.from_residual.ensures.0 (c.loop-k.invariant.told told) (c.write_image.ensures.told told)
    (λ i free. free) (omega arith) (unnamed_out c.args.writes.now c.loop-k.k c.index-writes-k.result (omega arith) c.index-writes-k.is at at_is) (omega (arith, at_is, inside.within))

pub loop-k-preserved : goal.loop-k-preserved
loop-k-preserved g c =
    let at : ℕ = 16384 * c.from-at.result in
    let at_is : at ≡ 16384 * c.index-writes-k.result.page = omega (arith, c.from-at.ensures) in
    let inside = midst c.args.writes.now c.loop-k.k c.index-writes-k.result (omega arith) c.index-writes-k.is (new_count (pairs c.args.writes.now)) c.requires in
    record {
      later = omega (arith, c.write_image.ensures.cause.later, c.loop-k.invariant.later);
      told = λ told. puts_on (IsUnnamed (pairs c.args.writes.now)) (16384 * new_count (pairs c.args.writes.now)) (InPlace (pairs (take c.loop-k.k c.args.writes.now)))
          (InPlace (pairs (take (c.loop-k.k + 1) c.args.writes.now))) (IsUnnamed (pairs c.args.writes.now)) (IsOutside at 16384) (16384 * new_count (pairs c.args.writes.now)) (at + 16384)
          (IsThere at c.as_slice.result.now) (c.loop-k.invariant.told told) (c.in_ok-write_image.ensures.told told)
          (λ i free. free) (omega arith) (unnamed_out c.args.writes.now c.loop-k.k c.index-writes-k.result (omega arith) c.index-writes-k.is at at_is) (omega (arith, at_is, inside.within))
          (more_placed c.args.writes.now c.loop-k.k c.index-writes-k.result (omega arith) c.index-writes-k.is (new_count (pairs c.args.writes.now)) at c.as_slice.result.now c.requires c.as_slice.ensures.same at_is);
    }
