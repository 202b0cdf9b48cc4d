use Rattle.std.proofs.Common.{◌≤◌, ◌+◌, ◌*◌, ℕ, length, take, [], inl, refl, arith}
use Rattle.page_gate.specs.Same.{IsOutside}
use Rattle.page_gate.specs.Steps.{HasItems, IsBefore, IsItem}
use Rattle.page_gate.specs.Writes.{pairs}
use Rattle.page_gate.proofs.Lists.{has_none, more_items}
use Rattle.page_gate.proofs.Moving.{puts_none, puts_on}
use Rattle.page_gate.proofs.steps.write_items.Goals as goal

pub loop-k-init : goal.loop-k-init
loop-k-init g c = record {
  later = omega arith;
  told = λ told. puts_none (IsBefore c.args.start) (c.args.start + 16392 * length c.args.writes.now) (HasItems c.args.start 0 []) (g.met.T.Site.is_now c.args.site.now told) (has_none c.args.start _);
}

pub loop-k-preserved : goal.loop-k-preserved
loop-k-preserved g c =
    let at : ℕ = c.args.start + 16392 * c.loop-k.k in
    let within : c.loop-k.k + 1 ≤ length c.args.writes.now = omega arith in
    record {
      later = omega (arith, c.write_item.ensures.cause.later, c.loop-k.invariant.later);
      told = λ told. puts_on (IsBefore c.args.start) (c.args.start + 16392 * length c.args.writes.now) (HasItems c.args.start c.loop-k.k (pairs (take c.loop-k.k c.args.writes.now)))
          (HasItems c.args.start (c.loop-k.k + 1) (pairs (take (c.loop-k.k + 1) c.args.writes.now))) (IsBefore c.args.start) (IsOutside at 16392) (c.args.start + 16392 * length c.args.writes.now) (at + 16392)
          (IsItem at c.index-writes-k.result.page c.as_slice.result.now) (c.loop-k.invariant.told told) (c.in_ok-write_item.ensures.told told)
          (λ i lt. lt) (omega arith) (λ i lt. inl (omega (arith, lt))) (omega arith)
          (more_items c.args.writes.now c.loop-k.k c.index-writes-k.result (omega arith) c.index-writes-k.is c.args.start at c.index-writes-k.result.page c.as_slice.result.now refl c.as_slice.ensures.same refl);
    }
