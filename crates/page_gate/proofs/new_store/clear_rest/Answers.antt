use Rattle.std.proofs.Common.{◌≡◌, ◌+◌, ◌*◌, ℕ, inl, arith}
use Rattle.page_gate.specs.Same.{IsOutside}
use Rattle.page_gate.specs.Births.{IsGate, Begins, IsZero}
use Rattle.page_gate.proofs.Births.{begins_more}
use Rattle.page_gate.proofs.Moving.{puts_none, puts_on}
use Rattle.page_gate.proofs.new_store.clear_rest.Goals as goal

pub loop-k-init : goal.loop-k-init
loop-k-init g c = record {
  later = omega arith;
  told = λ told. puts_none IsGate 16384 (Begins 8) (g.met.T.Site.is_now c.args.site.now told) (c.requires.begun told);
}

pub loop-k-preserved : goal.loop-k-preserved
loop-k-preserved g c =
    let at : ℕ = 8 + 712 * c.loop-k.k in
    let next : at + 712 ≡ 8 + 712 * (c.loop-k.k + 1) = omega arith in
    record {
      later = omega (arith, c.write_zeros.ensures.cause.later, c.loop-k.invariant.later);
      told = λ told. puts_on IsGate 16384 (Begins at) (Begins (8 + 712 * (c.loop-k.k + 1))) IsGate (IsOutside at 712) 16384 (at + 712) (IsZero at 712)
          (c.loop-k.invariant.told told) (c.in_ok-write_zeros.ensures.told told) (λ i lt. lt) (omega arith) (λ i lt. inl (omega (arith, lt))) (omega arith)
          (begins_more at (8 + 712 * (c.loop-k.k + 1)) (omega arith) next);
    }
