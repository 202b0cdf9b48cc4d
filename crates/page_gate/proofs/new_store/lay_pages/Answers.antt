use Rattle.std.proofs.Common.{ℕ, List, inl, refl, subst, arith}
use Rattle.page_gate.specs.Same.{IsOutside}
use Rattle.page_gate.specs.Steps.{IsThere}
use Rattle.page_gate.specs.Births.{IsGate, Begins, Newborn}
use Rattle.page_gate.proofs.Births.{begins_keep}
use Rattle.page_gate.proofs.Zeros.{zero_at}
use Rattle.page_gate.proofs.Moving.{puts_on, keeps}
use Rattle.page_gate.proofs.new_store.lay_pages.Goals as goal

pub clear_rest-requires-clause-zero : goal.clear_rest-requires-clause-zero
clear_rest-requires-clause-zero g c = zero_at 712 0 _ refl refl

pub returns-clause-told : goal.returns-clause-told
returns-clause-told g c = λ told.
    let front = puts_on IsGate 16384 (Begins 8) (Begins 16384) IsGate IsGate 8 16384 (Begins 16384) (c.in_ok-write_head.ensures.told told) (c.in_ok-clear_rest.ensures.told told) (λ i lt. lt) (omega arith) (λ i lt. lt) (omega arith) (λ was same begins. begins) in
    keeps IsGate 32768 (Newborn c.args.first.now) (puts_on IsGate 32768 (Begins 16384) (Newborn c.args.first.now) IsGate (IsOutside 16384 16384) 16384 32768 (IsThere 16384 c.as_slice.result.now) front (c.in_ok-write_image.ensures.told told)
    (λ i lt. lt) (omega arith) (λ i lt. inl (omega (arith, lt))) (omega arith)
    (λ begins same there. record { begins = begins_keep 16384 begins same; page = subst (λ (l : List ℕ). IsThere 16384 l (g.T.Site.state c.write_image.new.site).content) c.as_slice.ensures.same there }))
    (c.sync.ensures.told told)
