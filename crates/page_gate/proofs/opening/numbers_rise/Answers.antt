use Rattle.std.proofs.Common.{◌≡◌, ◌∙◌, ◌+◌, ◌-◌, ◌*◌, ◌/◌, ℕ, List, ltb, suc, sym, ap, arith}
use Rattle.page_gate.specs.Gate.{number_8, items, rises}
use Rattle.page_gate.proofs.Looking.{stays_on}
use Rattle.page_gate.proofs.Reading.{rises_step, rises_none, between_no, between_yes}
use Rattle.page_gate.proofs.opening.numbers_rise.Goals as goal

pub loop-k-preserved : goal.loop-k-preserved
loop-k-preserved g c = record {
  later = omega (arith, c.read_number.ensures.cause.later, c.loop-k.invariant.later);
  stays = λ told. stays_on (c.loop-k.invariant.stays told) (c.in_ok-number.ensures.told told).stays;
  answer = λ told.
      let c0 : List ℕ = (g.T.Site.state c.args.site.now).content in
      let at : ℕ = c.args.start + 16392 * c.loop-k.k in
      let n : ℕ = c.in_ok-number.number in
      let limit : ℕ = c.args.start / 16384 in
      let here : c.args.start + 16392 * c.from.result ≡ at = omega (arith, c.from.ensures) in
      let is : n ≡ number_8 at c0 = (c.in_ok-number.ensures.told told).number_is ∙ ap (λ (l : List ℕ). number_8 (c.args.start + 16392 * c.from.result) l) (c.loop-k.invariant.stays told).content ∙ ap (λ (k : ℕ). number_8 k c0) here in
      let left : c.args.count - c.loop-k.k ≡ suc (c.args.count - (c.loop-k.k + 1)) = omega arith in
      let next : at + 16392 ≡ c.args.start + 16392 * (c.loop-k.k + 1) = omega arith in
      c.loop-k.invariant.answer told ∙ rises_step c.loop-k.low limit at (c.args.count - c.loop-k.k) (c.args.count - (c.loop-k.k + 1)) n c0 left is
      ∙ between_yes (ltb c.loop-k.low n) (ltb n limit) _ (sym c.is_between.ensures ∙ c.if-not-is_between.false) ∙ ap (λ (k : ℕ). rises n limit (items k (c.args.count - (c.loop-k.k + 1)) c0)) next;
}

pub returns-then-not-is_between-clause-told : goal.returns-then-not-is_between-clause-told
returns-then-not-is_between-clause-told g c = λ told. record {
  stays = stays_on (c.loop-k.invariant.stays told) (c.in_ok-number.ensures.told told).stays;
  answer =
      let c0 : List ℕ = (g.T.Site.state c.args.site.now).content in
      let at : ℕ = c.args.start + 16392 * c.loop-k.k in
      let n : ℕ = c.in_ok-number.number in
      let limit : ℕ = c.args.start / 16384 in
      let here : c.args.start + 16392 * c.from.result ≡ at = omega (arith, c.from.ensures) in
      let is : n ≡ number_8 at c0 = (c.in_ok-number.ensures.told told).number_is ∙ ap (λ (l : List ℕ). number_8 (c.args.start + 16392 * c.from.result) l) (c.loop-k.invariant.stays told).content ∙ ap (λ (k : ℕ). number_8 k c0) here in
      let left : c.args.count - c.loop-k.k ≡ suc (c.args.count - (c.loop-k.k + 1)) = omega arith in
      sym (c.loop-k.invariant.answer told ∙ rises_step c.loop-k.low limit at (c.args.count - c.loop-k.k) (c.args.count - (c.loop-k.k + 1)) n c0 left is
      ∙ between_no (ltb c.loop-k.low n) (ltb n limit) _ (sym c.is_between.ensures ∙ c.if-not-is_between.true));
}

pub returns-clause-told : goal.returns-clause-told
returns-clause-told g c = λ told. record {
  stays = c.loop-k.invariant.stays told;
  answer = sym (c.loop-k.invariant.answer told ∙ rises_none _ _ _ _ _ (omega arith));
}
