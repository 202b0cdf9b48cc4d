use Rattle.std.proofs.Common.{◌≡◌, ◌+◌, ◌<◌, ℕ, List, true, false, length, get_or, sym, ap, subst, ◌∙◌, arith}
use Rattle.chain_growth.specs.inside.Lists.{In, with_one}
use Rattle.chain_growth.specs.inside.Work.{Enters}
use Rattle.chain_growth.proofs.Entering.{enters_same, enters_more}
use Rattle.chain_growth.proofs.Views.{listed_in, in_listed}
use Rattle.update_seed.proofs.Lists.{any_default}
use Rattle.split_expand.proofs.growing.Growth.enter_later.Goals as goal
use Rattle.split_expand.proofs.growing.Growth.enter_later.Goals.{then-has+in_ok-enter, else-has}

pub enter-requires-clause-member : goal.enter-requires-clause-member
enter-requires-clause-member c = listed_in c.loop-i.self.members c.index-number.result.now (c.has.ensures.0 c.if-has.true)

pub loop-i-preserved : goal.loop-i-preserved
loop-i-preserved c =
    let g = c.args.self.now in
    let a = c.loop-i.self in
    let members = g.members in
    let found = g.later.items in
    let old = g.order.keys in
    let new = a.order.keys in
    let i = c.loop-i.i in
    let inv = c.loop-i.invariant in
    let x = c.index-number.result.now in
    let low : i < length found = omega (arith, c.loop-i-test.true, c.len-i-end.ensures, g.later.ok) in
    let same : a.later.items ≡ found = ap (λ v. v.items) inv.later in
    let at : x ≡ get_or found i 0 = c.index-number.ensures ∙ any_default a.later.items i _ (omega (arith, low, ap length same)) ∙ ap (λ (xs : List ℕ). get_or xs i 0) same in
    elim c.if-has.branch [
      | then-has+in_ok-enter w ↦
          let here : In a.members x = listed_in a.members x (c.has.ensures.0 w.if-has.true) in
          let m : In members (get_or found i 0) = subst (λ (y : ℕ). In members y) at (subst (λ (ms : List ℕ). In ms x) inv.members here) in
          let e = w.in_ok-enter.ensures in
          let is : w.enter.new.self.order.keys ≡ with_one new (get_or found i 0) = e.order ∙ ap (with_one new) at in
          rw w.self-is (record {
            sound = e.sound;
            entered = subst (λ (ks : List ℕ). Enters members found old ks true (i + 1)) (sym is) (enters_more members found old true new i low inv.entered m);
            members = e.members ∙ inv.members;
            seeds = e.seeds ∙ inv.seeds;
            asked = e.asked ∙ inv.asked;
            near = e.near ∙ inv.near;
            later = e.later ∙ inv.later;
          })
      | else-has w ↦
          rw w.self-is (record {
            sound = inv.sound;
            entered = enters_same members found old true new i inv.entered (λ t m.
                let here : In a.members x = subst (λ (ms : List ℕ). In ms x) (sym inv.members) (subst (λ (y : ℕ). In members y) (sym at) m) in
                let bad : true ≡ false = sym (c.has.ensures.1 (in_listed a.members x here)) ∙ w.if-has.false in
                absurd (cc));
            members = inv.members;
            seeds = inv.seeds;
            asked = inv.asked;
            near = inv.near;
            later = inv.later;
          })
    ]
