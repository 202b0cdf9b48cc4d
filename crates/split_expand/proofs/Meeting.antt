-- Near numbers are met one by one: seeds come in, and the others are left for later.
use Rattle.std.proofs.Common.{◌≡◌, ℕ, ◌+◌, ◌<◌, Bool, true, false, List, [], ◌∷◌, ◌++◌, length, get_or, IsTrue, refl, sym, ap, subst, ◌∙◌, inl, inr, arith, append_assoc}
use Rattle.std.proofs.lemmas.Bool.{cases_eq}
use Rattle.plain_dbscan.proofs.Members.{place_of, member_at}
use Rattle.chain_growth.specs.inside.Lists.{is_in, In, with_one}
use Rattle.chain_growth.specs.inside.Work.{Enters, EntersNear}
use Rattle.chain_growth.proofs.Lists.{in_member, member_in, in_front, in_back, in_cases, in_itself, in_one}
use Rattle.chain_growth.proofs.Entering.{enters_none, enters_same, enters_more}
use Rattle.split_expand.specs.declared.growing.Growth.{Growth}
use Rattle.split_expand.specs.inside.Growing.{IsMet, HasMet}
use Rattle.split_expand.proofs.Sets.{one_stays, one_here}

pub met_none : (g a : Growth) → a.order.keys ≡ g.order.keys → a.later.items ≡ [] → HasMet g a 0
met_none g a o l = record {
  entered = subst (λ (ks : List ℕ). Enters g.members g.near g.order.keys ks false 0) (sym o) (enters_none g.members g.near g.order.keys false);
  later = λ x m. let bad : In [] x = subst (λ (xs : List ℕ). In xs x) l m in absurd (cc);
  met = λ j lt. absurd (omega arith);
}

-- one near number more
module _ (g a b : Growth) (i : ℕ) (lt : i < length g.near) (h : HasMet g a i) (ms : a.members ≡ g.members) (ss : a.seeds ≡ g.seeds) where
  abbrev x : ℕ
  x = get_or g.near i 0

  near_x : In g.near x
  near_x = in_member g.near x (member_at g.near i lt)

  came : b.order.keys ≡ with_one a.order.keys x → In a.members x → b.later.items ≡ a.later.items → HasMet g b (i + 1)
  came o m l = record {
    entered = subst (λ (ks : List ℕ). Enters g.members g.near g.order.keys ks false (i + 1)) (sym o)
        (enters_more g.members g.near g.order.keys false a.order.keys i lt h.entered (subst (λ (xs : List ℕ). In xs x) ms m));
    later = λ y n. h.later y (subst (λ (xs : List ℕ). In xs y) l n);
    met = λ j less_j. elim (cases_eq j i) [
      | inl e ↦ inl (subst (λ (k : ℕ). In b.order.keys (get_or g.near k 0)) (sym e) (subst (λ (ks : List ℕ). In ks x) (sym o) (one_here a.order.keys x)))
      | inr ne ↦ elim (h.met j (omega (arith, less_j))) [
        | inl n ↦ inl (subst (λ (ks : List ℕ). In ks (get_or g.near j 0)) (sym o) (one_stays a.order.keys x (get_or g.near j 0) n))
        | inr n ↦ inr (subst (λ (xs : List ℕ). In xs (get_or g.near j 0)) (sym l) n)
      ]
    ];
  }

  left : b.order.keys ≡ a.order.keys → is_in a.seeds.keys x ≡ false → b.later.items ≡ a.later.items ++ x ∷ [] → HasMet g b (i + 1)
  left o out l = record {
    entered = subst (λ (ks : List ℕ). Enters g.members g.near g.order.keys ks false (i + 1)) (sym o)
        (enters_same g.members g.near g.order.keys false a.order.keys i h.entered (λ t _. let bad : false ≡ true = t in absurd (cc)));
    later = λ y n. elim (in_cases a.later.items (x ∷ []) y (subst (λ (xs : List ℕ). In xs y) l n)) [
      | inl before ↦ h.later y before
      | inr last ↦ subst (λ (z : ℕ). In g.near z × (is_in g.seeds.keys z ≡ false)) (sym (in_one x y last)) (near_x, sym (ap (λ s. is_in s.keys x) ss) ∙ out)
    ];
    met = λ j less_j. elim (cases_eq j i) [
      | inl e ↦ inr (subst (λ (k : ℕ). In b.later.items (get_or g.near k 0)) (sym e) (subst (λ (xs : List ℕ). In xs x) (sym l) (in_back a.later.items (x ∷ []) x (in_itself x []))))
      | inr ne ↦ elim (h.met j (omega (arith, less_j))) [
        | inl n ↦ inl (subst (λ (ks : List ℕ). In ks (get_or g.near j 0)) (sym o) n)
        | inr n ↦ inr (subst (λ (xs : List ℕ). In xs (get_or g.near j 0)) (sym l) (in_front a.later.items (x ∷ []) (get_or g.near j 0) n))
      ]
    ];
  }

  pub met_more : IsMet a b x → HasMet g b (i + 1)
  met_more is = elim is [ inl c ↦ came c.0 c.1.0 c.1.1 | inr c ↦ left c.0 c.1.0 c.1.1 ]

-- first the seeds, and then what was left for later
pub met_both : (near : ℕ → ℕ → Bool) (g : Growth) (mid : Growth) (a : ℕ) (new : List ℕ) → ((x : ℕ) → In g.near x → IsTrue (near a x)) → ((x : ℕ) → IsTrue (near a x) → In g.near x)
    → HasMet g mid (length g.near) → Enters g.members mid.later.items mid.order.keys new true (length mid.later.items) → EntersNear near g.members a g.order.keys new
met_both near g mid a new is_near all_near h k = record {
  added = h.entered.added ++ k.added;
  is = k.is ∙ ap (λ (xs : List ℕ). xs ++ k.added) h.entered.is ∙ append_assoc g.order.keys h.entered.added k.added;
  sound = λ x m. elim (in_cases h.entered.added k.added x m) [
    | inl i ↦ let s = h.entered.sound x i in (is_near x s.0, s.1)
    | inr i ↦ let s = k.sound x i in (is_near x (h.later x s.0).0, s.1)
  ];
  complete = λ x f m.
      let p = place_of g.near x (member_in g.near x (all_near x m)) in
      subst (λ (y : ℕ). In new y) p.1.is (elim (h.met p.0 p.1.below) [
        | inl n ↦ subst (λ (ks : List ℕ). In ks (get_or g.near p.0 0)) (sym k.is) (in_front mid.order.keys k.added (get_or g.near p.0 0) n)
        | inr n ↦
            let y = get_or g.near p.0 0 in
            let q = place_of mid.later.items y (member_in mid.later.items y n) in
            subst (λ (z : ℕ). In new z) q.1.is (k.complete refl q.0 q.1.below (subst (λ (z : ℕ). In g.members z) (sym (q.1.is ∙ p.1.is)) f))
      ]);
}
