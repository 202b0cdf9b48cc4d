-- A list that takes in the cores near each member in turn has them by rising number of steps.
use Rattle.std.proofs.Common.{◌≡◌, ℕ, zero, suc, ◌+◌, ◌<◌, ◌≤◌, Bool, true, false, eqb, List, [], ◌∷◌, ◌++◌, length, get_or, IsTrue, refl, sym, ap, subst, ◌∙◌, inl, inr, ◌⊎◌, arith, length-append}
use Rattle.std.specs.List.{list_any}
use Rattle.std.proofs.lemmas.Bool.Decides.{nat_tests}
use Rattle.std.proofs.lemmas.Bool.{cases_lt}
use Rattle.std.proofs.lemmas.Grind.{common_steps}
use Rattle.plain_dbscan.proofs.Chains.{Member, either, left_or, right_or, both, first_of_both, second_of_both}
use Rattle.plain_dbscan.proofs.Members.{StandsAt, place_of, member_at}
use Rattle.chain_growth.specs.Hops.{IsHops, IsUnion, AreSeeds, IsLastSeed, IsFarthest, IsGrown}
use Rattle.chain_growth.specs.inside.Lists.{is_in, In, Distinct, missing, flat, with_one, IsLonger}
use Rattle.chain_growth.specs.inside.Work.{reach_in, IsClassOf, AreClasses, IsCut, IsCounted, IsDone, IsNext, IsGroup, Enters, EntersNear}
use Rattle.chain_growth.proofs.Lists.{get_front}

-- a member that passes
pub record Passing (p : ℕ → Bool) (xs : List ℕ) : Type 0 where
  pub one : ℕ
  pub member : Member one xs
  pub passes : IsTrue (p one)

pub passing : (p : ℕ → Bool) (xs : List ℕ) → IsTrue (list_any p xs) → Passing p xs
passing p [] h = absurd (cc)
passing p (x ∷ xs) h = elim (either _ _ h) [
  | inl here ↦ record { one = x; member = inl refl; passes = here }
  | inr later ↦ let r = passing p xs later in record { one = r.one; member = inr r.member; passes = r.passes }
]

pub any_passes : (p : ℕ → Bool) (xs : List ℕ) (x : ℕ) → Member x xs → IsTrue (p x) → IsTrue (list_any p xs)
any_passes p [] x m h = absurd m
any_passes p (y ∷ xs) x (inl same) h = left_or _ _ (subst (λ (z : ℕ). IsTrue (p z)) same h)
any_passes p (y ∷ xs) x (inr m) h = right_or _ _ (any_passes p xs x m h)

member_front : (xs ys : List ℕ) (x : ℕ) → Member x xs → Member x (xs ++ ys)
member_front [] ys x m = absurd m
member_front (y ∷ xs) ys x (inl e) = inl e
member_front (y ∷ xs) ys x (inr m) = inr (member_front xs ys x m)

get_back : (xs ys : List ℕ) (k : ℕ) → length xs ≤ k → k < length (xs ++ ys) → Member (get_or (xs ++ ys) k 0) ys
get_back [] ys k l h = member_at ys k h
get_back (x ∷ xs) ys zero l h = absurd (omega arith)
get_back (x ∷ xs) ys (suc k) l h = get_back xs ys k (omega arith) (omega arith)

module _ (near : ℕ → ℕ → Bool) (cores : List ℕ) (s : ℕ) where
  -- The first m of the order are the cores at most n steps from s, and the others are one step further at most.
  -- Of the first i all near cores are in the order.
  pub record AreLevels (order : List ℕ) (n m i : ℕ) : Type 0 where
    pub asked_few : i ≤ m
    pub few : m ≤ length order
    pub known : (k : ℕ) → k < length order → Member (get_or order k 0) cores
    pub first : (k : ℕ) → k < m → IsTrue (reach_in near cores n s (get_or order k 0))
    pub later : (k : ℕ) → k < length order → IsTrue (reach_in near cores (suc n) s (get_or order k 0))
    pub all : (c : ℕ) → Member c cores → IsTrue (reach_in near cores n s c) → (k : ℕ) × (k < m) × (get_or order k 0 ≡ c)
    pub asked : (k : ℕ) → k < i → (c : ℕ) → Member c cores → IsTrue (near (get_or order k 0) c) → Member c order

  pub levels_start : Member s cores → AreLevels (s ∷ []) 0 1 0
  levels_start m = record {
    asked_few = omega arith;
    few = omega arith;
    known = λ k h. subst (λ (j : ℕ). Member (get_or (s ∷ []) j 0) cores) {x = 0} (omega arith) m;
    first = λ k h. subst (λ (j : ℕ). IsTrue (reach_in near cores 0 s (get_or (s ∷ []) j 0))) {x = 0} (omega arith) (grind (arith, nat_tests));
    later = λ k h. subst (λ (j : ℕ). IsTrue (reach_in near cores 1 s (get_or (s ∷ []) j 0))) {x = 0} (omega arith) (left_or (eqb s s) _ (grind (arith, nat_tests)));
    all = λ c m r. (0, omega arith, grind (arith, nat_tests));
    asked = λ k h. absurd (omega arith);
  }

  -- one core more is asked
  pub levels_ask : (order added : List ℕ) (n m i : ℕ) → AreLevels order n m i → i < m → ((x : ℕ) → Member x added → Member x cores × IsTrue (near (get_or order i 0) x)) → ((c : ℕ) → Member c cores → IsTrue (near (get_or order i 0) c) → Member c (order ++ added)) → AreLevels (order ++ added) n m (i + 1)
  levels_ask order added n m i lv lt sound complete = record {
    asked_few = omega arith;
    few = omega (arith, length-append order added, lv.few);
    known = λ k h. elim (cases_lt k (length order)) [
      | inl old ↦ rw (get_front order added k old) (lv.known k old)
      | inr new ↦ (sound _ (get_back order added k new h)).0
    ];
    first = λ k h. rw (get_front order added k (omega (arith, lv.few))) (lv.first k h);
    later = λ k h. elim (cases_lt k (length order)) [
      | inl old ↦ rw (get_front order added k old) (lv.later k old)
      | inr new ↦ right_or _ _ (any_passes _ cores (get_or order i 0) (lv.known i (omega (arith, lv.few))) (both _ _ (lv.first i lt) (sound _ (get_back order added k new h)).1))
    ];
    all = λ c mc r. let p = lv.all c mc r in (p.0, p.1, get_front order added p.0 (omega (arith, lv.few, p.1)) ∙ p.2);
    asked = λ k h c mc nc. elim (cases_lt k i) [
      | inl before ↦
          let same = get_front order added k (omega (arith, lv.few)) in
          member_front order added c (lv.asked k before c mc (subst (λ (x : ℕ). IsTrue (near x c)) same nc))
      | inr here ↦
          let at : k ≡ i = omega arith in
          let same : get_or (order ++ added) k 0 ≡ get_or order i 0 = get_front order added k (omega (arith, lv.few)) ∙ ap (λ (j : ℕ). get_or order j 0) at in
          complete c mc (subst (λ (x : ℕ). IsTrue (near x c)) same nc)
    ];
  }

  -- all of a level were asked: the next one begins
  pub levels_next : (order : List ℕ) (n m : ℕ) → AreLevels order n m m → AreLevels order (suc n) (length order) m
  levels_next order n m lv = record {
    asked_few = lv.few;
    few = omega arith;
    known = lv.known;
    first = lv.later;
    later = λ k h. left_or _ _ (lv.later k h);
    all = λ c mc r. elim (either _ _ r) [
      | inl now ↦ let p = lv.all c mc now in (p.0, omega (arith, lv.few, p.1), p.2)
      | inr by ↦
          let step = passing _ cores by in
          let from = lv.all step.one step.member (first_of_both _ _ step.passes) in
          let found = lv.asked from.0 from.1 c mc (subst (λ (x : ℕ). IsTrue (near x c)) (sym from.2) (second_of_both (reach_in near cores n s step.one) (near step.one c) step.passes)) in
          let at = place_of order c found in
          (at.0, at.1.below, at.1.is)
    ];
    asked = lv.asked;
  }

  -- A core that is asked is fewer steps away than one that isn't in the order.
  pub asked_before : (order : List ℕ) (n m i : ℕ) → AreLevels order n m i → i < m → (q : ℕ) → Member q cores → (Member q order → ⊥) → IsTrue (reach_in near cores n s (get_or order i 0)) × (IsTrue (reach_in near cores n s q) → ⊥)
  asked_before order n m i lv lt q mq out = (lv.first i lt, λ r. let p = lv.all q mq r in out (subst (λ (x : ℕ). Member x order) p.2 (member_at order p.0 (omega (arith, lv.few, p.1)))))
