-- Numbers of steps: the test of levels and the least chains agree.
use Rattle.std.proofs.Common.{◌≡◌, ℕ, zero, suc, ◌+◌, ◌≤◌, Bool, List, [], ◌∷◌, ◌++◌, length, IsTrue, refl, subst, inl, inr, arith, length-append}
use Rattle.std.specs.List.{list_any}
use Rattle.std.proofs.lemmas.Bool.Decides.{nat_tests}
use Rattle.std.proofs.lemmas.Bool.{cases_lt, cases_Bool}
use Rattle.plain_dbscan.specs.Chains.{IsChain, Joined}
use Rattle.plain_dbscan.proofs.Chains.{Member, either, left_or, right_or, both, first_of_both, second_of_both, chain_start, chain-append, joined_near}
use Rattle.chain_growth.specs.Hops.{IsHops, IsUnion, AreSeeds, IsLastSeed, IsFarthest, IsGrown}
use Rattle.chain_growth.specs.inside.Lists.{is_in, In, Distinct, missing, flat, with_one, IsLonger}
use Rattle.chain_growth.specs.inside.Work.{reach_in, IsClassOf, AreClasses, IsCut, IsCounted, IsDone, IsNext, IsGroup, Enters, EntersNear}
use Rattle.chain_growth.proofs.Lists.{get_front, in_member, member_in, in_front, in_back, in_cases, out_of, is_out, out_both, out_front, out_back, in_itself, in_one, distinct_append, distinct_back, distinct_push, distinct_places, sum_inside, length_inside, missing_in, missing_out, missing_nil, IsMissing, missing_some, missing_none, flat_push}
use Rattle.chain_growth.proofs.Levels.{passing, any_passes}

at_level : (near : ℕ → ℕ → Bool) (cores : List ℕ) (n m s c : ℕ) → n ≡ m → IsTrue (reach_in near cores n s c) → IsTrue (reach_in near cores m s c)
at_level near cores n m s c same h = subst (λ (k : ℕ). IsTrue (reach_in near cores k s c)) same h

pub reach_le : (near : ℕ → ℕ → Bool) (cores : List ℕ) (n m s c : ℕ) → n ≤ m → IsTrue (reach_in near cores n s c) → IsTrue (reach_in near cores m s c)
reach_le near cores n zero s c le h = at_level near cores n 0 s c (omega arith) h
reach_le near cores n (suc m) s c le h = elim (cases_lt m n) [
  | inl over ↦ at_level near cores n (suc m) s c (omega arith) h
  | inr under ↦ left_or _ _ (reach_le near cores n m s c under h)
]

module _ (core : ℕ → Bool) (near : ℕ → ℕ → Bool) (former : List ℕ) (union : IsUnion core near (In former)) where
  record Within (s c n : ℕ) : Type 0 where
    steps : List ℕ
    chain : IsChain core near s steps c
    few : length steps ≤ n

  -- what passes the test is at the end of a chain as short
  within : (n s c : ℕ) → IsTrue (core s) → IsTrue (core c) → IsTrue (reach_in near former n s c) → Within s c n
  within zero s c h k r = record { steps = []; chain = (h, grind (arith, nat_tests)); few = omega arith }
  within (suc n) s c h k r = elim (either _ _ r) [
    | inl sooner ↦ let w = within n s c h k sooner in record { steps = w.steps; chain = w.chain; few = omega (arith, w.few) }
    | inr by ↦
        let p = passing _ former by in
        let at = union.cores p.one (in_member former p.one p.member) in
        let w = within n s p.one h at (first_of_both _ _ p.passes) in
        record {
          steps = w.steps ++ c ∷ [];
          chain = chain-append core near s w.steps p.one (c ∷ []) c w.chain (at, second_of_both (reach_in near former n s p.one) (near p.one c) p.passes, (k, refl));
          few = omega (arith, w.few, length-append w.steps (c ∷ []));
        }
  ]

  -- and the other way round
  along : (k s x : ℕ) (steps : List ℕ) (b : ℕ) → Member x former → IsTrue (reach_in near former k s x) → IsChain core near x steps b → IsTrue (reach_in near former (length steps + k) s b)
  along k s x [] b m r h = subst (λ (y : ℕ). IsTrue (reach_in near former (0 + k) s y)) h.1 (at_level near former k (0 + k) s x (omega arith) r)
  along k s x (c ∷ steps) b m r h =
      let there = chain_start core near c steps b h.2 in
      let mc = member_in former c (union.whole x c (in_member former x m) (joined_near core near x c h.0 there h.1)) in
      let rc : IsTrue (reach_in near former (suc k) s c) = right_or _ _ (any_passes _ former x m (both _ _ r h.1)) in
      at_level near former (length steps + suc k) (length (c ∷ steps) + k) s b (omega arith) (along (suc k) s c steps b mc rc h.2)

  pub reach_of_chain : (s : ℕ) (steps : List ℕ) (b : ℕ) → Member s former → IsChain core near s steps b → IsTrue (reach_in near former (length steps) s b)
  reach_of_chain s steps b m h = at_level near former (length steps + 0) (length steps) s b (omega arith) (along 0 s s steps b m (grind (arith, nat_tests)) h)

  pub reach_of_hops : (s b n : ℕ) → Member s former → IsHops core near s b n → IsTrue (reach_in near former n s b)
  reach_of_hops s b n m h = at_level near former (length h.steps) n s b h.count (reach_of_chain s h.steps b m h.chain)

  pub joined_of_reach : (n s c : ℕ) → IsTrue (core s) → IsTrue (core c) → IsTrue (reach_in near former n s c) → Joined core near s c
  joined_of_reach n s c h k r = let w = within n s c h k r in record { steps = w.steps; chain = w.chain }

  -- what is reached within n steps has a number of hops, n or less
  pub hops_of : (n s c : ℕ) → Member s former → IsTrue (core c) → IsTrue (reach_in near former n s c) → (m : ℕ) × IsHops core near s c m × (m ≤ n)
  hops_of zero s c ms k r =
      let w = within zero s c (union.cores s (in_member former s ms)) k r in
      (0, record { steps = w.steps; chain = w.chain; count = omega (arith, w.few); least = λ o h. omega arith }, omega arith)
  hops_of (suc n) s c ms k r = elim (cases_Bool (reach_in near former n s c)) [
    | inl sooner ↦ let p = hops_of n s c ms k sooner in (p.0, p.1, omega (arith, p.2))
    | inr not_yet ↦
        let w = within (suc n) s c (union.cores s (in_member former s ms)) k r in
        let none : (o : List ℕ) → IsChain core near s o c → suc n ≤ length o = λ o h. elim (cases_lt n (length o)) [
          | inl over ↦ omega arith
          | inr under ↦ let r' = reach_le near former (length o) n s c under (reach_of_chain s o c ms h) in absurd (cc)
        ] in
        (suc n, record { steps = w.steps; chain = w.chain; count = omega (arith, w.few, none w.steps w.chain); least = none }, omega arith)
  ]
