-- The cores that the work list asks are members of Grown.
use Rattle.std.proofs.Common.{◌≡◌, ℕ, ◌<◌, Bool, false, List, length, IsTrue, sym, subst, inl, inr, arith}
use Rattle.std.proofs.lemmas.Bool.{cases_lt}
use Rattle.plain_dbscan.specs.Chains.{Joined}
use Rattle.plain_dbscan.proofs.Chains.{joined_on, joined_back}
use Rattle.chain_growth.specs.Hops.{IsHops, IsUnion, AreSeeds, IsLastSeed, IsFarthest, IsGrown}
use Rattle.chain_growth.specs.inside.Lists.{is_in, In, Distinct, missing, flat, with_one, IsLonger}
use Rattle.chain_growth.specs.inside.Work.{reach_in, IsClassOf, AreClasses, IsCut, IsCounted, IsDone, IsNext, IsGroup, Enters, EntersNear}
use Rattle.chain_growth.proofs.Lists.{get_front, in_member, member_in, in_front, in_back, in_cases, out_of, is_out, out_both, out_front, out_back, in_itself, in_one, distinct_append, distinct_back, distinct_push, distinct_places, sum_inside, length_inside, missing_in, missing_out, missing_nil, IsMissing, missing_some, missing_none, flat_push}
use Rattle.chain_growth.proofs.Steps.{reach_le, reach_of_chain, reach_of_hops, joined_of_reach, hops_of}

module _ (core : ℕ → Bool) (near : ℕ → ℕ → Bool) (alike : (a b : ℕ) → near a b ≡ near b a) (former seeds : List ℕ) (union : IsUnion core near (In former)) (are : AreSeeds core near (In former) (In seeds)) where
  still_out : (done : List ℕ) → IsDone core near done → (a b : ℕ) → is_in done a ≡ false → Joined core near a b → is_in done b ≡ false
  still_out done closed a b out j = is_out _ (λ m. out_of _ out (closed b a m (joined_back core near alike a b j)))

  -- A core n steps from the next seed is grown, where a seed outside what is done is further.
  pub asked_grown : (done : List ℕ) (s a q n : ℕ) → IsNext core near seeds done s → In former a → IsTrue (reach_in near former n s a)
      → In seeds q → is_in done q ≡ false → (IsTrue (reach_in near former n s q) → ⊥) → IsGrown core near (In former) (In seeds) a
  asked_grown done s a q n next ma r mq out_q further = record {
    member = ma;
    fewer = λ t e last far j.
        let core_s = union.cores s (are.members s next.seed) in
        let fs = member_in former s (are.members s next.seed) in
        let sa = joined_of_reach core near former union n s a core_s (union.cores a ma) r in
        let ts = joined_on core near t a s j (joined_back core near alike s a sa) in
        let same : t ≡ s = omega (arith, last.least s next.seed ts, next.least t last.seed (still_out done next.closed s t next.out (joined_back core near alike t s ts))) in
        let p = last.last q mq in
        let same_p : p.0 ≡ s = omega (arith, p.3, next.least p.0 p.1 (still_out done next.closed q p.0 out_q p.2)) in
        let qs : Joined core near q s = subst (λ (x : ℕ). Joined core near q x) same_p p.2 in
        let sq = joined_back core near alike q s qs in
        let hq = hops_of core near former union (length sq.steps) s q fs (union.cores q (are.members q mq)) (reach_of_chain core near former union s sq.steps q fs sq.chain) in
        let ha = hops_of core near former union n s a fs (union.cores a ma) r in
        let beyond : n < hq.0 = elim (cases_lt n hq.0) [ inl over ↦ over | inr under ↦ absurd {A = n < hq.0} (further (reach_le near former hq.0 n s q under (reach_of_hops core near former union s q hq.0 fs hq.1))) ] in
        let hq' : IsHops core near t q hq.0 = subst (λ (x : ℕ). IsHops core near x q hq.0) (sym same) hq.1 in
        let ha' : IsHops core near t a ha.0 = subst (λ (x : ℕ). IsHops core near x a ha.0) (sym same) ha.1 in
        (ha.0, ha', omega (arith, ha.2, beyond, far.greatest q hq.0 mq hq'));
  }
