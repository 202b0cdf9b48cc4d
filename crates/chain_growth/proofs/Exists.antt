-- There is a last class, and a farthest seed in it: so the definition of grown members cuts where there is a seed.
use Rattle.std.proofs.Common.{ℕ, ◌≤◌, Bool, List, [], ◌∷◌, length, IsTrue, refl, sym, subst, inl, inr, ◌⊎◌, arith}
use Rattle.std.proofs.lemmas.Bool.{cases_lt, cases_Bool}
use Rattle.plain_dbscan.specs.Chains.{IsChain, Joined, is_joined}
use Rattle.plain_dbscan.proofs.Chains.{AreCores, chain_start, joined_near, joined_on, joined_itself, joined_from_test, test_from_joined}
use Rattle.chain_growth.specs.Hops.{IsHops, IsUnion, AreSeeds, IsLastSeed, IsFarthest, IsGrown}
use Rattle.chain_growth.specs.inside.Lists.{is_in, In, Distinct, missing, flat, with_one, IsLonger}
use Rattle.chain_growth.specs.inside.Work.{reach_in, IsClassOf, AreClasses, IsCut, IsCounted, IsDone, IsNext, IsGroup, Enters, EntersNear}
use Rattle.chain_growth.proofs.Lists.{get_front, in_member, member_in, in_front, in_back, in_cases, out_of, is_out, out_both, out_front, out_back, in_itself, in_one, distinct_append, distinct_back, distinct_push, distinct_places, sum_inside, length_inside, missing_in, missing_out, missing_nil, IsMissing, missing_some, missing_none, flat_push}
use Rattle.chain_growth.proofs.Steps.{reach_of_chain, hops_of}

module _ (core : ℕ → Bool) (near : ℕ → ℕ → Bool) (former seeds : List ℕ) (union : IsUnion core near (In former)) (are : AreSeeds core near (In former) (In seeds)) where
  members : AreCores (is_in former) former
  members = record { each = λ c m. in_member former c m; all = λ c h. member_in former c h }

  inner : (a : ℕ) (steps : List ℕ) (b : ℕ) → In former a → IsChain core near a steps b → IsChain (is_in former) near a steps b
  inner a [] b f h = (f, h.1)
  inner a (c ∷ rest) b f h = (f, h.1, inner c rest b (union.whole a c f (joined_near core near a c h.0 (chain_start core near c rest b h.2) h.1)) h.2)

  outer : (a : ℕ) (steps : List ℕ) (b : ℕ) → IsChain (is_in former) near a steps b → IsChain core near a steps b
  outer a [] b h = (union.cores a h.0, h.1)
  outer a (c ∷ rest) b h = (union.cores a h.0, h.1, outer c rest b h.2)

  decide : (a b : ℕ) → In former a → Joined core near a b ⊎ (Joined core near a b → ⊥)
  decide a b f = elim (cases_Bool (is_joined (is_in former) near former a b)) [
    | inl t ↦ let j = joined_from_test (is_in former) near former members a b t in inl (record { steps = j.steps; chain = outer a j.steps b j.chain })
    | inr no_way ↦ inr (λ j. out_of _ no_way (test_from_joined (is_in former) near former members a b (record { steps = j.steps; chain = inner a j.steps b f j.chain })))
  ]

  record IsLeast (s r : ℕ) (qs : List ℕ) : Type 0 where
    seed : In seeds r
    joined : Joined core near s r
    least : (q : ℕ) → In qs q → Joined core near s q → r ≤ q

  least_in : (qs : List ℕ) → ((q : ℕ) → In qs q → In seeds q) → (s r : ℕ) → In former s → In seeds r → Joined core near s r → (b : ℕ) × IsLeast s b qs × (b ≤ r)
  least_in [] all s r f m j = (r, record { seed = m; joined = j; least = λ q n. absurd (cc) }, omega arith)
  least_in (q ∷ qs) all s r f m j =
      let later : (x : ℕ) → In qs x → In seeds x = λ x n. all x (in_member (q ∷ qs) x (inr (member_in qs x n))) in
      elim (decide s q f) [
        | inl joined ↦ elim (cases_lt q r) [
          | inl less ↦
              let p = least_in qs later s q f (all q (in_itself q qs)) joined in
              (p.0, with_it s q qs p.0 p.1 (λ k. p.2), omega (arith, p.2))
          | inr more ↦
              let p = least_in qs later s r f m j in
              (p.0, with_it s q qs p.0 p.1 (λ k. omega (arith, p.2)), p.2)
        ]
        | inr apart ↦ let p = least_in qs later s r f m j in (p.0, with_it s q qs p.0 p.1 (λ k. absurd (apart k)), p.2)
      ]
    where
      with_it : (s q : ℕ) (qs : List ℕ) (b : ℕ) → IsLeast s b qs → (Joined core near s q → b ≤ q) → IsLeast s b (q ∷ qs)
      with_it s q qs b h here = record {
        seed = h.seed;
        joined = h.joined;
        least = λ x n k. elim (member_in (q ∷ qs) x n) [
          | inl e ↦ let le : b ≤ q = here (subst (λ (y : ℕ). Joined core near s y) e k) in omega (arith, e)
          | inr n' ↦ h.least x (in_member qs x n') k
        ];
      }

  record IsLate (s : ℕ) (qs : List ℕ) : Type 0 where
    seed : In seeds s
    least : (q : ℕ) → In seeds q → Joined core near s q → s ≤ q
    last : (q : ℕ) → In qs q → (r : ℕ) × In seeds r × Joined core near q r × (r ≤ s)

  last_in : (qs : List ℕ) → ((q : ℕ) → In qs q → In seeds q) → (t : ℕ) → In seeds t → ((q : ℕ) → In seeds q → Joined core near t q → t ≤ q) → (s : ℕ) × IsLate s qs × (t ≤ s)
  last_in [] all t m h = (t, record { seed = m; least = h; last = λ q n. absurd (cc) }, omega arith)
  last_in (q ∷ qs) all t m h =
      let later : (x : ℕ) → In qs x → In seeds x = λ x n. all x (in_member (q ∷ qs) x (inr (member_in qs x n))) in
      let mq = all q (in_itself q qs) in
      let fq = are.members q mq in
      let r = least_in seeds (λ x n. n) q q fq mq (joined_itself core near q (union.cores q fq)) in
      elim (cases_lt t r.0) [
        | inl over ↦
            let p = last_in qs later r.0 r.1.seed (λ x n k. r.1.least x n (joined_on core near q r.0 x r.1.joined k)) in
            (p.0, with_it q qs p.0 p.1 r.0 r.1 p.2, omega (arith, p.2))
        | inr under ↦ let p = last_in qs later t m h in (p.0, with_it q qs p.0 p.1 r.0 r.1 (omega (arith, p.2)), p.2)
      ]
    where
      with_it : (q : ℕ) (qs : List ℕ) (s : ℕ) → IsLate s qs → (r : ℕ) → IsLeast q r seeds → r ≤ s → IsLate s (q ∷ qs)
      with_it q qs s h r l le = record {
        seed = h.seed;
        least = h.least;
        last = λ x n. elim (member_in (q ∷ qs) x n) [
          | inl e ↦ (r, l.seed, subst (λ (y : ℕ). Joined core near y r) (sym e) l.joined, le)
          | inr n' ↦ h.last x (in_member qs x n')
        ];
      }

  -- Where there is a seed there is a last one.
  pub last_seed : (q : ℕ) → In seeds q → (s : ℕ) × IsLastSeed core near (In seeds) s
  last_seed q m =
      let f = are.members q m in
      let r = least_in seeds (λ x n. n) q q f m (joined_itself core near q (union.cores q f)) in
      let p = last_in seeds (λ x n. n) r.0 r.1.seed (λ x n k. r.1.least x n (joined_on core near q r.0 x r.1.joined k)) in
      (p.0, record { seed = p.1.seed; least = p.1.least; last = p.1.last })

  record IsFar (s e : ℕ) (qs : List ℕ) : Type 0 where
    seed : ℕ
    is_seed : In seeds seed
    hops : IsHops core near s seed e
    greatest : (q n : ℕ) → In qs q → IsHops core near s q n → n ≤ e

  far_in : (qs : List ℕ) → ((q : ℕ) → In qs q → In seeds q) → (s t e : ℕ) → In former s → In seeds t → IsHops core near s t e → (d : ℕ) × IsFar s d qs × (e ≤ d)
  far_in [] all s t e f m h = (e, record { seed = t; is_seed = m; hops = h; greatest = λ q n i. absurd (cc) }, omega arith)
  far_in (q ∷ qs) all s t e f m h =
      let later : (x : ℕ) → In qs x → In seeds x = λ x n. all x (in_member (q ∷ qs) x (inr (member_in qs x n))) in
      let mq = all q (in_itself q qs) in
      elim (decide s q f) [
        | inl j ↦
            let k = hops_of core near former union (length j.steps) s q (member_in former s f) (union.cores q (are.members q mq)) (reach_of_chain core near former union s j.steps q (member_in former s f) j.chain) in
            elim (cases_lt e k.0) [
              | inl more ↦ let p = far_in qs later s q k.0 f mq k.1 in (p.0, with_it s q qs p.0 p.1 (λ n i. omega (arith, i.least k.1.steps k.1.chain, k.1.count, p.2)), omega (arith, p.2))
              | inr less ↦ let p = far_in qs later s t e f m h in (p.0, with_it s q qs p.0 p.1 (λ n i. omega (arith, i.least k.1.steps k.1.chain, k.1.count, p.2)), p.2)
            ]
        | inr apart ↦ let p = far_in qs later s t e f m h in (p.0, with_it s q qs p.0 p.1 (λ n i. absurd (apart (record { steps = i.steps; chain = i.chain }))), p.2)
      ]
    where
      with_it : (s q : ℕ) (qs : List ℕ) (d : ℕ) → IsFar s d qs → ((n : ℕ) → IsHops core near s q n → n ≤ d) → IsFar s d (q ∷ qs)
      with_it s q qs d h here = record {
        seed = h.seed;
        is_seed = h.is_seed;
        hops = h.hops;
        greatest = λ x n i k. elim (member_in (q ∷ qs) x i) [
          | inl e ↦ here n (subst (λ (y : ℕ). IsHops core near s y n) e k)
          | inr i' ↦ h.greatest x n (in_member qs x i') k
        ];
      }

  -- And of its class a seed is the farthest.
  pub farthest : (s : ℕ) → In seeds s → (e : ℕ) × IsFarthest core near (In seeds) s e
  farthest s m =
      let f = are.members s m in
      let p = far_in seeds (λ x n. n) s s 0 f m (record { steps = []; chain = (union.cores s f, refl); count = refl; least = λ o h. omega arith }) in
      (p.0, record { seed = p.1.seed; is_seed = p.1.is_seed; hops = p.1.hops; greatest = p.1.greatest })
