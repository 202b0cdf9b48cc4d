-- A work list that grows one group: what holds at each turn.
use Rattle.std.proofs.Common.{◌≡◌, ℕ, zero, suc, ◌+◌, ◌<◌, ◌≤◌, Bool, false, List, [], ◌∷◌, ◌++◌, length, get_or, IsTrue, refl, sym, ap, subst, ◌∙◌, inl, inr, arith, append_assoc, length-append}
use Rattle.std.specs.List.{sum_by}
use Rattle.std.proofs.lemmas.Bool.{cases_lt}
use Rattle.std.proofs.lemmas.List.Sums.{sum_by-cons, sum_by-append}
use Rattle.plain_dbscan.specs.Chains.{Joined}
use Rattle.plain_dbscan.proofs.Chains.{Member, joined_near, joined_on, joined_back}
use Rattle.plain_dbscan.proofs.Members.{place_of}
use Rattle.plain_dbscan.proofs.Classes.{IsClosed, joined_in}
use Rattle.chain_growth.specs.Hops.{IsHops, IsUnion, AreSeeds, IsLastSeed, IsFarthest, IsGrown}
use Rattle.chain_growth.specs.inside.Lists.{is_in, In, Distinct, missing, flat, with_one, IsLonger}
use Rattle.chain_growth.specs.inside.Work.{reach_in, IsClassOf, AreClasses, IsCut, IsCounted, IsDone, IsNext, IsGroup, Enters, EntersNear}
use Rattle.chain_growth.proofs.Lists.{get_front, in_member, member_in, in_front, in_back, in_cases, out_of, is_out, out_both, out_front, out_back, in_itself, in_one, distinct_append, distinct_back, distinct_push, distinct_places, sum_inside, length_inside, missing_in, missing_out, missing_nil, IsMissing, missing_some, missing_none, flat_push}
use Rattle.chain_growth.proofs.Levels.{AreLevels, levels_start, levels_ask, levels_next, asked_before}
use Rattle.chain_growth.proofs.Steps.{joined_of_reach}
use Rattle.chain_growth.proofs.Grown.{asked_grown}

get_past : (xs ys : List ℕ) (i j : ℕ) → i ≡ length xs + j → get_or (xs ++ ys) i 0 ≡ get_or ys j 0
get_past [] ys i j h = ap (λ (k : ℕ). get_or ys k 0) (omega arith)
get_past (x ∷ xs) ys zero j h = absurd (omega arith)
get_past (x ∷ xs) ys (suc i) j h = get_past xs ys i j (omega arith)

-- counts of grown members
module _ (core : ℕ → Bool) (near : ℕ → ℕ → Bool) (cost : ℕ → ℕ) (former seeds : List ℕ) where
  pub counted_none : (P : ℕ → Type 0) (n : ℕ) → IsCounted core near cost former seeds P n n
  counted_none P n = record { asked = []; distinct = tt; each = λ a m. absurd (cc); count = omega arith }

  pub counted_as : (P Q : ℕ → Type 0) (old new : ℕ) → IsCounted core near cost former seeds P old new → ((x : ℕ) → P x → Q x) → IsCounted core near cost former seeds Q old new
  counted_as P Q old new h as_q = record { asked = h.asked; distinct = h.distinct; each = λ a m. let e = h.each a m in (e.0, as_q a e.1); count = h.count }

  pub counted_more : (P Q : ℕ → Type 0) (old now new a : ℕ) → IsCounted core near cost former seeds P old now → (P a → ⊥) → IsGrown core near (In former) (In seeds) a → Q a → ((x : ℕ) → P x → Q x) → new ≤ now + cost a
      → IsCounted core near cost former seeds Q old new
  counted_more P Q old now new a h fresh grown qa as_q le = record {
    asked = a ∷ h.asked;
    distinct = (is_out _ (λ m. fresh (h.each a m).1), h.distinct);
    each = λ x m. elim (member_in (a ∷ h.asked) x m) [
      | inl e ↦ (subst (λ (z : ℕ). IsGrown core near (In former) (In seeds) z) (sym e) grown, subst Q (sym e) qa)
      | inr k ↦ let e = h.each x (in_member h.asked x k) in (e.0, as_q x e.1)
    ];
    count = omega (arith, h.count, le, sum_by-cons cost a h.asked);
  }

  pub counted_both : (P Q R : ℕ → Type 0) (old now new : ℕ) → IsCounted core near cost former seeds P old now → IsCounted core near cost former seeds Q now new
      → ((x : ℕ) → P x → Q x → ⊥) → ((x : ℕ) → P x → R x) → ((x : ℕ) → Q x → R x) → IsCounted core near cost former seeds R old new
  counted_both P Q R old now new h k apart p_r q_r = record {
    asked = h.asked ++ k.asked;
    distinct = distinct_append h.asked k.asked h.distinct k.distinct (λ a m n. apart a (h.each a m).1 (k.each a n).1);
    each = λ x m. elim (in_cases h.asked k.asked x m) [
      | inl i ↦ let e = h.each x i in (e.0, p_r x e.1)
      | inr i ↦ let e = k.each x i in (e.0, q_r x e.1)
    ];
    count = omega (arith, h.count, k.count, sum_by-append cost h.asked k.asked);
  }

  -- grown ones are members
  pub counted_members : (P : ℕ → Type 0) (old new : ℕ) → IsCounted core near cost former seeds P old new → IsCounted core near cost former seeds (λ a. In former a) old new
  counted_members P old new h = record { asked = h.asked; distinct = h.distinct; each = λ a m. let e = h.each a m in (e.0, e.0.member); count = h.count }

  -- grown members each once cost no more than all of them
  pub bounded : (P : ℕ → Type 0) (old new : ℕ) → IsCounted core near cost former seeds P old new → (all : List ℕ) → ((a : ℕ) → IsGrown core near (In former) (In seeds) a → In all a) → new ≤ old + sum_by cost all
  bounded P old new h all has = omega (arith, h.count, sum_inside cost h.asked all h.distinct (λ a m. has a (h.each a m).0))

-- asked so far: the first j of the group
abbrev pub IsAmong : List ℕ → ℕ → ℕ → Type 0
IsAmong part j a = (k : ℕ) × (k < j) × (get_or part k 0 ≡ a)

module _ (core : ℕ → Bool) (near : ℕ → ℕ → Bool) (cost : ℕ → ℕ) (former seeds done : List ℕ) (s : ℕ) where
  -- The list has what is done and then the group, by levels; the first members of the group are asked and counted, and each is grown.
  pub record IsGrowing (keys : List ℕ) (i old now : ℕ) : Type 0 where
    pub part : List ℕ
    pub is : keys ≡ done ++ part
    pub j : ℕ
    pub at : i ≡ length done + j
    pub n : ℕ
    pub m : ℕ
    pub levels : AreLevels near former s part n m j
    pub here : In part s
    pub distinct : Distinct keys
    pub counted : IsCounted core near cost former seeds (IsAmong part j) old now

module _ (core : ℕ → Bool) (near : ℕ → ℕ → Bool) (alike : (a b : ℕ) → near a b ≡ near b a) (cost : ℕ → ℕ) (former seeds : List ℕ) (union : IsUnion core near (In former)) (are : AreSeeds core near (In former) (In seeds)) (done : List ℕ) (s : ℕ) (next : IsNext core near seeds done s) where
  pub growing_start : (old : ℕ) → Distinct done → IsGrowing core near cost former seeds done s (done ++ s ∷ []) (length done) old old
  growing_start old d = record {
    part = s ∷ [];
    is = refl;
    j = 0;
    at = omega arith;
    n = 0;
    m = 1;
    levels = levels_start near former s (member_in former s (are.members s next.seed));
    here = in_itself s [];
    distinct = distinct_push done s d next.out;
    counted = counted_none core near cost former seeds (IsAmong (s ∷ []) 0) old;
  }

  core_s : IsTrue (core s)
  core_s = union.cores s (are.members s next.seed)

  module _ (keys : List ℕ) (i old now : ℕ) (g : IsGrowing core near cost former seeds done s keys i old now) where
    in_former : (k : ℕ) → k < length g.part → IsTrue (is_in former (get_or g.part k 0))
    in_former k h = in_member former _ (g.levels.known k h)

    pub joined_place : (k : ℕ) → k < length g.part → Joined core near s (get_or g.part k 0)
    joined_place k h = joined_of_reach core near former union (suc g.n) s (get_or g.part k 0) core_s (union.cores _ (in_former k h)) (g.levels.later k h)

    pub joined_part : (x : ℕ) → In g.part x → Joined core near s x
    joined_part x m = let p = place_of g.part x (member_in g.part x m) in subst (λ (z : ℕ). Joined core near s z) p.1.is (joined_place p.0 p.1.below)

    long : length keys ≡ length done + length g.part
    long = ap length g.is ∙ length-append done g.part

    abbrev Turn : Type 0
    Turn = (n : ℕ) × (m : ℕ) × AreLevels near former s g.part n m g.j × (g.j < m)

    turn : i < length keys → Turn
    turn lt = elim (cases_lt g.j g.m) [
      | inl within ↦ (g.n, g.m, g.levels, within)
      | inr over ↦
          let same : g.m ≡ g.j = omega (arith, over, g.levels.asked_few) in
          let lv : AreLevels near former s g.part g.n g.m g.m = subst (λ (k : ℕ). AreLevels near former s g.part g.n g.m k) (sym same) g.levels in
          (suc g.n, length g.part, subst (λ (k : ℕ). AreLevels near former s g.part (suc g.n) (length g.part) k) same (levels_next near former s g.part g.n g.m lv), omega (arith, lt, long, g.at))
    ]

    -- counted all together
    pub counted_now : IsCounted core near cost former seeds (Joined core near s) old now
    counted_now =
        counted_as core near cost former seeds (IsAmong g.part g.j) (Joined core near s) old now g.counted
        (λ x p. subst (λ (z : ℕ). Joined core near s z) p.2 (joined_place p.0 (omega (arith, p.1, g.levels.asked_few, g.levels.few))))

    module _ (lt : i < length keys) where
      here_is : get_or keys i 0 ≡ get_or g.part g.j 0
      here_is = ap (λ (xs : List ℕ). get_or xs i 0) g.is ∙ get_past done g.part i g.j g.at

      j_lt : g.j < length g.part
      j_lt = omega (arith, lt, long, g.at)

      module _ (q : IsMissing seeds keys) where
        absent : is_in (done ++ g.part) q.one ≡ false
        absent = ap (λ (xs : List ℕ). is_in xs q.one) (sym g.is) ∙ q.absent

        -- the one that is asked now is grown, since a seed is missing
        pub grown_now : IsGrown core near (In former) (In seeds) (get_or g.part g.j 0)
        grown_now =
            let t = turn lt in
            let b = asked_before near former s g.part t.0 t.1 g.j t.2 t.3 q.one (member_in former q.one (are.members q.one q.wanted)) (λ m. out_of _ (out_back done g.part q.one absent) (in_member g.part q.one m)) in
            asked_grown core near alike former seeds union are done s (get_or g.part g.j 0) q.one t.0 next (in_former g.j j_lt) b.0 q.wanted (out_front done g.part q.one absent) b.1

        fresh : IsAmong g.part g.j (get_or g.part g.j 0) → ⊥
        fresh p = distinct_places g.part p.0 g.j (distinct_back done g.part (subst Distinct g.is g.distinct)) p.1 j_lt p.2

        -- counted with the one that is asked now
        pub counted_then : (new : ℕ) → new ≤ now + cost (get_or keys i 0) → IsCounted core near cost former seeds (Joined core near s) old new
        counted_then new le =
            counted_more core near cost former seeds (IsAmong g.part g.j) (Joined core near s) old now new (get_or g.part g.j 0) g.counted fresh grown_now (joined_place g.j j_lt)
            (λ x p. subst (λ (z : ℕ). Joined core near s z) p.2 (joined_place p.0 (omega (arith, p.1, g.levels.asked_few, g.levels.few))))
            (subst (λ (z : ℕ). new ≤ now + cost z) here_is le)

        pub growing_ask : (added : List ℕ) (new : ℕ) → ((x : ℕ) → In added x → IsTrue (near (get_or keys i 0) x) × In former x)
            → ((x : ℕ) → In former x → IsTrue (near (get_or keys i 0) x) → In (keys ++ added) x)
            → Distinct (keys ++ added) → new ≤ now + cost (get_or keys i 0) → IsGrowing core near cost former seeds done s (keys ++ added) (i + 1) old new
        growing_ask added new sound complete d le =
            let t = turn lt in
            let a = get_or g.part g.j 0 in
            let near_a : (x : ℕ) → IsTrue (near (get_or keys i 0) x) → IsTrue (near a x) = λ x h. subst (λ (z : ℕ). IsTrue (near z x)) here_is h in
            let more : keys ++ added ≡ done ++ (g.part ++ added) = ap (λ (xs : List ℕ). xs ++ added) g.is ∙ append_assoc done g.part added in
            let front : (k : ℕ) → k < length g.part → get_or (g.part ++ added) k 0 ≡ get_or g.part k 0 = get_front g.part added in
            record {
              part = g.part ++ added;
              is = more;
              j = g.j + 1;
              at = omega (arith, g.at);
              n = t.0;
              m = t.1;
              levels = levels_ask near former s g.part added t.0 t.1 g.j t.2 t.3
                  (λ x m. let h = sound x (in_member added x m) in (member_in former x h.1, near_a x h.0))
                  (λ c mc nc.
                  let core_c = union.cores c (in_member former c mc) in
                  let inside = complete c (in_member former c mc) (subst (λ (z : ℕ). IsTrue (near z c)) (sym here_is) nc) in
                  elim (in_cases done (g.part ++ added) c (subst (λ (xs : List ℕ). In xs c) more inside)) [
                    | inl before ↦
                        let s_c = joined_past c core_c nc in
                        absurd {A = Member c (g.part ++ added)} (out_of _ next.out (next.closed c s before (joined_back core near alike s c s_c)))
                    | inr now_in ↦ member_in (g.part ++ added) c now_in
                  ]);
              here = in_front g.part added s g.here;
              distinct = d;
              counted =
                  counted_more core near cost former seeds (IsAmong g.part g.j) (IsAmong (g.part ++ added) (g.j + 1)) old now new a g.counted fresh grown_now
                  (g.j, omega arith, front g.j j_lt)
                  (λ x p. (p.0, omega (arith, p.1), front p.0 (omega (arith, p.1, g.levels.asked_few, g.levels.few)) ∙ p.2))
                  (subst (λ (z : ℕ). new ≤ now + cost z) here_is le);
            }
          where
            joined_past : (c : ℕ) → IsTrue (core c) → IsTrue (near (get_or g.part g.j 0) c) → Joined core near s c
            joined_past c h n = joined_on core near s (get_or g.part g.j 0) c (joined_place g.j j_lt) (joined_near core near (get_or g.part g.j 0) c (union.cores _ (in_former g.j j_lt)) h n)

    -- all are asked: the group is a class
    pub whole_class : length keys ≤ i → IsClassOf core near s g.part
    whole_class le = record { joined = joined_part; all = λ a j. joined_in core near (λ x. In g.part x) closed s a g.here j }
      where
        closed : IsClosed core near (λ x. In g.part x)
        closed x y m k h =
            let p = place_of g.part x (member_in g.part x m) in
            let x_in = union.whole s x (are.members s next.seed) (joined_part x m) in
            let y_in = union.whole x y x_in (joined_near core near x y (union.cores x x_in) k h) in
            in_member g.part y (g.levels.asked p.0 (omega (arith, p.1.below, le, long, g.at)) y (member_in former y y_in) (subst (λ (z : ℕ). IsTrue (near z y)) (sym p.1.is) h))

    -- no seed is missing: those outside what is done are in this class
    pub rest_joined : missing seeds keys ≡ 0 → (q : ℕ) → In seeds q → is_in done q ≡ false → Joined core near s q
    rest_joined none q m out = elim (in_cases done g.part q (subst (λ (xs : List ℕ). In xs q) g.is (missing_none seeds keys q none m))) [
      | inl before ↦ absurd (out_of _ out before)
      | inr there ↦ joined_part q there
    ]
