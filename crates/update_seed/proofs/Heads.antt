-- The least core of each class, found along the rising cores.
use Rattle.std.proofs.Common.{◌≡◌, ℕ, zero, suc, ◌+◌, ◌-◌, ◌<◌, List, [], ◌∷◌, ◌++◌, length, IsSome, refl, sym, ap, subst, ◌∙◌, None, Some, inl, inr, ◌⊎◌, slice_get, slice_index, take, get_or, arith}
use Rattle.std.proofs.lemmas.Bool.{cases_eq}
use Rattle.std.proofs.lemmas.Option.{slice_get_within, slice_get-get_or, get_or_from_slice_get}
use Rattle.std.specs.List.Sorted.{IsStrictlyIncreasing, IsPermutation, IsNonDecreasing}
use Rattle.std.specs.Ordering.{nat_cmp}
use Rattle.std.specs.FinMap as map
use Rattle.label_book.specs.Labels.{Labels, IsMember, EachOnce}
use Rattle.label_book.proofs.Views.{same_value, no_value, known}
use Rattle.label_book.proofs.Added.{here, apart}
use Rattle.label_book.proofs.Joined.{pushed, pushed_old, pushed_new}
use Rattle.label_book.proofs.Sorting.{strictly, moved_there, moved_back}
use Rattle.update_seed.specs.inside.Ties.{Same, IsRising, HaveSame, IsBegun, AreHeads, AreBegun}
use Rattle.update_seed.proofs.Lists.{none, shorter, longer}
use Rattle.update_seed.proofs.Tied.{is_there, not_there, same_itself}

-- where each number is below the next, each is below all later ones
climbs : (xs : List ℕ) → IsStrictlyIncreasing xs → (i n : ℕ) → i + suc n < length xs → slice_index xs i < slice_index xs (i + suc n)
climbs xs up i zero h = let s = up i (omega (arith, h)) in subst (λ k. slice_index xs i < slice_index xs k) (omega arith) s
climbs xs up i (suc n) h =
    let one = climbs xs up i n (omega (arith, h)) in
    let two = up (i + suc n) (omega (arith, h)) in
    let end : i + suc n + 1 ≡ i + suc (suc n) = omega arith in
    let two' = subst (λ k. slice_index xs (i + suc n) < slice_index xs k) end two in
    omega (arith, one, two')

pub rises : (xs : List ℕ) → IsStrictlyIncreasing xs → IsRising xs
rises xs up i j a b lt ea eb =
    let short = slice_get_within xs j b eb in
    let gap : i + suc (j - i - 1) ≡ j = omega (arith, lt) in
    let less = climbs xs up i (j - i - 1) (omega (arith, gap, short)) in
    let less' = subst (λ k. slice_index xs i < slice_index xs k) gap less in
    let sa : get_or xs i 0 ≡ a = get_or_from_slice_get xs i a 0 ea in
    let sb : get_or xs j 0 ≡ b = get_or_from_slice_get xs j b 0 eb in
    omega (arith, less', sa, sb)

pub sorted_rises : (xs ys : List ℕ) → EachOnce xs → IsPermutation xs ys → IsNonDecreasing ys → IsRising ys
sorted_rises xs ys once p up = rises ys (strictly xs ys p up once)

pub sorted_same : (xs ys : List ℕ) → IsPermutation xs ys → HaveSame xs ys
sorted_same xs ys p q = (moved_there xs ys p q, moved_back xs ys p q)

-- a core above all before it
pub above_all : (xs : List ℕ) (i : ℕ) → IsRising xs → i < length xs → (q : ℕ) → IsMember (take i xs) q → q < get_or xs i 0
above_all xs i up h q m = up m.0 i q (get_or xs i 0) (shorter xs i m.0 q m.1) (longer xs i m.0 q m.1) (slice_get-get_or xs i 0 h)

-- places of a list with one more
front : (xs : List ℕ) (y i a : ℕ) → slice_get (xs ++ y ∷ []) i ≡ Some a → (slice_get xs i ≡ Some a) ⊎ ((i ≡ length xs) × (a ≡ y))
front [] y zero a e = inr (refl, sym (same_value refl e))
front [] y (suc i) a e = absurd (no_value refl e)
front (x ∷ xs) y zero a e = inl e
front (x ∷ xs) y (suc i) a e = elim (front xs y i a e) [ inl h ↦ inl h | inr r ↦ inr (omega (arith, r.0), r.1) ]

pub rising_more : (xs : List ℕ) (y : ℕ) → IsRising xs → ((x : ℕ) → IsMember xs x → x < y) → IsRising (xs ++ y ∷ [])
rising_more xs y up all i j a b lt ea eb = elim (front xs y i a ea) [
  | inl fa ↦ elim (front xs y j b eb) [
    | inl fb ↦ up i j a b lt fa fb
    | inr eb' ↦ subst (λ z. a < z) (sym eb'.1) (all a (i, fa))
  ]
  | inr ea' ↦ elim (front xs y j b eb) [
    | inl fb ↦ let short = slice_get_within xs j b fb in absurd (omega (arith, short, ea'.0, lt))
    | inr eb' ↦ absurd (omega (arith, ea'.0, eb'.0, lt))
  ]
]

pub begun_none : (m : Labels) → AreBegun m [] map.empty []
begun_none m = record {
  heads_are = record {
    rising = λ i j a b lt ea eb. absurd (no_value refl ea);
    member = λ h k. absurd (none h k);
    least = λ h n k l s. absurd (none h k);
    every = λ n k. absurd (none n k);
  };
  begun_is = λ k h. absurd (not_there (map.get-empty nat_cmp k) h);
  is_begun = λ h k l e. absurd (none h l);
}

pub begun_start : (m begun : Labels) (heads : List ℕ) → begun ≡ map.empty → heads ≡ [] → AreBegun m [] begun heads
begun_start m begun heads e f = subst (AreBegun m [] begun) (sym f) (subst (λ x. AreBegun m [] x []) (sym e) (begun_none m))

module _ (m : Labels) (done : List ℕ) (begun begun' : Labels) (heads heads' : List ℕ) (core : ℕ) (there : IsSome (map.get m core)) (high : (q : ℕ) → IsMember done q → q < core) (b : AreBegun m done begun heads) where
  abbrev all : List ℕ
  all = done ++ core ∷ []

  -- the class has a head
  has_head : (k : ℕ) → map.get m core ≡ Some k → IsSome (map.get begun k) → AreBegun m all begun heads
  has_head k at h = record {
    heads_are = record {
      rising = b.heads_are.rising;
      member = λ x i. pushed_old done core x (b.heads_are.member x i);
      least = λ x n i j s. elim (pushed done core n j) [
        | inl o ↦ b.heads_are.least x n i o s
        | inr e ↦ let lt = high x (b.heads_are.member x i) in omega (arith, lt, e)
      ];
      every = λ n i. elim (pushed done core n i) [
        | inl o ↦ b.heads_are.every n o
        | inr e ↦ let f = b.begun_is k h in (f.0, (f.1.0, (k, (f.1.1, ap (map.get m) e ∙ at))))
      ];
    };
    begun_is = b.begun_is;
    is_begun = b.is_begun;
  }

  -- the core begins its class
  module _ (k : ℕ) (at : map.get m core ≡ Some k) (off : map.get begun k ≡ None) where
    apart_from : (x : ℕ) → IsMember heads x → Same m x core → ⊥
    apart_from x i s = not_there off (b.is_begun x k i (s.1.0 ∙ ap (λ n. Some n) (same_value s.1.1 at)))

    new_head : AreBegun m all (map.insert begun k core) (heads ++ core ∷ [])
    new_head = record {
      heads_are = record {
        rising = rising_more heads core b.heads_are.rising (λ x i. high x (b.heads_are.member x i));
        member = λ x i. elim (pushed heads core x i) [
          | inl o ↦ pushed_old done core x (b.heads_are.member x o)
          | inr e ↦ subst (IsMember all) (sym e) (pushed_new done core)
        ];
        least = λ x n i j s. elim (pushed heads core x i) [
          | inl o ↦ elim (pushed done core n j) [
            | inl p ↦ b.heads_are.least x n o p s
            | inr e ↦ absurd (apart_from x o (subst (Same m x) e s))
          ]
          | inr e ↦ elim (pushed done core n j) [
            | inl p ↦
                let f = b.heads_are.every n p in
                absurd (apart_from f.0 f.1.0 (subst (Same m f.0) e (joined_up f.0 n x f.1.1 s)))
            | inr p ↦ omega (arith, e, p)
          ]
        ];
        every = λ n i. elim (pushed done core n i) [
          | inl o ↦ let f = b.heads_are.every n o in (f.0, (pushed_old heads core f.0 f.1.0, f.1.1))
          | inr e ↦ (core, (pushed_new heads core, subst (Same m core) (sym e) (same_itself m core there)))
        ];
      };
      begun_is = λ j h. elim (cases_eq j k) [
        | inl e ↦ (core, (pushed_new heads core, at ∙ ap (λ n. Some n) (sym e)))
        | inr ne ↦
            let f = b.begun_is j (subst IsSome (apart begun k core j ne) h) in
            (f.0, (pushed_old heads core f.0 f.1.0, f.1.1))
      ];
      is_begun = λ x j i e. elim (cases_eq j k) [
        | inl s ↦ is_there (ap (map.get (map.insert begun k core)) s ∙ here begun k core)
        | inr ne ↦ elim (pushed heads core x i) [
          | inl o ↦ subst IsSome (sym (apart begun k core j ne)) (b.is_begun x j o e)
          | inr s ↦ absurd (ne (same_value (subst (λ y. map.get m y ≡ Some j) s e) at))
        ]
      ];
    }
      where
        joined_up : (x n y : ℕ) → Same m x n → Same m y n → Same m x y
        joined_up x n y s t = (s.0, (s.1.0, t.1.0 ∙ ap (λ z. Some z) (same_value t.1.1 s.1.1)))

  pub begun_more : IsBegun m core begun heads begun' heads' → AreBegun m all begun' heads'
  begun_more is = elim (known (map.get m core)) [
    | inl off ↦ absurd (not_there off there)
    | inr k ↦ elim (is k.0 k.1) [
      | inl h ↦ subst (λ x. AreBegun m all x heads') (sym h.1.0) (subst (AreBegun m all begun) (sym h.1.1) (has_head k.0 k.1 h.0))
      | inr n ↦ subst (λ x. AreBegun m all x heads') (sym n.1.0) (subst (AreBegun m all (map.insert begun k.0 core)) (sym n.1.1) (new_head k.0 k.1 n.0))
    ]
  ]

-- heads of cores in another order
pub heads_same : (m : Labels) (xs ys heads : List ℕ) → HaveSame xs ys → AreHeads m ys heads → AreHeads m xs heads
heads_same m xs ys heads same h = record {
  rising = h.rising;
  member = λ x i. (same x).1 (h.member x i);
  least = λ x n i j s. h.least x n i ((same n).0 j) s;
  every = λ n i. h.every n ((same n).0 i);
}
