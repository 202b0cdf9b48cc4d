-- Lists with no number twice: what is in them, their sums, and how many are missing.
use Rattle.std.proofs.Common.{◌≡◌, ℕ, zero, suc, ◌+◌, ◌<◌, ◌≤◌, Bool, true, false, cond, not, List, [], ◌∷◌, ◌++◌, length, get_or, count_by, IsTrue, refl, sym, ap, subst, ◌∙◌, inl, inr, ◌⊎◌, arith, append_assoc}
use Rattle.std.specs.Prelude.{nat_eq}
use Rattle.std.specs.List.{sum_by}
use Rattle.std.proofs.lemmas.Bool.Decides.{nat_tests}
use Rattle.std.proofs.lemmas.Bool.{cases_Bool}
use Rattle.std.proofs.lemmas.List.{append-nil}
use Rattle.std.proofs.lemmas.List.Sums.{sum_by-cons}
use Rattle.plain_dbscan.proofs.Chains.{Member, either, left_or, right_or}
use Rattle.plain_dbscan.proofs.Members.{member_at}
use Rattle.chain_growth.specs.Hops.{IsHops, IsUnion, AreSeeds, IsLastSeed, IsFarthest, IsGrown}
use Rattle.chain_growth.specs.inside.Lists.{is_in, In, Distinct, missing, flat, with_one, IsLonger}
use Rattle.chain_growth.specs.inside.Work.{reach_in, IsClassOf, AreClasses, IsCut, IsCounted, IsDone, IsNext, IsGroup, Enters, EntersNear}

pub in_member : (xs : List ℕ) (x : ℕ) → Member x xs → In xs x
in_member [] x m = absurd m
in_member (y ∷ xs) x (inl e) = left_or (nat_eq y x) _ (grind (arith, nat_tests))
in_member (y ∷ xs) x (inr m) = right_or (nat_eq y x) _ (in_member xs x m)

pub member_in : (xs : List ℕ) (x : ℕ) → In xs x → Member x xs
member_in [] x h = absurd (cc)
member_in (y ∷ xs) x h = elim (either (nat_eq y x) _ h) [ inl e ↦ inl (grind (arith, nat_tests)) | inr m ↦ inr (member_in xs x m) ]

pub in_front : (xs ys : List ℕ) (x : ℕ) → In xs x → In (xs ++ ys) x
in_front [] ys x h = absurd (cc)
in_front (y ∷ xs) ys x h = elim (either (nat_eq y x) _ h) [ inl e ↦ left_or (nat_eq y x) _ e | inr m ↦ right_or (nat_eq y x) _ (in_front xs ys x m) ]

pub in_cases : (xs ys : List ℕ) (x : ℕ) → In (xs ++ ys) x → In xs x ⊎ In ys x
in_cases [] ys x h = inr h
in_cases (y ∷ xs) ys x h = elim (either (nat_eq y x) _ h) [
  | inl e ↦ inl (left_or (nat_eq y x) _ e)
  | inr m ↦ elim (in_cases xs ys x m) [ inl k ↦ inl (right_or (nat_eq y x) _ k) | inr k ↦ inr k ]
]

pub get_front : (xs ys : List ℕ) (k : ℕ) → k < length xs → get_or (xs ++ ys) k 0 ≡ get_or xs k 0
get_front [] ys k h = absurd (omega arith)
get_front (x ∷ xs) ys zero h = refl
get_front (x ∷ xs) ys (suc k) h = get_front xs ys k (omega arith)

pub in_back : (xs ys : List ℕ) (x : ℕ) → In ys x → In (xs ++ ys) x
in_back [] ys x h = h
in_back (y ∷ xs) ys x h = right_or (nat_eq y x) _ (in_back xs ys x h)

-- absence, as a negation and as a test
pub out_of : (b : Bool) → b ≡ false → IsTrue b → ⊥
out_of true h k = absurd (cc)
out_of false h k = absurd (cc)

pub is_out : (b : Bool) → (IsTrue b → ⊥) → b ≡ false
is_out true h = absurd (h refl)
is_out false h = refl

pub out_both : (xs ys : List ℕ) (x : ℕ) → is_in xs x ≡ false → is_in ys x ≡ false → is_in (xs ++ ys) x ≡ false
out_both xs ys x h k = is_out _ (λ i. elim (in_cases xs ys x i) [ inl a ↦ out_of _ h a | inr b ↦ out_of _ k b ])

pub out_front : (xs ys : List ℕ) (x : ℕ) → is_in (xs ++ ys) x ≡ false → is_in xs x ≡ false
out_front xs ys x h = is_out _ (λ i. out_of _ h (in_front xs ys x i))

pub out_back : (xs ys : List ℕ) (x : ℕ) → is_in (xs ++ ys) x ≡ false → is_in ys x ≡ false
out_back xs ys x h = is_out _ (λ i. out_of _ h (in_back xs ys x i))

pub in_itself : (x : ℕ) (xs : List ℕ) → In (x ∷ xs) x
in_itself x xs = in_member (x ∷ xs) x (inl refl)

pub in_one : (x y : ℕ) → In (x ∷ []) y → y ≡ x
in_one x y h = elim (member_in (x ∷ []) y h) [ inl e ↦ e | inr m ↦ absurd m ]

pub distinct_append : (xs ys : List ℕ) → Distinct xs → Distinct ys → ((a : ℕ) → In xs a → In ys a → ⊥) → Distinct (xs ++ ys)
distinct_append [] ys h k apart = k
distinct_append (x ∷ xs) ys h k apart = (out_both xs ys x h.0 (is_out _ (λ i. apart x (in_itself x xs) i)), distinct_append xs ys h.1 k (λ a m n. apart a (right_or (nat_eq x a) _ m) n))

pub distinct_back : (xs ys : List ℕ) → Distinct (xs ++ ys) → Distinct ys
distinct_back [] ys h = h
distinct_back (x ∷ xs) ys h = distinct_back xs ys h.1

pub distinct_front : (xs ys : List ℕ) → Distinct (xs ++ ys) → Distinct xs
distinct_front [] ys h = tt
distinct_front (x ∷ xs) ys h = (out_front xs ys x h.0, distinct_front xs ys h.1)

pub distinct_push : (xs : List ℕ) (c : ℕ) → Distinct xs → is_in xs c ≡ false → Distinct (xs ++ c ∷ [])
distinct_push xs c h out = distinct_append xs (c ∷ []) h (refl, tt) (λ a m n. out_of _ out (subst (λ (z : ℕ). In xs z) (in_one c a n) m))

pub distinct_places : (xs : List ℕ) (k j : ℕ) → Distinct xs → k < j → j < length xs → get_or xs k 0 ≡ get_or xs j 0 → ⊥
distinct_places [] k j d h l e = omega arith
distinct_places (x ∷ xs) k zero d h l e = omega arith
distinct_places (x ∷ xs) zero (suc j) d h l e = out_of _ d.0 (in_member xs x (subst (λ (z : ℕ). Member z xs) (sym e) (member_at xs j (omega arith))))
distinct_places (x ∷ xs) (suc k) (suc j) d h l e = distinct_places xs k j d.1 (omega arith) (omega arith) e

-- a list without the first x
without : ℕ → List ℕ → List ℕ
without x [] = []
without x (y ∷ ys) = cond (nat_eq y x) ys (y ∷ without x ys)

module _ (f : ℕ → ℕ) where
  sum_without : (x : ℕ) (g : List ℕ) → In g x → sum_by f g ≡ f x + sum_by f (without x g)
  unfolding without
  sum_without x [] h = absurd (cc)
  sum_without x (y ∷ ys) h = elim (cases_Bool (nat_eq y x)) [
    | inl same ↦
        let e : y ≡ x = grind (arith, nat_tests) in
        rw same (sum_by-cons f y ys ∙ ap (λ (z : ℕ). f z + sum_by f ys) e)
    | inr other ↦
        let m : In ys x = elim (either (nat_eq y x) _ h) [ inl t ↦ absurd (out_of _ other t) | inr m ↦ m ] in
        rw other (omega (arith, sum_by-cons f y ys, sum_by-cons f y (without x ys), sum_without x ys m))
  ]

in_without : (x y : ℕ) (g : List ℕ) → In g y → (y ≡ x → ⊥) → In (without x g) y
unfolding without
in_without x y [] h apart = absurd (cc)
in_without x y (z ∷ zs) h apart = elim (cases_Bool (nat_eq z x)) [
  | inl same ↦ elim (either (nat_eq z y) _ h) [
    | inl t ↦ let zx : z ≡ x = grind (arith, nat_tests) in let zy : z ≡ y = grind (arith, nat_tests) in absurd (apart (sym zy ∙ zx))
    | inr m ↦ rw same m
  ]
  | inr other ↦ elim (either (nat_eq z y) _ h) [
    | inl t ↦ rw other (left_or (nat_eq z y) _ t)
    | inr m ↦ rw other (right_or (nat_eq z y) _ (in_without x y zs m apart))
  ]
]

-- A list with no number twice sums to no more than one that has all its numbers.
pub sum_inside : (f : ℕ → ℕ) (xs g : List ℕ) → Distinct xs → ((a : ℕ) → In xs a → In g a) → sum_by f xs ≤ sum_by f g
sum_inside f [] g d all = omega arith
sum_inside f (x ∷ xs) g d all =
    let rest = sum_inside f xs (without x g) d.1 (λ a m. in_without x a g (all a (right_or (nat_eq x a) _ m)) (λ e. out_of _ d.0 (subst (λ (z : ℕ). In xs z) e m))) in
    omega (arith, sum_by-cons f x xs, sum_without f x g (all x (in_itself x xs)), rest)

sum_ones : (xs : List ℕ) → sum_by (λ (x : ℕ). 1) xs ≡ length xs
sum_ones [] = refl
sum_ones (x ∷ xs) = omega (arith, sum_by-cons (λ (y : ℕ). 1) x xs, sum_ones xs)

pub length_inside : (xs g : List ℕ) → Distinct xs → ((a : ℕ) → In xs a → In g a) → length xs ≤ length g
length_inside xs g d all = omega (arith, sum_ones xs, sum_ones g, sum_inside (λ (x : ℕ). 1) xs g d all)

-- how many are missing
count_cons : (test : ℕ → Bool) (x : ℕ) (xs : List ℕ) → count_by test (x ∷ xs) ≡ cond (test x) 1 0 + count_by test xs
count_cons test x xs = sum_by-cons (λ y. cond (test y) 1 0) x xs

push_other : (order : List ℕ) (c x : ℕ) → nat_eq x c ≡ false → is_in (order ++ c ∷ []) x ≡ is_in order x
push_other [] c x h = let e : nat_eq c x ≡ false = grind (arith, nat_tests) in rw e refl
push_other (y ∷ order) c x h = rw (push_other order c x h) refl

missing_cons : (x : ℕ) (xs order : List ℕ) → missing (x ∷ xs) order ≡ cond (is_in order x) 0 1 + missing xs order
missing_cons x xs order = count_cons (λ q. not (is_in order q)) x xs ∙ elim (cases_Bool (is_in order x)) [ inl t ↦ rw t refl | inr f ↦ rw f refl ]

pub missing_out : (left order : List ℕ) (c : ℕ) → is_in left c ≡ false → missing left (order ++ c ∷ []) ≡ missing left order
missing_out [] order c out = refl
missing_out (x ∷ xs) order c out =
    let apart : nat_eq x c ≡ false = is_out _ (λ t. out_of _ out (left_or (nat_eq x c) _ t)) in
    let rest = missing_out xs order c (is_out _ (λ t. out_of _ out (right_or (nat_eq x c) _ t))) in
    missing_cons x xs (order ++ c ∷ []) ∙ rw (push_other order c x apart, rest) (sym (missing_cons x xs order))

pub missing_in : (left order : List ℕ) (c : ℕ) → Distinct left → In left c → is_in order c ≡ false → missing left (order ++ c ∷ []) + 1 ≡ missing left order
missing_in [] order c d m out = absurd (cc)
missing_in (x ∷ xs) order c d m out = elim (cases_Bool (nat_eq x c)) [
  | inl same ↦
      let e : x ≡ c = grind (arith, nat_tests) in
      let now : is_in (order ++ c ∷ []) x ≡ true = in_back order (c ∷ []) x (subst (λ (z : ℕ). In (c ∷ []) z) (sym e) (in_itself c [])) in
      let was : is_in order x ≡ false = ap (is_in order) e ∙ out in
      let gone : is_in xs c ≡ false = ap (is_in xs) (sym e) ∙ d.0 in
      let a : missing (x ∷ xs) (order ++ c ∷ []) ≡ missing xs (order ++ c ∷ []) = missing_cons x xs (order ++ c ∷ []) ∙ rw now (omega arith) in
      let b : missing (x ∷ xs) order ≡ 1 + missing xs order = missing_cons x xs order ∙ rw was refl in
      omega (arith, a, b, missing_out xs order c gone)
  | inr other ↦
      let there : In xs c = elim (either (nat_eq x c) _ m) [ inl t ↦ absurd (out_of _ other t) | inr k ↦ k ] in
      let a : missing (x ∷ xs) (order ++ c ∷ []) ≡ cond (is_in order x) 0 1 + missing xs (order ++ c ∷ []) = missing_cons x xs (order ++ c ∷ []) ∙ ap (λ b. cond b 0 1 + missing xs (order ++ c ∷ [])) (push_other order c x other) in
      omega (arith, a, missing_cons x xs order, missing_in xs order c d.1 there out)
]

pub missing_nil : (left : List ℕ) → missing left [] ≡ length left
missing_nil [] = refl
missing_nil (x ∷ xs) = omega (arith, missing_cons x xs [], missing_nil xs)

pub record IsMissing (left order : List ℕ) : Type 0 where
  pub one : ℕ
  pub wanted : In left one
  pub absent : is_in order one ≡ false

pub missing_some : (left order : List ℕ) → 0 < missing left order → IsMissing left order
missing_some [] order h = absurd (omega arith)
missing_some (x ∷ xs) order h = elim (cases_Bool (is_in order x)) [
  | inl t ↦
      let a : missing (x ∷ xs) order ≡ missing xs order = missing_cons x xs order ∙ rw t (omega arith) in
      let r = missing_some xs order (omega (arith, a, h)) in
      record { one = r.one; wanted = right_or (nat_eq x r.one) _ r.wanted; absent = r.absent }
  | inr f ↦ record { one = x; wanted = in_itself x xs; absent = f }
]

pub missing_none : (left order : List ℕ) (q : ℕ) → missing left order ≡ 0 → In left q → In order q
missing_none [] order q none m = absurd (cc)
missing_none (x ∷ xs) order q none m = elim (cases_Bool (is_in order x)) [
  | inl t ↦ elim (either (nat_eq x q) _ m) [
    | inl same ↦ let e : x ≡ q = grind (arith, nat_tests) in subst (λ (z : ℕ). In order z) e t
    | inr later ↦ missing_none xs order q (omega (arith, none, missing_cons x xs order)) later
  ]
  | inr f ↦
      let a : missing (x ∷ xs) order ≡ 1 + missing xs order = missing_cons x xs order ∙ rw f refl in
      absurd (omega (arith, a, none))
]

pub flat_push : (gs : List (List ℕ)) (g : List ℕ) → flat (gs ++ g ∷ []) ≡ flat gs ++ g
flat_push [] g = append-nil g
flat_push (h ∷ gs) g = ap (λ (xs : List ℕ). h ++ xs) (flat_push gs g) ∙ sym (append_assoc h (flat gs) g)
