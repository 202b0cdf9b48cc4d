-- Numbers that come into the list one by one.
use Rattle.std.proofs.Common.{◌≡◌, ℕ, ◌+◌, ◌<◌, Bool, true, false, cond, List, [], ◌∷◌, ◌++◌, length, get_or, IsTrue, refl, sym, ap, subst, ◌∙◌, inl, inr, arith, append_assoc}
use Rattle.std.specs.Prelude.{nat_eq}
use Rattle.std.specs.List.{list_any}
use Rattle.std.proofs.lemmas.Bool.Decides.{nat_tests}
use Rattle.std.proofs.lemmas.Bool.{cases_eq, cases_Bool}
use Rattle.std.proofs.lemmas.List.{append-nil}
use Rattle.plain_dbscan.proofs.Members.{member_at, place_of}
use Rattle.chain_growth.specs.Hops.{IsHops, IsUnion, AreSeeds, IsLastSeed, IsFarthest, IsGrown}
use Rattle.chain_growth.specs.inside.Lists.{is_in, In, Distinct, missing, flat, with_one, IsLonger}
use Rattle.chain_growth.specs.inside.Work.{reach_in, IsClassOf, AreClasses, IsCut, IsCounted, IsDone, IsNext, IsGroup, Enters, EntersNear}
use Rattle.chain_growth.proofs.Lists.{get_front, in_member, member_in, in_front, in_back, in_cases, out_of, is_out, out_both, out_front, out_back, in_itself, in_one, distinct_append, distinct_back, distinct_push, distinct_places, sum_inside, length_inside, missing_in, missing_out, missing_nil, IsMissing, missing_some, missing_none, flat_push}

-- the set's own test of membership
pub any_flip : (b : ℕ) (ks : List ℕ) → list_any (nat_eq b) ks ≡ is_in ks b
any_flip b [] = refl
any_flip b (k ∷ ks) = let e : nat_eq b k ≡ nat_eq k b = elim (cases_eq b k) [ inl same ↦ rw same refl | inr other ↦ grind (arith, nat_tests) ] in rw (e, any_flip b ks) refl

pub one_there : (xs : List ℕ) (x : ℕ) → is_in xs x ≡ true → with_one xs x ≡ xs
one_there xs x h = ap (λ t. cond t xs (xs ++ x ∷ [])) h

pub one_new : (xs : List ℕ) (x : ℕ) → is_in xs x ≡ false → with_one xs x ≡ xs ++ x ∷ []
one_new xs x h = ap (λ t. cond t xs (xs ++ x ∷ [])) h

pub distinct_one : (xs : List ℕ) (x : ℕ) → Distinct xs → Distinct (with_one xs x)
distinct_one xs x d = elim (cases_Bool (is_in xs x)) [
  | inl t ↦ subst Distinct (sym (one_there xs x t)) d
  | inr f ↦ subst Distinct (sym (one_new xs x f)) (distinct_push xs x d f)
]

pub missing_seed : (seeds xs : List ℕ) (x : ℕ) → Distinct seeds → is_in seeds x ≡ true → is_in xs x ≡ false → missing seeds (with_one xs x) + 1 ≡ missing seeds xs
missing_seed seeds xs x d m out = ap (λ (ys : List ℕ). missing seeds ys + 1) (one_new xs x out) ∙ missing_in seeds xs x d m out

pub missing_there : (seeds xs : List ℕ) (x : ℕ) → is_in xs x ≡ true → missing seeds (with_one xs x) ≡ missing seeds xs
missing_there seeds xs x h = ap (missing seeds) (one_there xs x h)

pub missing_other : (seeds xs : List ℕ) (x : ℕ) → is_in seeds x ≡ false → missing seeds (with_one xs x) ≡ missing seeds xs
missing_other seeds xs x out = elim (cases_Bool (is_in xs x)) [
  | inl t ↦ missing_there seeds xs x t
  | inr f ↦ ap (missing seeds) (one_new xs x f) ∙ missing_out seeds xs x out
]

pub with_within : (xs members : List ℕ) (b : ℕ) → ((x : ℕ) → In xs x → In members x) → In members b → (x : ℕ) → In (with_one xs b) x → In members x
with_within xs members b all here x m = elim (cases_Bool (is_in xs b)) [
  | inl t ↦ all x (subst (λ (ys : List ℕ). In ys x) (one_there xs b t) m)
  | inr f ↦ elim (in_cases xs (b ∷ []) x (subst (λ (ys : List ℕ). In ys x) (one_new xs b f) m)) [
    | inl old ↦ all x old
    | inr new ↦ subst (λ (y : ℕ). In members y) (sym (in_one b x new)) here
  ]
]

module _ (former found old : List ℕ) (all : Bool) where
  pub enters_none : Enters former found old old all 0
  enters_none = record { added = []; is = sym (append-nil old); sound = λ x h. absurd (cc); complete = λ t j h. absurd (omega arith) }

  -- the next one is in already where it is a member, or only seeds are taken
  pub enters_same : (new : List ℕ) (j : ℕ) → Enters former found old new all j → (IsTrue all → In former (get_or found j 0) → In new (get_or found j 0)) → Enters former found old new all (j + 1)
  enters_same new j h there = record {
    added = h.added;
    is = h.is;
    sound = h.sound;
    complete = λ t k lt c. elim (cases_eq k j) [
      | inl same ↦ subst (λ (i : ℕ). IsTrue all → In former (get_or found i 0) → In new (get_or found i 0)) (sym same) there t c
      | inr other ↦ h.complete t k (omega arith) c
    ];
  }

  in_with_one : (xs : List ℕ) (x y : ℕ) → In xs y → In (with_one xs x) y
  in_with_one xs x y m = elim (cases_Bool (is_in xs x)) [
    | inl t ↦ subst (λ (ys : List ℕ). In ys y) (sym (one_there xs x t)) m
    | inr f ↦ subst (λ (ys : List ℕ). In ys y) (sym (one_new xs x f)) (in_front xs (x ∷ []) y m)
  ]

  its_in : (xs : List ℕ) (x : ℕ) → In (with_one xs x) x
  its_in xs x = elim (cases_Bool (is_in xs x)) [
    | inl t ↦ subst (λ (ys : List ℕ). In ys x) (sym (one_there xs x t)) t
    | inr f ↦ subst (λ (ys : List ℕ). In ys x) (sym (one_new xs x f)) (in_back xs (x ∷ []) x (in_itself x []))
  ]

  pub enters_more : (new : List ℕ) (j : ℕ) → j < length found → Enters former found old new all j → In former (get_or found j 0) → Enters former found old (with_one new (get_or found j 0)) all (j + 1)
  enters_more new j lt h c =
      let b = get_or found j 0 in
      let complete : IsTrue all → (k : ℕ) → k < j + 1 → In former (get_or found k 0) → IsTrue (is_in (with_one new b) (get_or found k 0)) = λ t k l ck. elim (cases_eq k j) [
        | inl same ↦ subst (λ (i : ℕ). IsTrue (is_in (with_one new b) (get_or found i 0))) (sym same) (its_in new b)
        | inr other ↦ in_with_one new b (get_or found k 0) (h.complete t k (omega arith) ck)
      ] in
      elim (cases_Bool (is_in new b)) [
        | inl t ↦ record { added = h.added; is = one_there new b t ∙ h.is; sound = h.sound; complete = complete }
        | inr f ↦ record {
          added = h.added ++ b ∷ [];
          is = one_new new b f ∙ ap (λ (xs : List ℕ). xs ++ b ∷ []) h.is ∙ append_assoc old h.added (b ∷ []);
          sound = λ x i. elim (in_cases h.added (b ∷ []) x i) [
            | inl before ↦ h.sound x before
            | inr last ↦
                let e : b ≡ x = sym (in_one b x last) in
                (subst (λ (y : ℕ). In found y) e (in_member found b (member_at found j lt)), subst (λ (y : ℕ). In former y) e c)
          ];
          complete = complete;
        }
      ]

-- the seeds first and then all
pub entered_both : (near : ℕ → ℕ → Bool) (former found old mid new : List ℕ) (a n : ℕ) → ((x : ℕ) → In found x → IsTrue (near a x)) → ((x : ℕ) → IsTrue (near a x) → In found x)
    → Enters former found old mid false n → Enters former found mid new true (length found) → EntersNear near former a old new
entered_both near former found old mid new a n is_near all_near h k = record {
  added = h.added ++ k.added;
  is = k.is ∙ ap (λ (xs : List ℕ). xs ++ k.added) h.is ∙ append_assoc old h.added k.added;
  sound = λ x m. elim (in_cases h.added k.added x m) [
    | inl i ↦ let s = h.sound x i in (is_near x s.0, s.1)
    | inr i ↦ let s = k.sound x i in (is_near x s.0, s.1)
  ];
  complete = λ x f m.
      let p = place_of found x (member_in found x (all_near x m)) in
      subst (λ (y : ℕ). In new y) p.1.is (k.complete refl p.0 p.1.below (subst (λ (y : ℕ). In former y) (sym p.1.is) f));
}
