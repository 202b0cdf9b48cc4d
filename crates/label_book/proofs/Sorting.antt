-- The new labels by rising number.
use Rattle.std.proofs.Common.{◌≡◌, ◌↔◌, ℕ, zero, suc, Bool, true, false, ◌||◌, IsTrue, List, [], ◌∷◌, ◌++◌, nat_eq, refl, sym, ap, subst, ◌∙◌, None, Some, inl, inr, ◌⊎◌, slice_get}
use Rattle.std.specs.declared.option.Option.{Option}
use Rattle.std.specs.Option.{option_to_list}
use Rattle.std.specs.Cmp.{nat_eq_equiv}
use Rattle.std.specs.List.{list_any}
use Rattle.std.proofs.lemmas.Bool.Decides.{eqb_tells}
use Rattle.std.specs.List.Sorted.{IsPermutation, IsNonDecreasing, IsStrictlyIncreasing}
use Rattle.std.proofs.lemmas.List.{append-nil}
use Rattle.std.proofs.lemmas.List.Sorted.{list_any-IsPermutation}
use Rattle.std.proofs.lemmas.Map.Keys.{IsDistinct-IsPermutation, IsStrictlyIncreasing-from_distinct}
use Rattle.label_book.specs.Labels.{IsMember, EachOnce}
use Rattle.label_book.proofs.Views.{no_value, same_value}
use Rattle.label_book.proofs.Counting.{any_at, at_any, once_distinct}
use Rattle.label_book.proofs.Joined.{pushed, pushed_old, pushed_new}
use Rattle.label_book.proofs.Parted.{once_more}

pub strictly : (xs ys : List ℕ) → IsPermutation xs ys → IsNonDecreasing ys → EachOnce xs → IsStrictlyIncreasing ys
strictly xs ys p up o = IsStrictlyIncreasing-from_distinct ys up (IsDistinct-IsPermutation nat_eq (λ x y. nat_eq_equiv.symm x y) xs ys p (once_distinct xs o))

pub moved_there : (xs ys : List ℕ) → IsPermutation xs ys → (q : ℕ) → IsMember xs q → IsMember ys q
moved_there xs ys p q m = at_any ys q (sym (list_any-IsPermutation (nat_eq q) xs ys p) ∙ any_at xs q m.0 m.1)

pub moved_back : (xs ys : List ℕ) → IsPermutation xs ys → (q : ℕ) → IsMember ys q → IsMember xs q
moved_back xs ys p q m = at_any xs q (list_any-IsPermutation (nat_eq q) xs ys p ∙ any_at ys q m.0 m.1)

-- a list with one item more, where there is one
pub with_rest : (xs : List ℕ) (o : Option ℕ) (q : ℕ) → IsMember (xs ++ option_to_list o) q → IsMember xs q ⊎ (o ≡ Some q)
with_rest xs None q m = inl (subst (λ ys. IsMember ys q) (append-nil xs) m)
with_rest xs (Some x) q m = elim (pushed xs x q m) [ inl f ↦ inl f | inr s ↦ inr (ap (λ n. Some n) (sym s)) ]

pub in_with_rest : (xs : List ℕ) (o : Option ℕ) (q : ℕ) → IsMember xs q ⊎ (o ≡ Some q) → IsMember (xs ++ option_to_list o) q
in_with_rest xs None q a = elim a [ inl m ↦ subst (λ ys. IsMember ys q) (sym (append-nil xs)) m | inr e ↦ absurd (no_value refl e) ]
in_with_rest xs (Some x) q a = elim a [
  | inl m ↦ pushed_old xs x q m
  | inr e ↦ subst (IsMember (xs ++ x ∷ [])) (same_value refl e) (pushed_new xs x)
]

pub rest_once : (xs : List ℕ) (o : Option ℕ) → EachOnce xs → ((l : ℕ) → o ≡ Some l → IsMember xs l → ⊥) → EachOnce (xs ++ option_to_list o)
rest_once xs None once n = subst EachOnce (sym (append-nil xs)) once
rest_once xs (Some x) once n = once_more xs x once (n x refl)

any_there : (xs : List ℕ) (q i : ℕ) → slice_get xs i ≡ Some q → list_any (λ y. nat_eq y q) xs ≡ true
any_there [] q i e = absurd (no_value refl e)
any_there (x ∷ xs) q zero e = elim (eqb_tells x q) [ inl t ↦ ap (λ b. b || list_any (λ y. nat_eq y q) xs) t.0 | inr f ↦ absurd (f.1 (same_value refl e)) ]
any_there (x ∷ xs) q (suc i) e = elim (nat_eq x q) as (λ b. (b || list_any (λ y. nat_eq y q) xs) ≡ true) [ true ↦ refl | false ↦ any_there xs q i e ]

there_any : (xs : List ℕ) (q : ℕ) → list_any (λ y. nat_eq y q) xs ≡ true → IsMember xs q
there_any [] q h = absurd (cc)
there_any (x ∷ xs) q h = elim (eqb_tells x q) [
  | inl t ↦ (0, ap (λ n. Some n) t.1)
  | inr f ↦ let m = there_any xs q (sym (ap (λ b. b || list_any (λ y. nat_eq y q) xs) f.0) ∙ h) in (suc m.0, m.1)
]

-- the test tells whether the core stands in the list
pub among : (xs : List ℕ) (q : ℕ) (b : Bool) → b ≡ list_any (λ y. nat_eq y q) xs → IsTrue b ↔ IsMember xs q
among xs q b is = (λ t. there_any xs q (sym is ∙ t), λ m. is ∙ any_there xs q m.0 m.1)
