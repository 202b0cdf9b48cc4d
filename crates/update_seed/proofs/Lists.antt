-- Members of lists of numbers, by place and by recursion.
use Rattle.std.proofs.Common.{◌≡◌, ℕ, zero, suc, ◌+◌, ◌<◌, ◌≤◌, Bool, true, false, cond, List, [], ◌∷◌, ◌++◌, take, length, get_or, filter, IsTrue, refl, sym, ap, subst, ◌∙◌, Some, inl, inr, ◌⊎◌, slice_get, arith}
use Rattle.std.proofs.lemmas.List.{take_more}
use Rattle.std.proofs.lemmas.Option.{slice_get-get_or}
use Rattle.label_book.specs.Labels.{IsMember, EachOnce}
use Rattle.label_book.proofs.Views.{same_value, no_value}
use Rattle.plain_dbscan.proofs.Chains.{Member}
use Rattle.plain_dbscan.proofs.Members.{passes_in, member_filter}

first : (x : ℕ) (xs : List ℕ) (q : ℕ) → ((j : ℕ) → slice_get xs j ≡ Some q → Member q xs) → (i : ℕ) → slice_get (x ∷ xs) i ≡ Some q → Member q (x ∷ xs)
first x xs q rest zero e = inl (sym (same_value refl e))
first x xs q rest (suc i) e = inr (rest i e)

pub at_member : (xs : List ℕ) (q i : ℕ) → slice_get xs i ≡ Some q → Member q xs
at_member [] q i e = absurd (no_value refl e)
at_member (x ∷ xs) q i e = first x xs q (at_member xs q) i e

pub to_member : (xs : List ℕ) (q : ℕ) → IsMember xs q → Member q xs
to_member xs q m = at_member xs q m.0 m.1

pub from_member : (xs : List ℕ) (q : ℕ) → Member q xs → IsMember xs q
from_member [] q m = absurd m
from_member (x ∷ xs) q (inl e) = (0, ap (λ n. Some n) (sym e))
from_member (x ∷ xs) q (inr m) = let r = from_member xs q m in (suc r.0, r.1)

-- the only member of a list of one
pub only : (x q : ℕ) → IsMember (x ∷ []) q → q ≡ x
only x q m = elim (to_member (x ∷ []) q m) [ inl e ↦ e | inr n ↦ absurd n ]

pub the_one : (x : ℕ) → IsMember (x ∷ []) x
the_one x = (0, refl)

pub none : (q : ℕ) → IsMember [] q → ⊥
none q m = no_value refl m.1

-- the members of a list of two
pub of_two : (x y q : ℕ) → IsMember (x ∷ y ∷ []) q → (q ≡ x) ⊎ (q ≡ y)
of_two x y q m = elim (to_member (x ∷ y ∷ []) q m) [ inl e ↦ inl e | inr n ↦ elim n [ inl e ↦ inr e | inr n ↦ absurd n ] ]

pub one_once : (x : ℕ) → EachOnce (x ∷ [])
one_once x zero zero core a b = refl
one_once x zero (suc j) core a b = absurd (no_value refl b)
one_once x (suc i) j core a b = absurd (no_value refl a)

pub two_once : (x y : ℕ) → (x ≡ y → ⊥) → EachOnce (x ∷ y ∷ [])
two_once x y ne zero zero core a b = refl
two_once x y ne zero (suc zero) core a b = absurd (ne (same_value refl a ∙ sym (same_value refl b)))
two_once x y ne zero (suc (suc j)) core a b = absurd (no_value refl b)
two_once x y ne (suc zero) zero core a b = absurd (ne (same_value refl b ∙ sym (same_value refl a)))
two_once x y ne (suc zero) (suc zero) core a b = refl
two_once x y ne (suc zero) (suc (suc j)) core a b = absurd (no_value refl b)
two_once x y ne (suc (suc i)) j core a b = absurd (no_value refl a)

pub no_members : EachOnce []
no_members i j core a b = absurd (no_value refl a)

-- the first ones of a list, and one more
pub next : (xs : List ℕ) (i : ℕ) → i < length xs → take (i + 1) xs ≡ take i xs ++ get_or xs i 0 ∷ []
next xs i h = take_more xs i 0 h

-- a place of the first ones is one of the list, and among the first
pub shorter : (xs : List ℕ) (i k q : ℕ) → slice_get (take i xs) k ≡ Some q → k < i
shorter [] zero k q e = absurd (no_value refl e)
shorter [] (suc i) k q e = absurd (no_value refl e)
shorter (x ∷ xs) zero k q e = absurd (no_value refl e)
shorter (x ∷ xs) (suc i) zero q e = omega arith
shorter (x ∷ xs) (suc i) (suc k) q e = let r = shorter xs i k q e in omega (arith, r)

pub longer : (xs : List ℕ) (i k q : ℕ) → slice_get (take i xs) k ≡ Some q → slice_get xs k ≡ Some q
longer [] zero k q e = e
longer [] (suc i) k q e = e
longer (x ∷ xs) zero k q e = absurd (no_value refl e)
longer (x ∷ xs) (suc i) zero q e = e
longer (x ∷ xs) (suc i) (suc k) q e = longer xs i k q e

pub in_first : (xs : List ℕ) (i q : ℕ) → IsMember (take i xs) q → IsMember xs q
in_first xs i q m = (m.0, longer xs i m.0 q m.1)

pub here_in : (xs : List ℕ) (i : ℕ) → i < length xs → IsMember xs (get_or xs i 0)
here_in xs i h = (i, slice_get-get_or xs i 0 h)

pub any_default : (xs : List ℕ) (i d : ℕ) → i < length xs → get_or xs i d ≡ get_or xs i 0
any_default xs i d h = same_value (slice_get-get_or xs i d h) (slice_get-get_or xs i 0 h)

-- where each is once, the next one is new
pub not_before : (xs : List ℕ) (i : ℕ) → EachOnce xs → i < length xs → IsMember (take i xs) (get_or xs i 0) → ⊥
not_before xs i once h m =
    let same = once m.0 i (get_or xs i 0) (longer xs i m.0 (get_or xs i 0) m.1) (slice_get-get_or xs i 0 h) in
    let less = shorter xs i m.0 (get_or xs i 0) m.1 in
    absurd (omega (arith, same, less))

pub whole : {X : Type 0} (xs : List X) (i : ℕ) → length xs ≤ i → take i xs ≡ xs
whole [] zero h = refl
whole [] (suc i) h = refl
whole (x ∷ xs) zero h = absurd (omega arith)
whole (x ∷ xs) (suc i) h = ap (λ ys. x ∷ ys) (whole xs i (omega arith))

-- each number once, by recursion
abbrev pub Apart : List ℕ → Type 0
Apart [] = Unit {0}
Apart (x ∷ xs) = (Member x xs → ⊥) × Apart xs

pub once_apart : (xs : List ℕ) → EachOnce xs → Apart xs
once_apart [] once = tt
once_apart (x ∷ xs) once = (
  λ m. let at = from_member xs x m in absurd (let e = once 0 (suc at.0) x refl at.1 in omega (arith, e)),
  once_apart xs (λ i j c a b. let e = once (suc i) (suc j) c a b in omega (arith, e)),
)

pub apart_once : (xs : List ℕ) → Apart xs → EachOnce xs
apart_once [] a i j c ei ej = absurd (no_value refl ei)
apart_once (x ∷ xs) a zero zero c ei ej = refl
apart_once (x ∷ xs) a zero (suc j) c ei ej = absurd (a.0 (subst (λ y. Member y xs) (sym (same_value refl ei)) (at_member xs c j ej)))
apart_once (x ∷ xs) a (suc i) zero c ei ej = absurd (a.0 (subst (λ y. Member y xs) (sym (same_value refl ej)) (at_member xs c i ei)))
apart_once (x ∷ xs) a (suc i) (suc j) c ei ej = ap suc (apart_once xs a.1 i j c ei ej)

apart_filter : (p : ℕ → Bool) (xs : List ℕ) → Apart xs → Apart (filter p xs)
apart_filter p [] a = tt
apart_filter p (x ∷ xs) a = elim (p x) as (λ b. Apart (cond b (x ∷ filter p xs) (filter p xs))) [
  | true ↦ ((λ m. a.0 (passes_in p xs x m).member), apart_filter p xs a.1)
  | false ↦ apart_filter p xs a.1
]

pub once_filter : (p : ℕ → Bool) (xs : List ℕ) → EachOnce xs → EachOnce (filter p xs)
once_filter p xs once = apart_once (filter p xs) (apart_filter p xs (once_apart xs once))

-- the members that pass
pub in_filter : (p : ℕ → Bool) (xs : List ℕ) (q : ℕ) → IsMember (filter p xs) q → IsMember xs q × IsTrue (p q)
in_filter p xs q m = let r = passes_in p xs q (to_member (filter p xs) q m) in (from_member xs q r.member, r.passes)

pub to_filter : (p : ℕ → Bool) (xs : List ℕ) (q : ℕ) → IsMember xs q → IsTrue (p q) → IsMember (filter p xs) q
to_filter p xs q m h = from_member (filter p xs) q (member_filter p xs q (to_member xs q m) h)
