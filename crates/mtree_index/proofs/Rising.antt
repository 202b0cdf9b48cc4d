-- A list that doesn't fall and holds no number twice is the one rising list with its members.
use Rattle.std.proofs.Common.{◌≡◌, ℕ, suc, ◌+◌, ◌<◌, ◌≤◌, cond, List, [], ◌∷◌, get_or, count_by, refl, sym, arith, inl, inr}
use Rattle.std.specs.Prelude.{◌==◌}
use Rattle.std.specs.List.Sorted.{IsNonDecreasing}
use Rattle.std.proofs.lemmas.Bool.Decides.{eqb_tells}
use Rattle.std.proofs.lemmas.List.Sums.{sum_by-cons}
use Rattle.plain_dbscan.proofs.Chains.{Member}
use Rattle.plain_dbscan.proofs.Members.{Rises, place_of}

-- how often a number stands in a list
abbrev pub times : ℕ → List ℕ → ℕ
times y xs = count_by (λ x. x == y) xs

times-cons : (y x : ℕ) (xs : List ℕ) → times y (x ∷ xs) ≡ cond (x == y) 1 0 + times y xs
times-cons y x xs = sum_by-cons (λ (z : ℕ). cond (z == y) 1 0) x xs

same : (x y : ℕ) → x ≡ y → ◌≡◌ {A = ℕ} (cond (x == y) 1 0) 1
same x y e = elim (eqb_tells x y) [ inl t ↦ rw t.0 refl | inr f ↦ absurd (f.1 e) ]

pub member_times : (y : ℕ) (xs : List ℕ) → Member y xs → 0 < times y xs
member_times y [] m = absurd m
member_times y (x ∷ xs) (inl e) = omega (arith, times-cons y x xs, same x y (sym e))
member_times y (x ∷ xs) (inr m) = omega (arith, times-cons y x xs, member_times y xs m)

pub times_member : (y : ℕ) (xs : List ℕ) → 0 < times y xs → Member y xs
times_member y [] l = absurd (omega (arith, l))
times_member y (x ∷ xs) l =
    elim (eqb_tells x y) [
      | inl t ↦ inl (sym t.1)
      | inr f ↦ let off : ◌≡◌ {A = ℕ} (cond (x == y) 1 0) 0 = rw f.0 refl in inr (times_member y xs (omega (arith, l, off, times-cons y x xs)))
    ]

tail : (x : ℕ) (xs : List ℕ) → IsNonDecreasing (x ∷ xs) → IsNonDecreasing xs
tail x xs up = λ i j d a l. up (suc i) (suc j) d (omega (arith, a)) (omega (arith, l))

head_least : (x : ℕ) (xs : List ℕ) → IsNonDecreasing (x ∷ xs) → (y : ℕ) → Member y xs → x ≤ y
head_least x xs up y m =
    let p = place_of xs y m in
    let l : x ≤ get_or xs p.0 0 = up 0 (suc p.0) 0 (omega arith) (omega (arith, p.1.below)) in
    omega (arith, l, p.1.is)

less : (x y : ℕ) → x ≤ y → (x ≡ y → ⊥) → x < y
less x y l d = omega arith

pub rises_once : (xs : List ℕ) → IsNonDecreasing xs → ((y : ℕ) → times y xs ≤ 1) → Rises xs
rises_once [] up once = tt
rises_once (x ∷ xs) up once = (
  λ y m. elim (eqb_tells x y) [
    | inl t ↦ absurd (omega (arith, once y, times-cons y x xs, same x y t.1, member_times y xs m))
    | inr f ↦ less x y (head_least x xs up y m) f.1
  ],
  rises_once xs (tail x xs up) (λ y. omega (arith, once y, times-cons y x xs)),
)

-- two rising lists with the same members are equal
pub rising_same : (xs ys : List ℕ) → Rises xs → Rises ys → ((y : ℕ) → Member y xs → Member y ys) → ((y : ℕ) → Member y ys → Member y xs) → xs ≡ ys
rising_same [] [] a b there back = refl
rising_same [] (y ∷ ys) a b there back = absurd (back y (inl refl))
rising_same (x ∷ xs) [] a b there back = absurd (there x (inl refl))
rising_same (x ∷ xs) (y ∷ ys) a b there back =
    let heads : x ≡ y = elim (there x (inl refl)) [
      | inl e ↦ e
      | inr m ↦ elim (back y (inl refl)) [ inl e ↦ sym e | inr k ↦ absurd (omega (arith, b.0 x m, a.0 y k)) ]
    ] in
    let forth : (z : ℕ) → Member z xs → Member z ys = λ z m. elim (there z (inr m)) [ inl e ↦ absurd (omega (arith, a.0 z m, e, heads)) | inr k ↦ k ] in
    let home : (z : ℕ) → Member z ys → Member z xs = λ z m. elim (back z (inr m)) [ inl e ↦ absurd (omega (arith, b.0 z m, e, heads)) | inr k ↦ k ] in
    let tails : xs ≡ ys = rising_same xs ys a.1 b.1 forth home in
    cc
