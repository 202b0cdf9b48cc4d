-- Lists of numbers in which no number stands twice.
use Rattle.std.proofs.Common.{◌≡◌, ℕ, zero, suc, ◌+◌, ◌<◌, ◌≤◌, ◌||◌, Bool, true, false, cond, List, [], ◌∷◌, length, refl, sym, ap, ◌∙◌, inl, inr, Some, arith}
use Rattle.std.specs.Prelude.{◌==◌, count_by}
use Rattle.std.specs.List.{list_any}
use Rattle.std.proofs.lemmas.Bool.Decides.{eqb_tells}
use Rattle.std.proofs.lemmas.List.Sums.{sum_by-cons}
use Rattle.label_book.specs.Labels.{IsMember, EachOnce}
use Rattle.label_book.proofs.Views.{same_value, no_value}
use Rattle.label_book.proofs.Sorting.{among}
use Rattle.stored_lines.specs.Lines.{AreOnce}

pub equal : (n : ℕ) → (n == n) ≡ true
equal n = elim (eqb_tells n n) [ inl s ↦ s.0 | inr o ↦ absurd (o.1 refl) ]

pub either_not : (x y : Bool) → (x || y) ≡ false → (x ≡ false) × (y ≡ false)
either_not true y e = absurd (let f : true ≡ false = e in cc)
either_not false y e = (refl, e)

pub counted : (q x : ℕ) (xs : List ℕ) → count_by (λ m. m == q) (x ∷ xs) ≡ cond (x == q) 1 0 + count_by (λ m. m == q) xs
counted q x xs = sum_by-cons (λ m. cond (m == q) 1 0) x xs

pub counted_here : (q x : ℕ) (xs : List ℕ) → (x == q) ≡ true → count_by (λ m. m == q) (x ∷ xs) ≡ 1 + count_by (λ m. m == q) xs
counted_here q x xs is = counted q x xs ∙ rw is refl

pub counted_not : (q x : ℕ) (xs : List ℕ) → (x == q) ≡ false → count_by (λ m. m == q) (x ∷ xs) ≡ count_by (λ m. m == q) xs
counted_not q x xs is = counted q x xs ∙ rw is (omega arith)

-- what isn't counted isn't there
pub uncounted : (q : ℕ) (xs : List ℕ) → count_by (λ m. m == q) xs ≤ 0 → list_any (λ m. m == q) xs ≡ false
uncounted q [] few = refl
uncounted q (x ∷ xs) few =
    elim (eqb_tells x q) [
      | inl s ↦ absurd (omega (arith, counted_here q x xs s.0))
      | inr o ↦ rw o.0 (uncounted q xs (omega (arith, counted_not q x xs o.0)))
    ]

pub once_rest : (x : ℕ) (xs : List ℕ) → AreOnce (x ∷ xs) → AreOnce xs
once_rest x xs once q = omega (arith, once q, counted q x xs)

pub once_first : (x : ℕ) (xs : List ℕ) → AreOnce (x ∷ xs) → list_any (λ m. m == x) xs ≡ false
once_first x xs once = uncounted x xs (omega (arith, once x, counted_here x x xs (equal x)))

-- a list is counted so that each number stands in one place alone
placed_once : (x : ℕ) (xs : List ℕ) → (IsMember xs x → ⊥) → EachOnce xs → EachOnce (x ∷ xs)
placed_once x xs fresh once zero zero core a b = refl
placed_once x xs fresh once zero (suc j) core a b = absurd (fresh (j, b ∙ ap (λ n. Some n) (sym (same_value refl a))))
placed_once x xs fresh once (suc i) zero core a b = absurd (fresh (i, a ∙ ap (λ n. Some n) (sym (same_value refl b))))
placed_once x xs fresh once (suc i) (suc j) core a b = ap suc (once i j core a b)

pub each_once : (xs : List ℕ) → AreOnce xs → EachOnce xs
each_once [] once = λ i j core a b. absurd (no_value refl a)
each_once (x ∷ xs) once =
    placed_once x xs (λ m. let here : list_any (λ y. y == x) xs ≡ true = (among xs x (list_any (λ y. y == x) xs) refl).1 m in let not_here = once_first x xs once in cc)
    (each_once xs (once_rest x xs once))

-- a list that has something isn't empty
pub some_member : (xs : List ℕ) (q : ℕ) → IsMember xs q → 0 < length xs
some_member [] q m = absurd (no_value refl m.1)
some_member (x ∷ xs) q m = omega arith
