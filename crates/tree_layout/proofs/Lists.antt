-- Lists that are changed in place, and facts of each element by its place.
use Rattle.std.proofs.Common.{◌≡◌, ◌≢◌, ◌⊎◌, ℕ, zero, suc, ◌+◌, ◌<◌, ◌≤◌, true, false, List, [], ◌∷◌, ◌++◌, length, map, take, drop, get_or, slice_set, Some, refl, sym, ap, ◌∙◌, inl, inr, ⊎_elim, arith}
use Rattle.std.specs.Prelude.{◌==◌}
use Rattle.std.specs.List.{slice_get, count_by, AllByRecursion, AllZip}
use Rattle.std.proofs.lemmas.Bool.{cases_Bool, eqb-true, eq-eqb, false≢true, or_parts, or_left, or_right}
use Rattle.std.proofs.lemmas.List.Edits.{map_over_more}
use Rattle.std.proofs.lemmas.Option.{get_or_from_slice_get}
use Rattle.node_refs.proofs.Once.{counted_cons, uncounted_cons}
use Rattle.node_places.specs.Slots.{has, AreApart}

-- one more element of a list is done
pub one_more : {A : Type 0} (f : A → A) (now old : List A) (i : ℕ) (x new : A) → i < length old
    → now ≡ map f (take i old) ++ drop i old → slice_get now i ≡ Some x → new ≡ f x
    → slice_set now i new ≡ map f (take (i + 1) old) ++ drop (i + 1) old
one_more f now old i x new inside done get is = ap (slice_set now i) is
    ∙ map_over_more f old now i x inside done (sym (get_or_from_slice_get now i x x get))

-- what holds of the element at each place
pub all_at : (P : ℕ → Type 0) (xs : List ℕ) → ((i : ℕ) → i < length xs → P (get_or xs i 0))
    → AllByRecursion P xs
all_at P [] each = tt
all_at P (x ∷ xs) each =
    (each 0 (omega arith), all_at P xs (λ i lt. each (suc i) (omega (arith, lt))))

pub zip_at : {A B : Type 0} (R : A → B → Type 0) (d : B) (xs : List A) (ys : List B)
    → length xs ≡ length ys → ((i : ℕ) (x : A) → slice_get xs i ≡ Some x → R x (get_or ys i d))
    → AllZip R xs ys
zip_at R d [] [] same each = tt
zip_at R d [] (y ∷ ys) same each = absurd (omega (arith, same))
zip_at R d (x ∷ xs) [] same each = absurd (omega (arith, same))
zip_at R d (x ∷ xs) (y ∷ ys) same each =
    (each 0 x refl, zip_at R d xs ys (omega (arith, same)) (λ i z is. each (suc i) z is))

pub all_both : {A : Type 0} (P : A → Type 0) (xs ys : List A) → AllByRecursion P xs
    → AllByRecursion P ys → AllByRecursion P (xs ++ ys)
all_both P [] ys a b = b
all_both P (x ∷ xs) ys a b = (a.0, all_both P xs ys a.1 b)

-- numbers that stand in a list
pub has_at : (ns : List ℕ) (i : ℕ) → i < length ns → has ns (get_or ns i 0) ≡ true
has_at [] i lt = absurd (omega (arith, lt))
has_at (n ∷ ns) zero lt = or_left (n == n) (has ns n) (eq-eqb n n refl)
has_at (n ∷ ns) (suc i) lt =
    let m = get_or ns i 0 in
    or_right (n == m) (has ns m) (has_at ns i (omega (arith, lt)))

none_counts : (n : ℕ) (ns : List ℕ) → has ns n ≡ false → count_by (λ m. m == n) ns ≡ 0
none_counts n [] away = refl
none_counts n (m ∷ ns) away =
    let parts = or_parts (m == n) (has ns n) away in
    uncounted_cons (λ (k : ℕ). k == n) m ns parts.0 ∙ none_counts n ns parts.1

-- a number other than 0 that doesn't stand in the list behind
pub not_behind : (n : ℕ) (ns : List ℕ) → (n ≡ 0) ⊎ (has ns n ≡ false) → n ≢ 0 → has ns n ≡ false
not_behind n ns apart some = ⊎_elim (λ is. absurd (some is)) (λ away. away) apart

pub apart_once : (ns : List ℕ) → AreApart ns → has ns 0 ≡ false → (n : ℕ)
    → count_by (λ m. m == n) ns ≤ 1
apart_once [] apart some n = omega arith
apart_once (m ∷ ns) apart some n =
    let parts = or_parts (m == 0) (has ns 0) some in
    let other : m ≢ 0 = λ is. false≢true (sym parts.0 ∙ eq-eqb m 0 is) in
    let away = not_behind m ns apart.0 other in
    elim (cases_Bool (m == n)) [
      | inl here ↦
          let none = none_counts n ns (ap (has ns) (sym (eqb-true m n here)) ∙ away) in
          omega (arith, counted_cons (λ (k : ℕ). k == n) m ns here, none)
      | inr later ↦ omega (arith, uncounted_cons (λ (k : ℕ). k == n) m ns later, apart_once ns apart.1 parts.1 n)
    ]

twice : (m : ℕ) (ns : List ℕ) (n j : ℕ) → (m ≡ 0) ⊎ (has ns m ≡ false) → n ≢ 0 → j < length ns
    → m ≡ n → get_or ns j 0 ≡ n → ⊥
twice m ns n j apart some within one two =
    let away = not_behind m ns apart (λ none. some (sym one ∙ none)) in
    false≢true (sym away ∙ ap (has ns) (one ∙ sym two) ∙ has_at ns j within)

-- a number other than 0 has one place
pub same_place : (ns : List ℕ) (n i j : ℕ) → AreApart ns → n ≢ 0 → i < length ns → j < length ns
    → get_or ns i 0 ≡ n → get_or ns j 0 ≡ n → i ≡ j
same_place [] n i j apart some inside within one two = absurd (omega (arith, inside))
same_place (m ∷ ns) n zero zero apart some inside within one two = refl
same_place (m ∷ ns) n zero (suc j) apart some inside within one two =
    absurd (twice m ns n j apart.0 some (omega (arith, within)) one two)
same_place (m ∷ ns) n (suc i) zero apart some inside within one two =
    absurd (twice m ns n i apart.0 some (omega (arith, inside)) two one)
same_place (m ∷ ns) n (suc i) (suc j) apart some inside within one two =
    ap suc (same_place ns n i j apart.1 some (omega (arith, inside)) (omega (arith, within)) one two)
