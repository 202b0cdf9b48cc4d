-- Numbers by slot of which none but 0 stands twice: no slot is repeated, and the numbers that are used.
use Rattle.std.proofs.Common.{◌≡◌, ◌⊎◌, inl, inr, ⊎_elim, ℕ, ◌+◌, ◌≤◌, Bool, true, false, cond, not, ◌||◌, ◌&&◌, List, [], ◌∷◌, ◌++◌, length, take, get_or, Option, Some, None, refl, sym, ◌∙◌, ap, subst, length-append, append_assoc, arith}
use Rattle.std.specs.Prelude.{◌==◌, count_by}
use Rattle.std.specs.List.{find, range_with_len, AllByRecursion}
use Rattle.std.proofs.lemmas.Bool.{cases_Bool, cases_eq, eqb-true, eq-eqb, ne_eqb, false≢true, or_parts, or_left, or_right}
use Rattle.std.proofs.lemmas.List.{get_or_at, take_at}
use Rattle.std.proofs.lemmas.List.Folds.{list_any-append}
use Rattle.node_places.specs.Slots.{has, AreApart}
use Rattle.stored_lines.specs.Lines.{AreOnce}
use Rattle.stored_lines.proofs.Numbers.{counted_here, counted_not}
use Rattle.store_image.specs.Loading.{is_repeated, first_repeated}

-- the place of the first number that stands in front of it too
abbrev seek : List ℕ → List ℕ → Option ℕ
seek front [] = None
seek front (n ∷ ns) = cond (not (n == 0) && has front n) (Some (length front)) (seek (front ++ n ∷ []) ns)

has_push : (ns : List ℕ) (n m : ℕ) → has (ns ++ n ∷ []) m ≡ (has ns m || (n == m))
has_push ns n m = list_any-append (λ k. k == m) ns (n ∷ []) ∙ ap (λ (b : Bool). has ns m || b) (or_false (n == m))
  where
    or_false : (b : Bool) → (b || false) ≡ b
    or_false true = refl
    or_false false = refl

is_repeated_here : (front : List ℕ) (n : ℕ) (ns : List ℕ) → is_repeated (front ++ n ∷ ns) (length front) ≡ (not (n == 0) && has front n)
is_repeated_here front n ns =
    let at : get_or (front ++ n ∷ ns) (length front) 0 ≡ n = get_or_at front n ns 0 (length front) refl in
    let before : take (length front) (front ++ n ∷ ns) ≡ front = take_at front (n ∷ ns) (length front) refl in
    rw (at, before) refl

found_from : (front ns : List ℕ) → find (is_repeated (front ++ ns)) (range_with_len (length front) (length ns)) ≡ seek front ns
found_from front [] = refl
found_from front (n ∷ ns) =
    let rest : find (is_repeated (front ++ n ∷ ns)) (range_with_len (length front + 1) (length ns)) ≡ seek (front ++ n ∷ []) ns =
    ap (λ (l : List ℕ). find (is_repeated l) (range_with_len (length front + 1) (length ns))) (sym (append_assoc front (n ∷ []) ns))
    ∙ ap (λ (k : ℕ). find (is_repeated ((front ++ n ∷ []) ++ ns)) (range_with_len k (length ns))) (sym (length-append front (n ∷ [])))
    ∙ found_from (front ++ n ∷ []) ns in
    ap (λ (b : Bool). cond b (Some (length front)) (find (is_repeated (front ++ n ∷ ns)) (range_with_len (length front + 1) (length ns)))) (is_repeated_here front n ns)
    ∙ ap (cond (not (n == 0) && has front n) (Some (length front))) rest

-- numbers of a list that don't stand in another
abbrev Without : List ℕ → List ℕ → Type 0
Without front ns = (m : ℕ) → (m ≡ 0 → ⊥) → has ns m ≡ true → has front m ≡ false

either_false : (n : ℕ) (c : Bool) → (n ≡ 0) ⊎ (c ≡ false) → (not (n == 0) && c) ≡ false
either_false n c (inl zero) = let is : (n == 0) ≡ true = eq-eqb n 0 zero in rw is refl
either_false n c (inr away) = rw away (and_false (not (n == 0)))
  where
    and_false : (b : Bool) → (b && false) ≡ false
    and_false true = refl
    and_false false = refl

without_front : (front : List ℕ) (n : ℕ) (ns : List ℕ) → Without front (n ∷ ns) → (n ≡ 0) ⊎ (has front n ≡ false)
without_front front n ns without = elim (cases_eq n 0) [
  | inl zero ↦ inl zero
  | inr some ↦ inr (without n some (or_left (n == n) (has ns n) (eq-eqb n n refl)))
]

without_push : (front : List ℕ) (n : ℕ) (ns : List ℕ) → (n ≡ 0) ⊎ (has ns n ≡ false) → Without front (n ∷ ns) → Without (front ++ n ∷ []) ns
without_push front n ns apart without m some is =
    has_push front n m ∙ ap (λ (b : Bool). b || (n == m)) (without m some (or_right (n == m) (has ns m) is)) ∙ ne_eqb n m (λ same. ⊎_elim (λ zero. some (sym same ∙ zero)) (λ away. false≢true (sym away ∙ ap (has ns) same ∙ is)) apart)

apart_seek : (front ns : List ℕ) → AreApart ns → Without front ns → seek front ns ≡ None
apart_seek front [] apart without = refl
apart_seek front (n ∷ ns) apart without =
    let no_more = either_false n (has front n) (without_front front n ns without) in
    ap (λ (b : Bool). cond b (Some (length front)) (seek (front ++ n ∷ []) ns)) no_more ∙ apart_seek (front ++ n ∷ []) ns apart.1 (without_push front n ns apart.0 without)

-- no slot is repeated
pub none_repeated : (ns : List ℕ) → AreApart ns → first_repeated ns ≡ None
none_repeated ns apart = found_from [] ns ∙ apart_seek [] ns apart (λ m some is. refl)

-- the numbers that are used
abbrev pub used_in : List ℕ → List ℕ
used_in [] = []
used_in (n ∷ ns) = cond (n == 0) (used_in ns) (n ∷ used_in ns)

pub has_used : (ns : List ℕ) (m : ℕ) → (m ≡ 0 → ⊥) → has (used_in ns) m ≡ has ns m
has_used [] m some = refl
has_used (n ∷ ns) m some = elim (cases_Bool (n == 0)) [
  | inl free ↦
      let other : (n == m) ≡ false = ne_eqb n m (λ is. some (sym is ∙ eqb-true n 0 free)) in
      ap (λ (b : Bool). has (cond b (used_in ns) (n ∷ used_in ns)) m) free ∙ has_used ns m some ∙ ap (λ (b : Bool). b || has ns m) (sym other)
  | inr used ↦ ap (λ (b : Bool). has (cond b (used_in ns) (n ∷ used_in ns)) m) used ∙ ap (λ (b : Bool). (n == m) || b) (has_used ns m some)
]

pub none_zero : (ns : List ℕ) → has (used_in ns) 0 ≡ false
none_zero [] = refl
none_zero (n ∷ ns) = elim (cases_Bool (n == 0)) [
  | inl free ↦ ap (λ (b : Bool). has (cond b (used_in ns) (n ∷ used_in ns)) 0) free ∙ none_zero ns
  | inr used ↦ ap (λ (b : Bool). has (cond b (used_in ns) (n ∷ used_in ns)) 0) used ∙ ap (λ (b : Bool). b || has (used_in ns) 0) used ∙ none_zero ns
]

pub each_some : (ns : List ℕ) → AllByRecursion (λ n. 1 ≤ n) (used_in ns)
each_some [] = tt
each_some (n ∷ ns) = elim (cases_Bool (n == 0)) [
  | inl free ↦ subst (λ (b : Bool). AllByRecursion (λ n. 1 ≤ n) (cond b (used_in ns) (n ∷ used_in ns))) (sym free) (each_some ns)
  | inr used ↦
      let some : (n ≡ 0 → ⊥) = λ zero_is. false≢true (sym used ∙ eq-eqb n 0 zero_is) in
      subst (λ (b : Bool). AllByRecursion (λ n. 1 ≤ n) (cond b (used_in ns) (n ∷ used_in ns))) (sym used) (omega (arith, some), each_some ns)
]

uncounted : (q : ℕ) (xs : List ℕ) → has xs q ≡ false → count_by (λ m. m == q) xs ≤ 0
uncounted q [] away = omega arith
uncounted q (x ∷ xs) away =
    let parts = or_parts (x == q) (has xs q) away in
    omega (arith, counted_not q x xs parts.0, uncounted q xs parts.1)

pub used_once : (ns : List ℕ) → AreApart ns → AreOnce (used_in ns)
used_once [] apart = λ q. omega arith
used_once (n ∷ ns) apart = elim (cases_Bool (n == 0)) [
  | inl free ↦ subst (λ (b : Bool). AreOnce (cond b (used_in ns) (n ∷ used_in ns))) (sym free) (used_once ns apart.1)
  | inr used ↦
      let some : (n ≡ 0 → ⊥) = λ zero_is. false≢true (sym used ∙ eq-eqb n 0 zero_is) in
      let away : has (used_in ns) n ≡ false = has_used ns n some ∙ ⊎_elim (λ is. absurd (some is)) (λ none. none) apart.0 in
      let once : AreOnce (n ∷ used_in ns) = λ q. elim (cases_Bool (n == q)) [
        | inl same ↦ omega (arith, counted_here q n (used_in ns) same, uncounted q (used_in ns) (ap (has (used_in ns)) (sym (eqb-true n q same)) ∙ away))
        | inr other ↦ omega (arith, counted_not q n (used_in ns) other, used_once ns apart.1 q)
      ] in
      subst (λ (b : Bool). AreOnce (cond b (used_in ns) (n ∷ used_in ns))) (sym used) once
]
