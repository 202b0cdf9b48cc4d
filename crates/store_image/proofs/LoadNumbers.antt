-- Lists of numbers in which 0 may stand often and each other number once.
use Rattle.std.proofs.Common.{◌≡◌, ◌⊎◌, inl, inr, ⊎_elim, ℕ, ◌+◌, Bool, true, false, cond, not, ◌||◌, ◌&&◌, List, [], ◌∷◌, ◌++◌, length, take, get_or, Option, Some, None, refl, sym, ◌∙◌, ap, subst, length-append, append_assoc}
use Rattle.std.specs.Prelude.{◌==◌}
use Rattle.std.specs.List.{find, range_with_len}
use Rattle.std.proofs.lemmas.Bool.{cases_Bool, cases_eq, eqb-true, eq-eqb, ne_eqb, false≢true, or_parts, or_left, or_right}
use Rattle.std.proofs.lemmas.List.{get_or_at, take_at, append-nil}
use Rattle.std.proofs.lemmas.List.Folds.{list_any-append}
use Rattle.node_places.specs.Slots.{has, AreApart}
use Rattle.store_image.specs.Loading.{is_repeated, first_repeated}

-- the place of the first number that stands in front of it too
abbrev pub seek : List ℕ → List ℕ → Option ℕ
seek front [] = None
seek front (n ∷ ns) = cond (not (n == 0) && has front n) (Some (length front)) (seek (front ++ n ∷ []) ns)

pub has_push : (ns : List ℕ) (n m : ℕ) → has (ns ++ n ∷ []) m ≡ (has ns m || (n == m))
has_push ns n m = list_any-append (λ k. k == m) ns (n ∷ []) ∙ ap (λ (b : Bool). has ns m || b) (or_false (n == m))
  where
    or_false : (b : Bool) → (b || false) ≡ b
    or_false true = refl
    or_false false = refl

is_repeated_here : (front : List ℕ) (n : ℕ) (ns : List ℕ) → is_repeated (front ++ n ∷ ns) (length front) ≡ (not (n == 0) && has front n)
is_repeated_here front n ns =
    let at : get_or (front ++ n ∷ ns) (length front) 0 ≡ n = get_or_at front n ns 0 (length front) refl in
    let before : take (length front) (front ++ n ∷ ns) ≡ front = take_at front (n ∷ ns) (length front) refl in
    rw (at, before) refl

found_from : (front ns : List ℕ) → find (is_repeated (front ++ ns)) (range_with_len (length front) (length ns)) ≡ seek front ns
found_from front [] = refl
found_from front (n ∷ ns) =
    let rest : find (is_repeated (front ++ n ∷ ns)) (range_with_len (length front + 1) (length ns)) ≡ seek (front ++ n ∷ []) ns =
    ap (λ (l : List ℕ). find (is_repeated l) (range_with_len (length front + 1) (length ns))) (sym (append_assoc front (n ∷ []) ns))
    ∙ ap (λ (k : ℕ). find (is_repeated ((front ++ n ∷ []) ++ ns)) (range_with_len k (length ns))) (sym (length-append front (n ∷ [])))
    ∙ found_from (front ++ n ∷ []) ns in
    ap (λ (b : Bool). cond b (Some (length front)) (find (is_repeated (front ++ n ∷ ns)) (range_with_len (length front + 1) (length ns)))) (is_repeated_here front n ns)
    ∙ ap (cond (not (n == 0) && has front n) (Some (length front))) rest

pub first_is : (ns : List ℕ) → first_repeated ns ≡ seek [] ns
first_is ns = found_from [] ns

-- numbers of a list that don't stand in another
abbrev pub Without : List ℕ → List ℕ → Type 0
Without front ns = (m : ℕ) → (m ≡ 0 → ⊥) → has ns m ≡ true → has front m ≡ false

none_so : {A : Type 0} (b : Bool) (x : A) (next : Option A) → cond b (Some x) next ≡ None → (b ≡ false) × (next ≡ None)
none_so true x next is = absurd (let away : Some x ≡ None = is in cc)
none_so false x next is = (refl, is)

both_false : (b c : Bool) → (not b && c) ≡ false → (b ≡ true) ⊎ (c ≡ false)
both_false true c is = inl refl
both_false false c is = inr is

seek_apart_more : (front : List ℕ) (n : ℕ) (ns : List ℕ) → (n ≡ 0) ⊎ (has front n ≡ false) → AreApart ns → Without (front ++ n ∷ []) ns → AreApart (n ∷ ns) × Without front (n ∷ ns)
seek_apart_more front n ns free apart without = ((mine, apart), theirs)
  where
    other : (m : ℕ) → (m ≡ 0 → ⊥) → has ns m ≡ true → (has front m ≡ false) × ((n == m) ≡ false)
    other m some is = or_parts (has front m) (n == m) (sym (has_push front n m) ∙ without m some is)

    mine : (n ≡ 0) ⊎ (has ns n ≡ false)
    mine = elim (cases_eq n 0) [
      | inl zero ↦ inl zero
      | inr some ↦ elim (cases_Bool (has ns n)) [
        | inl there ↦ absurd (false≢true (sym (other n some there).1 ∙ eq-eqb n n refl))
        | inr away ↦ inr away
      ]
    ]

    theirs : (m : ℕ) → (m ≡ 0 → ⊥) → has (n ∷ ns) m ≡ true → has front m ≡ false
    theirs m some is = elim (cases_eq n m) [
      | inl same ↦ ⊎_elim (λ zero. absurd (some (sym same ∙ zero))) (λ away. subst (λ (k : ℕ). has front k ≡ false) same away) free
      | inr differ ↦ (other m some (ap (λ (b : Bool). b || has ns m) (sym (ne_eqb n m differ)) ∙ is)).0
    ]

pub seek_apart : (front ns : List ℕ) → seek front ns ≡ None → AreApart ns × Without front ns
seek_apart front [] none = (tt, λ m some is. absurd (false≢true is))
seek_apart front (n ∷ ns) none =
    let parts = none_so (not (n == 0) && has front n) (length front) (seek (front ++ n ∷ []) ns) none in
    let rest = seek_apart (front ++ n ∷ []) ns parts.1 in
    let free : (n ≡ 0) ⊎ (has front n ≡ false) = ⊎_elim (λ is. inl (eqb-true n 0 is)) (λ away. inr away) (both_false (n == 0) (has front n) parts.0) in
    seek_apart_more front n ns free rest.0 rest.1

either_false : (n : ℕ) (c : Bool) → (n ≡ 0) ⊎ (c ≡ false) → (not (n == 0) && c) ≡ false
either_false n c (inl zero) = let is : (n == 0) ≡ true = eq-eqb n 0 zero in rw is refl
either_false n c (inr away) = rw away (and_false (not (n == 0)))
  where
    and_false : (b : Bool) → (b && false) ≡ false
    and_false true = refl
    and_false false = refl

without_front : (front : List ℕ) (n : ℕ) (ns : List ℕ) → Without front (n ∷ ns) → (n ≡ 0) ⊎ (has front n ≡ false)
without_front front n ns without = elim (cases_eq n 0) [
  | inl zero ↦ inl zero
  | inr some ↦ inr (without n some (or_left (n == n) (has ns n) (eq-eqb n n refl)))
]

without_push : (front : List ℕ) (n : ℕ) (ns : List ℕ) → (n ≡ 0) ⊎ (has ns n ≡ false) → Without front (n ∷ ns) → Without (front ++ n ∷ []) ns
without_push front n ns apart without m some is =
    has_push front n m ∙ ap (λ (b : Bool). b || (n == m)) (without m some (or_right (n == m) (has ns m) is)) ∙ ne_eqb n m (λ same. ⊎_elim (λ zero. some (sym same ∙ zero)) (λ away. false≢true (sym away ∙ ap (has ns) same ∙ is)) apart)

pub apart_seek : (front ns : List ℕ) → AreApart ns → Without front ns → seek front ns ≡ None
apart_seek front [] apart without = refl
apart_seek front (n ∷ ns) apart without =
    let no = either_false n (has front n) (without_front front n ns without) in
    ap (λ (b : Bool). cond b (Some (length front)) (seek (front ++ n ∷ []) ns)) no ∙ apart_seek (front ++ n ∷ []) ns apart.1 (without_push front n ns apart.0 without)

pub once_apart : (ns : List ℕ) → first_repeated ns ≡ None → AreApart ns
once_apart ns none = (seek_apart [] ns (sym (first_is ns) ∙ none)).0

pub apart_once : (ns : List ℕ) → AreApart ns → first_repeated ns ≡ None
apart_once ns apart = first_is ns ∙ apart_seek [] ns apart (λ m some is. refl)

-- one number more
pub once_push : (ns : List ℕ) (n : ℕ) → first_repeated ns ≡ None → (n ≡ 0) ⊎ (has ns n ≡ false) → first_repeated (ns ++ n ∷ []) ≡ None
once_push ns n none apart = first_is (ns ++ n ∷ []) ∙ seek_push [] ns n (sym (first_is ns) ∙ none) apart
  where
    seek_push : (front ns : List ℕ) (n : ℕ) → seek front ns ≡ None → (n ≡ 0) ⊎ (has (front ++ ns) n ≡ false) → seek front (ns ++ n ∷ []) ≡ None
    seek_push front [] n none apart =
        ap (λ (b : Bool). cond b (Some (length front)) None) (either_false n (has front n) (⊎_elim (λ is. inl is) (λ away. inr (ap (λ (l : List ℕ). has l n) (sym (append-nil front)) ∙ away)) apart))
    seek_push front (k ∷ ns) n none apart =
        let parts = none_so (not (k == 0) && has front k) (length front) (seek (front ++ k ∷ []) ns) none in
        ap (λ (b : Bool). cond b (Some (length front)) (seek (front ++ k ∷ []) (ns ++ n ∷ []))) parts.0
        ∙ seek_push (front ++ k ∷ []) ns n parts.1 (⊎_elim (λ is. inl is) (λ away. inr (ap (λ (l : List ℕ). has l n) (append_assoc front (k ∷ []) ns) ∙ away)) apart)

pub first_found : (ns : List ℕ) (n : ℕ) (rest : List ℕ) → first_repeated ns ≡ None → (n ≡ 0 → ⊥) → has ns n ≡ true → first_repeated (ns ++ n ∷ rest) ≡ Some (length ns)
first_found ns n rest none some there = first_is (ns ++ n ∷ rest) ∙ seek_found [] ns n (sym (first_is ns) ∙ none) there some
  where
    seek_found : (front ns : List ℕ) (n : ℕ) → seek front ns ≡ None → has (front ++ ns) n ≡ true → (n ≡ 0 → ⊥) → seek front (ns ++ n ∷ rest) ≡ Some (length (front ++ ns))
    seek_found front [] n none there some =
        let here : has front n ≡ true = ap (λ (l : List ℕ). has l n) (sym (append-nil front)) ∙ there in
        let used : (n == 0) ≡ false = ne_eqb n 0 some in
        ap (λ (b : Bool). cond (not b && has front n) (Some (length front)) (seek (front ++ n ∷ []) rest)) used
        ∙ ap (λ (b : Bool). cond b (Some (length front)) (seek (front ++ n ∷ []) rest)) here
        ∙ ap (λ (l : List ℕ). Some (length l)) (sym (append-nil front))
    seek_found front (k ∷ ns) n none there some =
        let parts = none_so (not (k == 0) && has front k) (length front) (seek (front ++ k ∷ []) ns) none in
        ap (λ (b : Bool). cond b (Some (length front)) (seek (front ++ k ∷ []) (ns ++ n ∷ rest))) parts.0
        ∙ seek_found (front ++ k ∷ []) ns n parts.1 (ap (λ (l : List ℕ). has l n) (append_assoc front (k ∷ []) ns) ∙ there) some
        ∙ ap (λ (l : List ℕ). Some (length l)) (append_assoc front (k ∷ []) ns)
