-- Numbers by slot, each but 0 once, and the lines and records that slots say.
use Rattle.std.proofs.Common.{◌≡◌, ◌⊎◌, inl, inr, ⊎_elim, ℕ, ◌+◌, Bool, true, false, cond, not, ◌||◌, ◌&&◌, List, [], ◌∷◌, ◌++◌, length, map, take, get_or, Option, Some, None, refl, sym, ◌∙◌, ap, subst, arith, length-append, append_assoc}
use Rattle.std.specs.Prelude.{◌==◌, is_some, count_by}
use Rattle.std.specs.List.{list_any, find, range_with_len, flat_map, AllByRecursion}
use Rattle.std.specs.Ordering.{nat_cmp, eq_by_cmp}
use Rattle.std.specs.FinMap.Entries.{find as value_at}
use Rattle.std.proofs.lemmas.Bool.{cases_Bool, cases_eq, cases_order, eqb-true, eq-eqb, ne_eqb, lt-ltb, le-ltb, false≢true, or_parts}
use Rattle.std.proofs.lemmas.List.{get_or_at, take_at}
use Rattle.std.proofs.lemmas.List.Folds.{list_any-append}
use Rattle.page_layout.specs.declared.slot.Slot.{Slot}
use Rattle.page_layout.specs.Slots.{Rows}
use Rattle.stored_lines.specs.declared.line.Line.{Line}
use Rattle.stored_lines.specs.Lines.{IsLine, AreLines, AreOnce, line_with, number_of as line_number}
use Rattle.stored_lines.proofs.Numbers.{counted_here, counted_not}
use Rattle.store_image.specs.Images.{number_of, entry_of, lines_of}
use Rattle.store_image.specs.Loading.{is_repeated, first_repeated}

-- whether a number stands in a list
abbrev pub has : List ℕ → ℕ → Bool
has ns m = list_any (λ n. n == m) ns

-- no number but 0 stands twice
abbrev pub Apart : List ℕ → Type 0
Apart [] = Unit {0}
Apart (n ∷ ns) = ((n ≡ 0) ⊎ (has ns n ≡ false)) × Apart ns

-- the place of the first number that stands in front of it too
abbrev seek : List ℕ → List ℕ → Option ℕ
seek front [] = None
seek front (n ∷ ns) = cond (not (n == 0) && has front n) (Some (length front)) (seek (front ++ n ∷ []) ns)

has_push : (ns : List ℕ) (n m : ℕ) → has (ns ++ n ∷ []) m ≡ (has ns m || (n == m))
has_push ns n m = list_any-append (λ k. k == m) ns (n ∷ []) ∙ ap (λ (b : Bool). has ns m || b) (or_false (n == m))
  where
    or_false : (b : Bool) → (b || false) ≡ b
    or_false true = refl
    or_false false = refl

is_repeated_here : (front : List ℕ) (n : ℕ) (ns : List ℕ) → is_repeated (front ++ n ∷ ns) (length front) ≡ (not (n == 0) && has front n)
is_repeated_here front n ns =
    let at : get_or (front ++ n ∷ ns) (length front) 0 ≡ n = get_or_at front n ns 0 (length front) refl in
    let before : take (length front) (front ++ n ∷ ns) ≡ front = take_at front (n ∷ ns) (length front) refl in
    rw (at, before) refl

found_from : (front ns : List ℕ) → find (is_repeated (front ++ ns)) (range_with_len (length front) (length ns)) ≡ seek front ns
found_from front [] = refl
found_from front (n ∷ ns) =
    let rest : find (is_repeated (front ++ n ∷ ns)) (range_with_len (length front + 1) (length ns)) ≡ seek (front ++ n ∷ []) ns =
    ap (λ (l : List ℕ). find (is_repeated l) (range_with_len (length front + 1) (length ns))) (sym (append_assoc front (n ∷ []) ns))
    ∙ ap (λ (k : ℕ). find (is_repeated ((front ++ n ∷ []) ++ ns)) (range_with_len k (length ns))) (sym (length-append front (n ∷ [])))
    ∙ found_from (front ++ n ∷ []) ns in
    ap (λ (b : Bool). cond b (Some (length front)) (find (is_repeated (front ++ n ∷ ns)) (range_with_len (length front + 1) (length ns)))) (is_repeated_here front n ns)
    ∙ ap (cond (not (n == 0) && has front n) (Some (length front))) rest

-- numbers of a list that don't stand in another
abbrev Without : List ℕ → List ℕ → Type 0
Without front ns = (m : ℕ) → (m ≡ 0 → ⊥) → has ns m ≡ true → has front m ≡ false

none_so : {A : Type 0} (b : Bool) (x : A) (next : Option A) → cond b (Some x) next ≡ None → (b ≡ false) × (next ≡ None)
none_so true x next is = absurd (let away : Some x ≡ None = is in cc)
none_so false x next is = (refl, is)

both_false : (b c : Bool) → (not b && c) ≡ false → (b ≡ true) ⊎ (c ≡ false)
both_false true c is = inl refl
both_false false c is = inr is

seek_apart_more : (front : List ℕ) (n : ℕ) (ns : List ℕ) → (n ≡ 0) ⊎ (has front n ≡ false) → Apart ns → Without (front ++ n ∷ []) ns → Apart (n ∷ ns) × Without front (n ∷ ns)
seek_apart_more front n ns free apart without = ((mine, apart), theirs)
  where
    other : (m : ℕ) → (m ≡ 0 → ⊥) → has ns m ≡ true → (has front m ≡ false) × ((n == m) ≡ false)
    other m some is = or_parts (has front m) (n == m) (sym (has_push front n m) ∙ without m some is)

    mine : (n ≡ 0) ⊎ (has ns n ≡ false)
    mine = elim (cases_eq n 0) [
      | inl zero ↦ inl zero
      | inr some ↦ elim (cases_Bool (has ns n)) [
        | inl there ↦ absurd (false≢true (sym (other n some there).1 ∙ eq-eqb n n refl))
        | inr away ↦ inr away
      ]
    ]

    theirs : (m : ℕ) → (m ≡ 0 → ⊥) → has (n ∷ ns) m ≡ true → has front m ≡ false
    theirs m some is = elim (cases_eq n m) [
      | inl same_number ↦ ⊎_elim (λ zero. absurd (some (sym same_number ∙ zero))) (λ away. subst (λ (k : ℕ). has front k ≡ false) same_number away) free
      | inr differ ↦ (other m some (ap (λ (b : Bool). b || has ns m) (sym (ne_eqb n m differ)) ∙ is)).0
    ]

seek_apart : (front ns : List ℕ) → seek front ns ≡ None → Apart ns × Without front ns
seek_apart front [] none = (tt, λ m some is. absurd (false≢true is))
seek_apart front (n ∷ ns) none =
    let parts = none_so (not (n == 0) && has front n) (length front) (seek (front ++ n ∷ []) ns) none in
    let rest = seek_apart (front ++ n ∷ []) ns parts.1 in
    let free : (n ≡ 0) ⊎ (has front n ≡ false) = ⊎_elim (λ is. inl (eqb-true n 0 is)) (λ away. inr away) (both_false (n == 0) (has front n) parts.0) in
    seek_apart_more front n ns free rest.0 rest.1

pub once_apart : (ns : List ℕ) → first_repeated ns ≡ None → Apart ns
once_apart ns none = (seek_apart [] ns (sym (found_from [] ns) ∙ none)).0

-- ---- the lines of slots

-- what the grammar of a page has checked of a slot
abbrev pub IsLawful : ℕ → Option Slot → Type 0
IsLawful minpts None = Unit {0}
IsLawful minpts (Some s) = IsLine minpts (record { number = s.number; count = s.count; anchor = s.anchor; label = s.label })

pub each_line : (minpts : ℕ) (slots : Rows) → AllByRecursion (IsLawful minpts) slots → AllByRecursion (IsLine minpts) (lines_of slots)
each_line minpts [] all = tt
each_line minpts (None ∷ slots) all = each_line minpts slots all.1
each_line minpts (Some s ∷ slots) all = (all.0, each_line minpts slots all.1)

abbrev line_numbers : Rows → List ℕ
line_numbers slots = map line_number (lines_of slots)

none_there : (slots : Rows) (q : ℕ) → has (map number_of slots) q ≡ false → count_by (λ m. m == q) (line_numbers slots) ≡ 0
none_there [] q away = refl
none_there (None ∷ slots) q away = none_there slots q (or_parts (0 == q) (has (map number_of slots) q) away).1
none_there (Some s ∷ slots) q away =
    let parts = or_parts (s.number == q) (has (map number_of slots) q) away in
    counted_not q s.number (line_numbers slots) parts.0 ∙ none_there slots q parts.1

once_lines : (minpts : ℕ) (slots : Rows) → AllByRecursion (IsLawful minpts) slots → Apart (map number_of slots) → AreOnce (line_numbers slots)
once_lines minpts [] all apart q = omega arith
once_lines minpts (None ∷ slots) all apart q = once_lines minpts slots all.1 apart.1 q
once_lines minpts (Some s ∷ slots) all apart q = elim (cases_Bool (s.number == q)) [
  | inl here ↦
      let away : has (map number_of slots) s.number ≡ false = ⊎_elim (λ none. absurd (omega (arith, none, all.0.number))) (λ off. off) apart.0 in
      let none : count_by (λ m. m == q) (line_numbers slots) ≡ 0 = none_there slots q (subst (λ (k : ℕ). has (map number_of slots) k ≡ false) (eqb-true s.number q here) away) in
      omega (arith, counted_here q s.number (line_numbers slots) here, none)
  | inr off ↦ omega (arith, counted_not q s.number (line_numbers slots) off, once_lines minpts slots all.1 apart.1 q)
]

-- the lines of lawful slots, each number once, are lawful
pub lines_are : (minpts : ℕ) (slots : Rows) → AllByRecursion (IsLawful minpts) slots → first_repeated (map number_of slots) ≡ None → AreLines minpts (lines_of slots)
lines_are minpts slots all once = record { each = each_line minpts slots all; once = once_lines minpts slots all (once_apart (map number_of slots) once) }

-- ---- the records of slots

-- keys are compared as numbers
tied_is : (q k : ℕ) → eq_by_cmp nat_cmp q k ≡ (k == q)
tied_is q k = elim (cases_order q k) [
  | inl alike ↦
      let lt = le-ltb q k (omega (arith, alike)) in
      let eq = eq-eqb q k alike in
      let back = eq-eqb k q (sym alike) in
      rw (lt, eq, back) refl
  | inr (inl below) ↦
      let lt = lt-ltb q k below in
      let back = ne_eqb k q (λ is. omega (arith, is, below)) in
      rw (lt, back) refl
  | inr (inr above) ↦
      let lt = le-ltb q k (omega (arith, above)) in
      let eq = ne_eqb q k (λ is. omega (arith, is, above)) in
      let back = ne_eqb k q (λ is. omega (arith, is, above)) in
      rw (lt, eq, back) refl
]

-- a number has a record where it has a line
pub found_line : (slots : Rows) (q : ℕ) → is_some (value_at nat_cmp q (flat_map entry_of slots)) ≡ is_some (line_with (lines_of slots) q)
found_line [] q = refl
found_line (None ∷ slots) q = found_line slots q
found_line (Some s ∷ slots) q = at (eq_by_cmp nat_cmp q s.number) (tied_is q s.number) (found_line slots q)
  where
    line : Line
    line = record { number = s.number; count = s.count; anchor = s.anchor; label = s.label }

    at : (b : Bool) → b ≡ (s.number == q) → is_some (value_at nat_cmp q (flat_map entry_of slots)) ≡ is_some (line_with (lines_of slots) q)
        → is_some (cond b (Some s.vector) (value_at nat_cmp q (flat_map entry_of slots))) ≡ is_some (cond (s.number == q) (Some line) (line_with (lines_of slots) q))
    at true is rest = ap (λ (b : Bool). is_some (cond b (Some line) (line_with (lines_of slots) q))) is
    at false is rest = rest ∙ ap (λ (b : Bool). is_some (cond b (Some line) (line_with (lines_of slots) q))) is

-- where there is no line, there is no record
pub no_vectors : (slots : Rows) → length (lines_of slots) ≡ 0 → flat_map entry_of slots ≡ []
no_vectors [] none = refl
no_vectors (None ∷ slots) none = no_vectors slots none
no_vectors (Some s ∷ slots) none = absurd (omega (arith, none))
