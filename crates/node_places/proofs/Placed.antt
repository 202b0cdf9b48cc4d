-- Numbers by slot after a save: which stand there, that none stands twice, and how many slots there are.
use Rattle.std.proofs.Common.{◌≡◌, ◌⊎◌, inl, inr, ⊎_elim, ℕ, zero, suc, ◌+◌, ◌-◌, ◌*◌, ◌/◌, ◌%◌, ◌<◌, ◌≤◌, Bool, true, false, cond, not, ◌||◌, ◌&&◌, List, [], ◌∷◌, ◌++◌, length, map, replicate, refl, sym, ◌∙◌, ap, subst, arith}
use Rattle.std.specs.Prelude.{◌==◌}
use lib.Dec.{T}
use Rattle.std.specs.List.{filter}
use Rattle.std.specs.Ordering.{nat_cmp, is_eq, is_lt}
use Rattle.std.specs.declared.cmp.Ordering.{Ordering}
use Rattle.std.specs.declared.cmp.Ordering.TheVariants.{Less, Equal, Greater}
use Rattle.std.specs.FinMap as maps
use Rattle.std.specs.FinMap.{is_sorted}
use Rattle.std.specs.FinMap.Entries.{below_all}
use Rattle.std.proofs.lemmas.Bool.{cases_Bool, cases_eq, eqb-true, eq-eqb, ne_eqb, false≢true, or_parts, or_left, or_right}
use Rattle.std.proofs.lemmas.List.{length-map}
use Rattle.std.proofs.lemmas.List.Folds.{list_any-append}
use Rattle.std.proofs.lemmas.Map.Views.{any-filter_same}
use Rattle.std.proofs.lemmas.Nat.{mod-mul-add, mod_below, div-add-mod'}
use Rattle.vec_record.specs.Held as held
use Rattle.node_places.specs.Slots.{has, absent, filled, padded, freed, AreApart}
use Rattle.node_places.proofs.Keys.{tied_is}
use Rattle.node_places.proofs.Marks.{or_false}

-- numbers of a list that don't stand in another
abbrev pub Without : List ℕ → List ℕ → Type 0
Without front ns = (m : ℕ) → (m ≡ 0 → ⊥) → has ns m ≡ true → has front m ≡ false

pub neither : (a b : Bool) → a ≡ false → b ≡ false → (a || b) ≡ false
neither a b p q = rw (p, q) refl

module _ (vectors : held.Rows) where
  -- the numbers that stay
  pub has_kept : (ns : List ℕ) (m : ℕ) → (m ≡ 0 → ⊥)
      → has (freed vectors ns) m ≡ (has ns m && maps.contains_key vectors m)
  has_kept [] m some = refl
  has_kept (n ∷ ns) m some = elim (cases_eq n m) [
    | inl same ↦
        let here : (n == m) ≡ true = eq-eqb n m same in
        ap (λ (b : Bool). (cond b n 0 == m) || has (freed vectors ns) m) (ap (maps.contains_key vectors) same)
        ∙ at_same here (has_kept ns m some)
    | inr differ ↦
        let other : (n == m) ≡ false = ne_eqb n m differ in
        ap (λ (b : Bool). b || has (freed vectors ns) m) (neither (maps.contains_key vectors n) other)
        ∙ has_kept ns m some
        ∙ ap (λ (b : Bool). (b || has ns m) && maps.contains_key vectors m) (sym other)
  ]
    where
      zero_away : (0 == m) ≡ false
      zero_away = ne_eqb 0 m (λ is. some (sym is))

      neither : (b : Bool) → (n == m) ≡ false → (cond b n 0 == m) ≡ false
      neither true other = other
      neither false other = zero_away

      by_key : (c b : Bool) → (n == m) ≡ true → has (freed vectors ns) m ≡ (b && c)
          → ((cond c n 0 == m) || has (freed vectors ns) m) ≡ (((n == m) || b) && c)
      by_key true b here rest = rw here refl
      by_key false b here rest = rw (zero_away, rest) (nothing b (n == m))
        where
          nothing : (x y : Bool) → (x && false) ≡ ((y || x) && false)
          nothing true true = refl
          nothing true false = refl
          nothing false true = refl
          nothing false false = refl

      at_same : (n == m) ≡ true
          → has (freed vectors ns) m ≡ (has ns m && maps.contains_key vectors m)
          → ((cond (maps.contains_key vectors m) n 0 == m) || has (freed vectors ns) m) ≡ (((n == m) || has ns m) && maps.contains_key vectors m)
      at_same here rest = by_key (maps.contains_key vectors m) (has ns m) here rest

  pub apart_kept : (ns : List ℕ) → AreApart ns → AreApart (freed vectors ns)
  apart_kept [] apart = tt
  apart_kept (n ∷ ns) apart = (of_key (maps.contains_key vectors n), apart_kept ns apart.1)
    where
      away : (n ≡ 0 → ⊥) → has ns n ≡ false → has (freed vectors ns) n ≡ false
      away some none = has_kept ns n some ∙ ap (λ (b : Bool). b && maps.contains_key vectors n) none

      of_key : (b : Bool) → (cond b n 0 ≡ 0) ⊎ (has (freed vectors ns) (cond b n 0) ≡ false)
      of_key true = elim (cases_eq n 0) [
        | inl is ↦ inl is
        | inr some ↦ ⊎_elim (λ is. inl is) (λ none. inr (away some none)) apart.0
      ]
      of_key false = inl refl

  pub length-freed : (ns : List ℕ) → length (freed vectors ns) ≡ length ns
  length-freed ns = length-map ns (λ n. cond (maps.contains_key vectors n) n 0)

-- keys that rise are apart
above_all : (x : ℕ) (es : List (ℕ × List ℕ)) → T (below_all nat_cmp x es)
    → has (map (λ e. e.0) es) x ≡ false
above_all x [] below = refl
above_all x (e ∷ es) below =
    let parts = and_split (is_lt (nat_cmp x e.0)) (below_all nat_cmp x es) below in
    let other : (e.0 == x) ≡ false = sym (tied_is x e.0) ∙ not_tied (nat_cmp x e.0) parts.0 in
    ap (λ (b : Bool). b || has (map (λ e. e.0) es) x) other ∙ above_all x es parts.1
  where
    and_split : (a b : Bool) → T (a && b) → T a × T b
    and_split true b h = (tt, h)
    and_split false b h = absurd h

    not_tied : (o : Ordering) → T (is_lt o) → is_eq o ≡ false
    not_tied Less h = refl
    not_tied Equal h = absurd h
    not_tied Greater h = refl

pub apart_rising : (es : List (ℕ × List ℕ)) → T (is_sorted nat_cmp es)
    → AreApart (map (λ e. e.0) es)
apart_rising [] sorted = tt
apart_rising (e ∷ es) sorted =
    let parts = and_split (below_all nat_cmp e.0 es) (is_sorted nat_cmp es) sorted in
    (inr (above_all e.0 es parts.0), apart_rising es parts.1)
  where
    and_split : (a b : Bool) → T (a && b) → T a × T b
    and_split true b h = (tt, h)
    and_split false b h = absurd h

pub apart_filter : (p : ℕ → Bool) (ns : List ℕ) → AreApart ns → AreApart (filter p ns)
apart_filter p [] apart = tt
apart_filter p (n ∷ ns) apart = of_test (p n) (apart_filter p ns apart.1)
  where
    fewer : has ns n ≡ false → has (filter p ns) n ≡ false
    fewer none = any-filter_same (λ k. k == n) p (p n) (λ k is. ap p (eqb-true k n is)) ns
        ∙ ap (λ (b : Bool). p n && b) none ∙ and_false (p n)
      where
        and_false : (b : Bool) → (b && false) ≡ false
        and_false true = refl
        and_false false = refl

    of_test : (b : Bool) → AreApart (filter p ns)
        → AreApart (cond b (n ∷ filter p ns) (filter p ns))
    of_test true rest = (⊎_elim (λ is. inl is) (λ none. inr (fewer none)) apart.0, rest)
    of_test false rest = rest

pub has_absent : (slots numbers : List ℕ) (m : ℕ)
    → has (absent slots numbers) m ≡ (not (has slots m) && has numbers m)
has_absent slots numbers m =
    any-filter_same (λ k. k == m) (λ n. not (has slots n)) (not (has slots m)) (λ k is. ap (λ (n : ℕ). not (has slots n)) (eqb-true k m is)) numbers

pub absent_same : (one two ns : List ℕ) → ((n : ℕ) → has ns n ≡ true → has one n ≡ has two n)
    → absent one ns ≡ absent two ns
absent_same one two [] same = refl
absent_same one two (n ∷ ns) same =
    ap (λ (b : Bool). cond (not b) (n ∷ absent one ns) (absent one ns)) (same n (or_left (n == n) (has ns n) (eq-eqb n n refl)))
    ∙ ap (λ (l : List ℕ). cond (not (has two n)) (n ∷ l) l) (absent_same one two ns (λ m is. same m (or_right (n == m) (has ns m) is)))

-- numbers that take free slots
pub has_filled : (slots new : List ℕ) (m : ℕ) → (m ≡ 0 → ⊥)
    → has (filled slots new) m ≡ (has slots m || has new m)
has_filled [] new m some = refl
has_filled (n ∷ slots) [] m some = sym (or_false (has (n ∷ slots) m))
has_filled (n ∷ slots) (k ∷ new) m some = elim (cases_Bool (n == 0)) [
  | inl free ↦
      let other : (n == m) ≡ false = ne_eqb n m (λ is. some (sym is ∙ eqb-true n 0 free)) in
      ap (λ (b : Bool). has (cond b (k ∷ filled slots new) (n ∷ filled slots (k ∷ new))) m) free
      ∙ ap (λ (b : Bool). (k == m) || b) (has_filled slots new m some)
      ∙ turned (k == m) (has slots m) (has new m)
      ∙ ap (λ (b : Bool). (b || has slots m) || ((k == m) || has new m)) (sym other)
  | inr used ↦
      ap (λ (b : Bool). has (cond b (k ∷ filled slots new) (n ∷ filled slots (k ∷ new))) m) used
      ∙ ap (λ (b : Bool). (n == m) || b) (has_filled slots (k ∷ new) m some)
      ∙ joined (n == m) (has slots m) ((k == m) || has new m)
]
  where
    turned : (a b c : Bool) → (a || (b || c)) ≡ (b || (a || c))
    turned true true c = refl
    turned true false c = refl
    turned false true c = refl
    turned false false c = refl

    joined : (a b c : Bool) → (a || (b || c)) ≡ ((a || b) || c)
    joined true b c = refl
    joined false b c = refl

pub apart_filled : (slots new : List ℕ) → AreApart slots → AreApart new → Without new slots
    → AreApart (filled slots new)
apart_filled [] new slots_apart new_apart without = new_apart
apart_filled (n ∷ slots) [] slots_apart new_apart without = slots_apart
apart_filled (n ∷ slots) (k ∷ new) slots_apart new_apart without = elim (cases_Bool (n == 0)) [
  | inl free ↦ subst (λ (b : Bool). AreApart (cond b (k ∷ filled slots new) (n ∷ filled slots (k ∷ new)))) (sym free) (given, apart_filled slots new slots_apart.1 new_apart.1 behind)
  | inr used ↦ subst (λ (b : Bool). AreApart (cond b (k ∷ filled slots new) (n ∷ filled slots (k ∷ new)))) (sym used) (stays used, apart_filled slots (k ∷ new) slots_apart.1 new_apart (λ m some is. without m some (or_right (n == m) (has slots m) is)))
]
  where
    behind : Without new slots
    behind m some is =
        (or_parts (k == m) (has new m) (without m some (or_right (n == m) (has slots m) is))).1

    given : (k ≡ 0) ⊎ (has (filled slots new) k ≡ false)
    given = elim (cases_eq k 0) [
      | inl is ↦ inl is
      | inr some ↦ inr (has_filled slots new k some ∙ neither (has slots k) (has new k) (not_in_slots some) (of_new some))
    ]
      where
        not_in_slots : (k ≡ 0 → ⊥) → has slots k ≡ false
        not_in_slots some = elim (cases_Bool (has slots k)) [
          | inl there ↦ absurd (false≢true (sym (without k some (or_right (n == k) (has slots k) there)) ∙ or_left (k == k) (has new k) (eq-eqb k k refl)))
          | inr away ↦ away
        ]

        of_new : (k ≡ 0 → ⊥) → has new k ≡ false
        of_new some = ⊎_elim (λ is. absurd (some is)) (λ none. none) new_apart.0

    stays : (n == 0) ≡ false → (n ≡ 0) ⊎ (has (filled slots (k ∷ new)) n ≡ false)
    stays used =
        let some : (n ≡ 0 → ⊥) = λ is. false≢true (sym used ∙ eq-eqb n 0 is) in
        inr (has_filled slots (k ∷ new) n some ∙ neither (has slots n) (has (k ∷ new) n) (⊎_elim (λ is. absurd (some is)) (λ none. none) slots_apart.0) (without n some (or_left (n == n) (has slots n) (eq-eqb n n refl))))

-- either no slot is added, or every slot has a number
pub full_or_same : (slots new : List ℕ) → has new 0 ≡ false
    → (length (filled slots new) ≡ length slots) ⊎ (has (filled slots new) 0 ≡ false)
full_or_same [] new some = inr some
full_or_same (n ∷ slots) [] some = inl refl
full_or_same (n ∷ slots) (k ∷ new) some = elim (cases_Bool (n == 0)) [
  | inl free ↦ subst Fine (sym free) (longer (k) (filled slots new) (or_parts (k == 0) (has new 0) some).0 (full_or_same slots new (or_parts (k == 0) (has new 0) some).1))
  | inr used ↦ subst Fine (sym used) (longer n (filled slots (k ∷ new)) used (full_or_same slots (k ∷ new) some))
]
  where
    Fine : Bool → Type 0
    Fine b = (length (cond b (k ∷ filled slots new) (n ∷ filled slots (k ∷ new))) ≡ suc (length slots)) ⊎ (has (cond b (k ∷ filled slots new) (n ∷ filled slots (k ∷ new))) 0 ≡ false)

    longer : (x : ℕ) (xs : List ℕ) → (x == 0) ≡ false
        → (length xs ≡ length slots) ⊎ (has xs 0 ≡ false)
        → (suc (length xs) ≡ suc (length slots)) ⊎ (((x == 0) || has xs 0) ≡ false)
    longer x xs one (inl same) = inl (ap suc same)
    longer x xs one (inr all) = inr (rw (one, all) refl)

pub length-filled : (slots new : List ℕ) → length slots ≤ length (filled slots new)
length-filled [] new = omega arith
length-filled (n ∷ slots) [] = omega arith
length-filled (n ∷ slots) (k ∷ new) = elim (cases_Bool (n == 0)) [
  | inl free ↦ subst Long (sym free) (omega (arith, length-filled slots new))
  | inr used ↦ subst Long (sym used) (omega (arith, length-filled slots (k ∷ new)))
]
  where
    Long : Bool → Type 0
    Long b = suc (length slots) ≤ length (cond b (k ∷ filled slots new) (n ∷ filled slots (k ∷ new)))

-- the slots behind the last
has_zeros : (n m : ℕ) → (m ≡ 0 → ⊥) → has (replicate n 0) m ≡ false
has_zeros zero m some = refl
has_zeros (suc n) m some =
    ap (λ (b : Bool). b || has (replicate n 0) m) (ne_eqb 0 m (λ is. some (sym is)))
    ∙ has_zeros n m some

pub has_padded : (size : ℕ) (ns : List ℕ) (m : ℕ) → (m ≡ 0 → ⊥) → has (padded size ns) m ≡ has ns m
has_padded size ns m some =
    list_any-append (λ k. k == m) ns (replicate ((size - length ns % size) % size) 0)
    ∙ ap (λ (b : Bool). has ns m || b) (has_zeros ((size - length ns % size) % size) m some)
    ∙ or_false (has ns m)

apart_zeros : (n : ℕ) → AreApart (replicate n 0)
apart_zeros zero = tt
apart_zeros (suc n) = (inl refl, apart_zeros n)

pub apart_behind : (size : ℕ) (ns : List ℕ) (n : ℕ) → AreApart ns → AreApart (ns ++ replicate n 0)
apart_behind size [] n apart = apart_zeros n
apart_behind size (k ∷ ns) n apart =
    (⊎_elim (λ is. inl is) (λ none. of_zero none) apart.0, apart_behind size ns n apart.1)
  where
    of_zero : has ns k ≡ false → (k ≡ 0) ⊎ (has (ns ++ replicate n 0) k ≡ false)
    of_zero none = elim (cases_eq k 0) [
      | inl is ↦ inl is
      | inr some ↦ inr (list_any-append (λ j. j == k) ns (replicate n 0) ∙ neither (has ns k) (has (replicate n 0) k) none (has_zeros n k some))
    ]

-- whole pages
pub record Whole (long size total : ℕ) : Type 0 where
  pub pages : ℕ
  pub whole : total ≡ pages * size
  pub more : long ≤ total
  pub less : total < long + size

pub whole_pages : (long size : ℕ) → 0 < size → Whole long size (long + (size - long % size) % size)
whole_pages long size some =
    of_rest (long % size) (long / size) (div-add-mod' long size) (mod_below long size some)
  where
    of_rest : (r q : ℕ) → q * size + r ≡ long → r < size
        → Whole long size (long + (size - r) % size)
    of_rest zero q is below =
        let none : (size - 0) % size ≡ 0 = ap (λ (k : ℕ). k % size) (omega (arith))
        ∙ mod-mul-add 1 size 0 some in
        rw none (record { pages = q; whole = omega (arith, is); more = omega arith; less = omega (arith, some) })
    of_rest (suc r) q is below =
        let rest : (size - suc r) % size ≡ size - suc r = ap (λ (k : ℕ). k % size) (omega (arith))
        ∙ mod-mul-add 0 size (size - suc r) (omega (arith, below)) in
        rw rest (record { pages = q + 1; whole = omega (arith, is, below); more = omega arith; less = omega (arith, below) })
