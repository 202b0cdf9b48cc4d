-- The keys of a map: they rise, and a look-up among them answers as the map does.
use Rattle.std.proofs.Common.{◌≡◌, inl, inr, ℕ, zero, suc, ◌<◌, ◌≤◌, Bool, true, false, cond, ◌||◌, ◌&&◌, List, [], ◌∷◌, length, map, get_or, Result, Ok, Err, refl, sym, ◌∙◌, ap, subst, arith}
use Rattle.std.specs.Prelude.{◌==◌, is_ok, MatchResult}
use lib.Dec.{T}
use Rattle.std.specs.List.{list_any}
use Rattle.std.specs.List.Sorted.{IsNonDecreasing, IsBinarySearchResult}
use Rattle.std.specs.Ordering.{nat_cmp, is_lt, eq_by_cmp}
use Rattle.std.specs.declared.cmp.Ordering.TheVariants.{Less, Equal, Greater}
use Rattle.std.specs.FinMap as maps
use Rattle.std.specs.FinMap.{is_sorted}
use Rattle.std.specs.FinMap.Entries.{below_all}
use Rattle.std.proofs.lemmas.Bool.{cases_lt, cases_eq, cases_order, eq-eqb, ne_eqb, lt-ltb, le-ltb, false≢true}
use Rattle.std.proofs.lemmas.List.{get_or_default}
use Rattle.std.proofs.lemmas.List.Folds.{list_any_none, list_any_at}
use Rattle.std.proofs.lemmas.List.Sorted.{searched}
use Rattle.vec_record.specs.Held as held
use Rattle.node_places.specs.Slots.{has, freed}
use Rattle.node_places.specs.Rising.{IsRising}

-- keys are compared as numbers
pub tied_is : (q k : ℕ) → eq_by_cmp nat_cmp q k ≡ (k == q)
tied_is q k = elim (cases_order q k) [
  | inl same ↦
      let lt = le-ltb q k (omega (arith, same)) in
      let eq = eq-eqb q k same in
      let back = eq-eqb k q (sym same) in
      rw (lt, eq, back) refl
  | inr (inl below) ↦
      let lt = lt-ltb q k below in
      let back = ne_eqb k q (λ is. omega (arith, is, below)) in
      rw (lt, back) refl
  | inr (inr above) ↦
      let lt = le-ltb q k (omega (arith, above)) in
      let eq = ne_eqb q k (λ is. omega (arith, is, above)) in
      let back = ne_eqb k q (λ is. omega (arith, is, above)) in
      rw (lt, eq, back) refl
]

pub any_tied : (ks : List ℕ) (q : ℕ) → list_any (eq_by_cmp nat_cmp q) ks ≡ has ks q
any_tied [] q = refl
any_tied (k ∷ ks) q = ap (λ (b : Bool). b || list_any (eq_by_cmp nat_cmp q) ks) (tied_is q k)
    ∙ ap (λ (b : Bool). (k == q) || b) (any_tied ks q)

pub has_keys : (vectors : held.Rows) (m : ℕ)
    → has (maps.keys vectors) m ≡ maps.contains_key vectors m
has_keys vectors m = sym (maps.contains_key-keys vectors m ∙ any_tied (maps.keys vectors) m)

-- keys rise
less_so : (x y : ℕ) → T (is_lt (nat_cmp x y)) → x < y
less_so x y h = elim (cases_lt x y) [
  | inl lt ↦ lt
  | inr ge ↦ absurd (not_less (x == y) (subst (λ (b : Bool). T (is_lt (cond b Less (cond (x == y) Equal Greater)))) (le-ltb x y ge) h))
]
  where
    not_less : (b : Bool) → T (is_lt (cond b Equal Greater)) → ⊥
    not_less true h = h
    not_less false h = h

and_split : (a b : Bool) → T (a && b) → T a × T b
and_split true b h = (tt, h)
and_split false b h = absurd h

above_at : (x : ℕ) (es : List (ℕ × List ℕ)) → T (below_all nat_cmp x es) → (j d : ℕ)
    → j < length (map (λ e. e.0) es) → x < get_or (map (λ e. e.0) es) j d
above_at x [] below j d lt = absurd (omega (arith, lt))
above_at x (e ∷ es) below zero d lt =
    less_so x e.0 (and_split (is_lt (nat_cmp x e.0)) (below_all nat_cmp x es) below).0
above_at x (e ∷ es) below (suc j) d lt =
    above_at x es (and_split (is_lt (nat_cmp x e.0)) (below_all nat_cmp x es) below).1 j d (omega (arith, lt))

rising_from : (es : List (ℕ × List ℕ)) → T (is_sorted nat_cmp es) → (i j d : ℕ) → i < j
    → j < length (map (λ e. e.0) es)
    → get_or (map (λ e. e.0) es) i d < get_or (map (λ e. e.0) es) j d
rising_from [] sorted i j d le lt = absurd (omega (arith, lt))
rising_from (e ∷ es) sorted i zero d le lt = absurd (omega (arith, le))
rising_from (e ∷ es) sorted zero (suc j) d le lt =
    above_at e.0 es (and_split (below_all nat_cmp e.0 es) (is_sorted nat_cmp es) sorted).0 j d (omega (arith, lt))
rising_from (e ∷ es) sorted (suc i) (suc j) d le lt =
    rising_from es (and_split (below_all nat_cmp e.0 es) (is_sorted nat_cmp es) sorted).1 i j d (omega (arith, le)) (omega (arith, lt))

pub keys_rise : (vectors : held.Rows) → IsRising (maps.keys vectors)
keys_rise vectors =
    λ i j lt within. rising_from (maps.entries vectors) (maps.entries_sorted vectors) i j 0 lt within

never_falls : (xs : List ℕ) → IsRising xs → IsNonDecreasing xs
never_falls xs rising = λ i j d le lt. elim (cases_eq i j) [
  | inl same ↦ omega (arith, ap (λ (k : ℕ). get_or xs k d) same)
  | inr differ ↦ omega (arith, rising i j (omega (arith, le, differ)) lt, get_or_default xs i d 0 (omega (arith, le, lt)), get_or_default xs j d 0 lt)
]

pub among : (xs : List ℕ) (x : ℕ) (r : Result ℕ ℕ) → IsRising xs
    → IsBinarySearchResult (λ y. nat_cmp y x) xs r → is_ok r ≡ has xs x
among xs x r rising found =
    at r (searched xs x r found (λ i j le lt. never_falls xs rising i j 0 le lt))
  where
    at : (r : Result ℕ ℕ)
        → MatchResult r (λ i. (i < length xs) × (get_or xs i 0 ≡ x)) (λ i. (i ≤ length xs) × ((k : ℕ) → k < i → get_or xs k 0 < x) × ((k : ℕ) → i ≤ k → k < length xs → x < get_or xs k 0))
        → is_ok r ≡ has xs x
    at (Ok i) is = sym (list_any_at (λ n. n == x) xs i 0 is.0 (eq-eqb (get_or xs i 0) x is.1))
    at (Err i) is =
        sym (list_any_none (λ n. n == x) xs (λ k d lt. ne_eqb (get_or xs k d) x (λ same. elim (cases_lt k i) [
          | inl before ↦ omega (arith, is.1 k before, same, get_or_default xs k d 0 lt)
          | inr behind ↦ omega (arith, is.2 k behind lt, same, get_or_default xs k d 0 lt)
        ])))

-- where a number is found
pub found_at : (xs : List ℕ) (x i : ℕ) (r : Result ℕ ℕ) → IsRising xs
    → IsBinarySearchResult (λ y. nat_cmp y x) xs r → r ≡ Ok i
    → (i < length xs) × (get_or xs i 0 ≡ x)
found_at xs x i r rising found is =
    subst (λ (r : Result ℕ ℕ). MatchResult r (λ i. (i < length xs) × (get_or xs i 0 ≡ x)) (λ i. (i ≤ length xs) × ((k : ℕ) → k < i → get_or xs k 0 < x) × ((k : ℕ) → i ≤ k → k < length xs → x < get_or xs k 0))) is (searched xs x r found (λ i j le lt. never_falls xs rising i j 0 le lt))

-- a number that isn't in a list is none of its numbers
pub not_at : (xs : List ℕ) (x k : ℕ) → has xs x ≡ false → k < length xs
    → (x == get_or xs k 0) ≡ false
not_at xs x k away lt =
    ne_eqb x (get_or xs k 0) (λ same. false≢true (sym away ∙ list_any_at (λ n. n == x) xs k 0 lt (eq-eqb (get_or xs k 0) x (sym same))))

-- numbers that rise differ
pub other_at : (xs : List ℕ) (i k : ℕ) → IsRising xs → i < length xs → k < length xs → (i ≡ k → ⊥)
    → (get_or xs i 0 == get_or xs k 0) ≡ false
other_at xs i k rising i_in k_in differ =
    ne_eqb (get_or xs i 0) (get_or xs k 0) (λ same. elim (cases_lt i k) [
      | inl before ↦ omega (arith, rising i k before k_in, same)
      | inr behind ↦ omega (arith, rising k i (omega (arith, behind, differ)) i_in, same)
    ])

pub freed_is : (vectors : held.Rows) (ns : List ℕ)
    → map (λ n. cond (has (maps.keys vectors) n) n 0) ns ≡ freed vectors ns
freed_is vectors [] = refl
freed_is vectors (n ∷ ns) =
    ap (λ (b : Bool). cond b n 0 ∷ map (λ n. cond (has (maps.keys vectors) n) n 0) ns) (has_keys vectors n)
    ∙ ap (λ (l : List ℕ). cond (maps.contains_key vectors n) n 0 ∷ l) (freed_is vectors ns)
