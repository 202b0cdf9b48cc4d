-- The first place that passes a test, and the place of the next that passes.
use Rattle.std.proofs.Common.{◌≡◌, ℕ, zero, suc, ◌+◌, ◌<◌, ◌≤◌, Bool, true, false, cond, List, [], ◌∷◌, length, get_or, take, filter, position, None, Some, refl, ap, ◌∙◌, inl, inr, arith}
use Rattle.std.specs.Prelude.{nat_lt}
use Rattle.std.specs.List.{AllWithin, position_or_len, range_with_len}
use Rattle.std.proofs.lemmas.Bool.{cases_eq}
use Rattle.std.proofs.lemmas.List.{get_or_default}
use Rattle.std.proofs.lemmas.Bool.Decides.{nat_tests}
use Rattle.std.proofs.lemmas.List.Sums.{position_or_len_is, fails_before_first}

position_as : {X : Type 0} (p : X → Bool) (xs : List X) (i : ℕ) (b : Bool) → position_or_len p xs ≡ i → nat_lt i (length xs) ≡ b → position p xs ≡ cond b (Some i) None
position_as p xs i b e t = ap (λ (k : ℕ). cond (nat_lt k (length xs)) (Some k) None) e ∙ ap (λ v. cond v (Some i) None) t

pub place_found : {X : Type 0} (p : X → Bool) (xs : List X) (i : ℕ) (x : X) → i < length xs → p (get_or xs i x) ≡ true → AllWithin (λ y. p y ≡ false) xs 0 i → position p xs ≡ Some i
place_found p xs i x h here before =
    let first : position_or_len p xs ≡ i = position_or_len_is p xs i x (omega arith) (λ k lt. before k x (omega arith) lt) (λ _. here) in
    position_as p xs i true first (grind (arith, nat_tests))

pub place_none : {X : Type 0} (p : X → Bool) (xs : List X) (i : ℕ) → length xs ≤ i → AllWithin (λ y. p y ≡ false) xs 0 i → position p xs ≡ None
place_none p [] i h none = refl
place_none p (x ∷ xs) i h none =
    let first : position_or_len p (x ∷ xs) ≡ length (x ∷ xs) = position_or_len_is p (x ∷ xs) (length (x ∷ xs)) x (omega arith) (λ k lt. none k x (omega arith) (omega arith)) (λ lt. absurd (omega arith)) in
    position_as p (x ∷ xs) (length (x ∷ xs)) false first (grind (arith, nat_tests))

none_as : (i n : ℕ) (b : Bool) → nat_lt i n ≡ b → cond b (Some i) None ≡ None → n ≤ i
none_as i n true e h = absurd (cc)
none_as i n false e h = grind (arith, nat_tests)

-- where no place passes, none does
pub none_passes : {X : Type 0} (p : X → Bool) (xs : List X) → position p xs ≡ None → (k : ℕ) (x : X) → k < length xs → p (get_or xs k x) ≡ false
none_passes p xs none k x h =
    let past : length xs ≤ position_or_len p xs = none_as (position_or_len p xs) (length xs) _ refl none in
    fails_before_first p xs k x (omega arith)

-- the first place of a range that passes
record IsHead (test : ℕ → Bool) (a n k : ℕ) : Type 0 where
  pub passes : test k ≡ true
  pub low : a ≤ k
  pub high : k < a + n
  pub before : (j : ℕ) → a ≤ j → j < k → test j ≡ false

head : (test : ℕ → Bool) (a n : ℕ) → 0 < length (filter test (range_with_len a n)) → IsHead test a n (get_or (filter test (range_with_len a n)) 0 0)
head test a zero h = absurd (omega arith)
head test a (suc n) h =
    let rest = filter test (range_with_len (a + 1) n) in
    elim (test a) as (λ b. test a ≡ b → 0 < length (cond b (a ∷ rest) rest) → IsHead test a (suc n) (get_or (cond b (a ∷ rest) rest) 0 0)) [
      | true ↦ λ e l. record { passes = e; low = omega arith; high = omega arith; before = λ j le lt. absurd (omega arith) }
      | false ↦ λ e l. let r = head test (a + 1) n l in record {
        passes = r.passes;
        low = omega (arith, r.low);
        high = omega (arith, r.high);
        before = λ j le lt. elim (cases_eq j a) [
          | inl same ↦ ap test same ∙ e
          | inr other ↦ r.before j (omega arith) lt
        ];
      }
    ] refl h

none_in : (test : ℕ → Bool) (a n : ℕ) → length (filter test (range_with_len a n)) ≡ 0 → (j : ℕ) → a ≤ j → j < a + n → test j ≡ false
none_in test a zero h j le lt = absurd (omega arith)
none_in test a (suc n) h j le lt =
    let rest = filter test (range_with_len (a + 1) n) in
    elim (test a) as (λ b. test a ≡ b → length (cond b (a ∷ rest) rest) ≡ 0 → test j ≡ false) [
      | true ↦ λ e l. absurd (omega (arith, l))
      | false ↦ λ e l. elim (cases_eq j a) [
        | inl same ↦ ap test same ∙ e
        | inr other ↦ none_in test (a + 1) n l j (omega arith) (omega arith)
      ]
    ] refl h

-- the first element that passes, by the places that pass
module _ {X : Type 0} (p : X → Bool) (d : X) (xs : List X) (n : ℕ) (all : n ≡ length xs) where
  abbrev kept : List ℕ
  kept = filter (λ k. p (get_or xs k d)) (range_with_len 0 n)

  -- what fails at its place fails whatever stands for the places past the end
  fails_at : (k : ℕ) (x : X) → k < length xs → p (get_or xs k d) ≡ false → p (get_or xs k x) ≡ false
  fails_at k x h fails = ap p (get_or_default xs k x d h) ∙ fails

  pub first_kept : 0 < length kept → (get_or kept 0 0 < length xs) × (position p xs ≡ Some (get_or kept 0 0))
  first_kept h =
      let k = get_or kept 0 0 in
      let r = head (λ k. p (get_or xs k d)) 0 n h in
      let inside : k < length xs = omega (arith, r.high, all) in
      (inside, place_found p xs k d inside r.passes (λ j x le lt. fails_at j x (omega (arith, lt, inside)) (r.before j le lt)))

  pub none_kept : length kept ≡ 0 → position p xs ≡ None
  none_kept h = place_none p xs (length xs) (omega arith) (λ j x le lt. fails_at j x lt (none_in (λ k. p (get_or xs k d)) 0 n h j (omega arith) (omega (arith, lt, all))))

-- among the numbers that pass, one that passes stands at the place after those before it
pub record IsNext (test : ℕ → Bool) (xs : List ℕ) (i : ℕ) : Type 0 where
  pub below : length (filter test (take i xs)) < length (filter test xs)
  pub is : get_or (filter test xs) (length (filter test (take i xs))) 0 ≡ get_or xs i 0

pub is_next : (test : ℕ → Bool) (xs : List ℕ) (i : ℕ) → i < length xs → test (get_or xs i 0) ≡ true → IsNext test xs i
is_next test [] i h passes = absurd (omega arith)
is_next test (x ∷ xs) zero h passes = record { below = rw passes (omega arith); is = rw passes refl }
is_next test (x ∷ xs) (suc i) h passes =
    let rest = is_next test xs i (omega arith) passes in
    let ys = filter test xs in
    let zs = filter test (take i xs) in
    let both = elim (test x) as (λ b. (length (cond b (x ∷ zs) zs) < length (cond b (x ∷ ys) ys)) × (get_or (cond b (x ∷ ys) ys) (length (cond b (x ∷ zs) zs)) 0 ≡ get_or xs i 0)) [
      | true ↦ (omega (arith, rest.below), rest.is)
      | false ↦ (rest.below, rest.is)
    ] in
    record { below = both.0; is = both.1 }
