-- Items of one size that stand one behind the other in a page: their fields, what they say, and their bytes.
use Rattle.std.proofs.Common.{◌≡◌, ℕ, zero, suc, ◌+◌, ◌-◌, ◌*◌, ◌<◌, ◌≤◌, true, false, List, [], ◌∷◌, ◌++◌, length, map, drop, replicate, Some, None, refl, sym, ap, subst, ◌∙◌, append_assoc, arith}
use Rattle.std.specs.List.{AllByRecursion, flat_map, range_with_len}
use Rattle.std.specs.Option.{option_or}
use Rattle.std.proofs.lemmas.List.{length-append}
use Rattle.std.proofs.lemmas.List.Concat.{flat_map-append}
use Rattle.std.proofs.Math.Nat.{mul-le-mul_left}
use Rattle.vec_record.specs.Vectors.{AreBytes}
use Rattle.page_layout.specs.Fields.{Field, word, first_bad}
use Rattle.page_layout.proofs.Places.{behind, append_lawful, append_bad}

-- ---- fields of several parts

pub both_lawful : (front back : List Field) → first_bad (front ++ back) ≡ None → (first_bad front ≡ None) × (first_bad back ≡ None)
both_lawful [] back all = (refl, all)
both_lawful ((offset, true) ∷ front) back all = both_lawful front back all
both_lawful ((offset, false) ∷ front) back all = absurd cc

pub first_or : (front back : List Field) → first_bad (front ++ back) ≡ option_or (first_bad front) (first_bad back)
first_or [] back = refl
first_or ((offset, true) ∷ front) back = first_or front back
first_or ((offset, false) ∷ front) back = refl

pub three_or : (front middle back : List Field) → first_bad (front ++ (middle ++ back)) ≡ option_or (option_or (first_bad front) (first_bad middle)) (first_bad back)
three_or [] middle back = first_or middle back
three_or ((offset, true) ∷ front) middle back = three_or front middle back
three_or ((offset, false) ∷ front) middle back = refl

-- the fields of n items from one on
abbrev pub fields_from : (ℕ → List Field) → ℕ → ℕ → List Field
fields_from f i n = flat_map f (range_with_len i n)

range_split : (a b i : ℕ) → range_with_len i (a + b) ≡ range_with_len i a ++ range_with_len (i + a) b
range_split zero b i =
    let same : i ≡ i + 0 = omega arith in
    let none : 0 + b ≡ b = omega arith in
    ap (range_with_len i) none ∙ ap (λ (k : ℕ). range_with_len k b) same
range_split (suc a) b i =
    let one : suc a + b ≡ suc (a + b) = omega arith in
    let on : i + 1 + a ≡ i + suc a = omega arith in
    ap (range_with_len i) one ∙ ap (λ (l : List ℕ). i ∷ l) (range_split a b (i + 1)) ∙ ap (λ (k : ℕ). i ∷ (range_with_len (i + 1) a ++ range_with_len k b)) on

module _ (f : ℕ → List Field) where
  fields_split : (a b : ℕ) → fields_from f 0 (a + b) ≡ fields_from f 0 a ++ fields_from f a b
  fields_split a b =
      let start : 0 + a ≡ a = omega arith in
      ap (flat_map f) (range_split a b 0) ∙ flat_map-append f (range_with_len 0 a) (range_with_len (0 + a) b) ∙ ap (λ (k : ℕ). fields_from f 0 a ++ fields_from f k b) start

  -- items one by one
  pub fields_more : (k : ℕ) → first_bad (fields_from f 0 k) ≡ None → first_bad (f k) ≡ None → first_bad (fields_from f 0 (k + 1)) ≡ None
  fields_more k so_far is = ap first_bad (fields_split k 1) ∙ append_lawful (fields_from f 0 k) (fields_from f k 1) so_far ∙ append_lawful (f k) [] is

  pub fields_bad : (k n offset : ℕ) → k < n → first_bad (fields_from f 0 k) ≡ None → first_bad (f k) ≡ Some offset → first_bad (fields_from f 0 n) ≡ Some offset
  fields_bad k n offset lt so_far bad =
      let rest : n ≡ k + suc (n - (k + 1)) = omega (arith, lt) in
      ap (λ (m : ℕ). first_bad (fields_from f 0 m)) rest ∙ ap first_bad (fields_split k (suc (n - (k + 1)))) ∙ append_lawful (fields_from f 0 k) (fields_from f k (suc (n - (k + 1)))) so_far
      ∙ append_bad (f k) (fields_from f (k + 1) (n - (k + 1))) offset bad

  -- each item of lawful ones is lawful
  pub fields_each : (k n : ℕ) → k < n → first_bad (fields_from f 0 n) ≡ None → first_bad (f k) ≡ None
  fields_each k n lt lawful =
      let rest : n ≡ k + suc (n - (k + 1)) = omega (arith, lt) in
      let all : first_bad (fields_from f 0 k ++ fields_from f k (suc (n - (k + 1)))) ≡ None = ap first_bad (sym (fields_split k (suc (n - (k + 1))))) ∙ ap (λ (m : ℕ). first_bad (fields_from f 0 m)) (sym rest) ∙ lawful in
      (both_lawful (f k) (fields_from f (k + 1) (n - (k + 1))) (both_lawful (fields_from f 0 k) (fields_from f k (suc (n - (k + 1)))) all).1).0

-- ---- items and their bytes

pub length-run : {A : Type 0} (bytes : A → List ℕ) (P : A → Type 0) (size : ℕ) (long : (x : A) → P x → length (bytes x) ≡ size) (xs : List A) → AllByRecursion P xs → length (flat_map bytes xs) ≡ size * length xs
length-run bytes P size long [] each = omega arith
length-run bytes P size long (x ∷ xs) each = omega (arith, length-append (bytes x) (flat_map bytes xs), long x each.0, length-run bytes P size long xs each.1)

-- items of a size from a base on, of which each is spelled as its bytes
module _ (A : Type 0) (page : List ℕ) (base size : ℕ) (say : ℕ → A) (fields : ℕ → List Field) (bytes : A → List ℕ) (P : A → Type 0) where
  abbrev pub place : ℕ → ℕ
  place k = base + size * k

  abbrev pub run_fields : ℕ → ℕ → List Field
  run_fields i n = flat_map (λ k. fields (place k)) (range_with_len i n)

  abbrev pub run : ℕ → ℕ → List A
  run i n = map (λ k. say (place k)) (range_with_len i n)

  next_place : (k : ℕ) → place k + size ≡ place (k + 1)
  next_place k = omega arith

  places_rise : (k n : ℕ) → place k ≤ place (k + n)
  places_rise k n =
      let le : k ≤ k + n = omega arith in
      omega (arith, mul-le-mul_left size le)

  -- what an item that is read says, and its bytes
  abbrev pub IsReadAt : ℕ → Type 0
  IsReadAt at = P (say at) × (drop at page ≡ bytes (say at) ++ drop (at + size) page)

  abbrev pub AreReadFrom : ℕ → ℕ → Type 0
  AreReadFrom i n = AllByRecursion P (run i n) × (drop (place i) page ≡ flat_map bytes (run i n) ++ drop (place (i + n)) page)

  pub run_read : (one : (at : ℕ) → at + size ≤ length page → first_bad (fields at) ≡ None → IsReadAt at) (n i : ℕ) → place (i + n) ≤ length page → first_bad (run_fields i n) ≡ None → AreReadFrom i n
  run_read one zero i le lawful =
      let none : i ≡ i + 0 = omega arith in
      (tt, ap (λ (k : ℕ). drop (place k) page) none)
  run_read one (suc n) i le lawful =
      let on : i + 1 + n ≡ i + suc n = omega arith in
      let both = both_lawful (fields (place i)) (run_fields (i + 1) n) lawful in
      let end_le : place (i + 1 + n) ≤ length page = subst (λ (k : ℕ). place k ≤ length page) (sym on) le in
      let fits : place i + size ≤ length page = omega (arith, next_place i, end_le, places_rise (i + 1) n) in
      let first = one (place i) fits both.0 in
      let more = run_read one n (i + 1) end_le both.1 in
      let here : List ℕ = bytes (say (place i)) in
      let rest : List ℕ = flat_map bytes (run (i + 1) n) in (
        (first.0, more.0),
        first.1 ∙ ap (λ (k : ℕ). here ++ drop k page) (next_place i) ∙ ap (λ (l : List ℕ). here ++ l) (more.1 ∙ ap (λ (k : ℕ). rest ++ drop (place k) page) on)
            ∙ sym (append_assoc here rest (drop (place (i + suc n)) page)),
      )

  -- an item that was written is read again
  abbrev pub IsAgainAt : ℕ → A → Type 0
  IsAgainAt at x = (first_bad (fields at) ≡ None) × (say at ≡ x)

  pub run_again : (long : (x : A) → P x → length (bytes x) ≡ size) (one : (at : ℕ) (x : A) (rest : List ℕ) → P x → drop at page ≡ bytes x ++ rest → IsAgainAt at x)
      (rest : List ℕ) (xs : List A) (i : ℕ) → AllByRecursion P xs → drop (place i) page ≡ flat_map bytes xs ++ rest → (first_bad (run_fields i (length xs)) ≡ None) × (run i (length xs) ≡ xs)
  run_again long one rest [] i each holds = (refl, refl)
  run_again long one rest (x ∷ xs) i each holds =
      let here : drop (place i) page ≡ bytes x ++ (flat_map bytes xs ++ rest) = holds ∙ append_assoc (bytes x) (flat_map bytes xs) rest in
      let first = one (place i) x (flat_map bytes xs ++ rest) each.0 here in
      let next : drop (place (i + 1)) page ≡ flat_map bytes xs ++ rest =
      ap (λ (k : ℕ). drop k page) (sym (next_place i)) ∙ behind (place i) size page (bytes x) (flat_map bytes xs ++ rest) here (long x each.0) in
      let more = run_again long one rest xs (i + 1) each.1 next in (
        append_lawful (fields (place i)) (run_fields (i + 1) (length xs)) first.0 ∙ more.0,
        ap (λ (a : A). a ∷ run (i + 1) (length xs)) first.1 ∙ ap (λ (l : List A). x ∷ l) more.1,
      )

  -- behind the items
  pub run_behind : (long : (x : A) → P x → length (bytes x) ≡ size) (rest : List ℕ) (xs : List A) → AllByRecursion P xs → drop base page ≡ flat_map bytes xs ++ rest → drop (place (length xs)) page ≡ rest
  run_behind long rest xs each holds = behind base (size * length xs) page (flat_map bytes xs) rest holds (length-run bytes P size long xs each)

-- ---- bytes

pub bytes-append : (front back : List ℕ) → AreBytes front → AreBytes back → AreBytes (front ++ back)
bytes-append [] back are more = more
bytes-append (b ∷ front) back are more = (are.0, bytes-append front back are.1 more)

pub bytes-zeros : (n : ℕ) → AreBytes (replicate n 0)
bytes-zeros zero = tt
bytes-zeros (suc n) = (omega arith, bytes-zeros n)

pub bytes-word : (n : ℕ) → AreBytes (word n)
bytes-word n = (omega arith, (omega arith, (omega arith, (omega arith, tt))))
