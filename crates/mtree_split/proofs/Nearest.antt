-- What a turn takes: the nearest entry that is left.
use Rattle.std.proofs.Common.{◌≡◌, ℕ, zero, suc, ◌+◌, ◌/◌, ◌%◌, ◌<◌, ◌≤◌, ◌^◌, cond, List, [], ◌∷◌, Bool, true, false, length, refl, sym, ap, ◌∙◌, arith, inl, inr, slice_index, slice_index_or, slice_set, replicate, length-set, count_by}
use Rattle.std.proofs.lemmas.Bool.{cases_Bool, cases_eq, cases_lt}
use Rattle.std.proofs.lemmas.List.Recursion.{is_count_by}
use Rattle.std.proofs.lemmas.List.{set-get_or, get_or-set_same, get_or-set_other, get_or_past, length-replicate}
use Rattle.mtree_split.specs.Least.{beyond}
use Rattle.mtree_split.specs.Sides.{Sides, rank_left, nearest_left, with_nearest, after_turns, sides_of}
use Rattle.mtree_split.specs.Laws.{IsLeft, IsNearestLeft, TakesNearest}
use Rattle.mtree_split.proofs.Turns.{at_first, right_turn, left_turn}
use Rattle.mtree_split.proofs.Firsts.{first_inside, first_is_least, first_is_first}

-- how many entries are marked
abbrev pub marked : List Bool → ℕ
marked [] = 0
marked (x ∷ xs) = cond x (1 + marked xs) (marked xs)

pub marked_counts : (xs : List Bool) → marked xs ≡ count_by (λ x. x) xs
marked_counts xs = is_count_by marked (λ x. x) refl (λ _ _. refl) xs

marked_at_most : (xs : List Bool) → marked xs ≤ length xs
marked_at_most [] = omega arith
marked_at_most (true ∷ xs) = omega (arith, marked_at_most xs)
marked_at_most (false ∷ xs) = omega (arith, marked_at_most xs)

pub marked_more : (xs : List Bool) (k : ℕ) → k < length xs → IsLeft xs k → marked (slice_set xs k true) ≡ marked xs + 1
marked_more [] k l left = absurd (omega (arith, l))
marked_more (x ∷ xs) zero l left = let off : x ≡ false = left in rw off (omega arith)
marked_more (true ∷ xs) (suc k) l left = let more = marked_more xs k (omega (arith, l)) left in omega (arith, more)
marked_more (false ∷ xs) (suc k) l left = marked_more xs k (omega (arith, l)) left

-- a list that isn't all marked has a place that is left
pub some_left : (xs : List Bool) → marked xs < length xs → (k : ℕ) × (k < length xs) × IsLeft xs k
some_left [] l = absurd (omega (arith, l))
some_left (false ∷ xs) l = (0, omega arith, refl)
some_left (true ∷ xs) l = let rest = some_left xs (omega (arith, l)) in (suc rest.0, omega (arith, rest.1), rest.2)

pub marked_none : (n : ℕ) → marked (replicate n false) ≡ 0
marked_none zero = refl
marked_none (suc n) = marked_none n

-- a list with as many marks as places is marked everywhere
pub all_marked : (xs : List Bool) → length xs ≤ marked xs → xs ≡ replicate (length xs) true
all_marked [] l = refl
all_marked (true ∷ xs) l = ap (λ ys. true ∷ ys) (all_marked xs (omega (arith, l)))
all_marked (false ∷ xs) l = absurd (omega (arith, l, marked_at_most xs))

rank_of_left : (row : List ℕ) (taken : List Bool) (k : ℕ) → IsLeft taken k → rank_left row taken k ≡ slice_index row k
rank_of_left row taken k left = rw left refl

rank_of_taken : (row : List ℕ) (taken : List Bool) (k : ℕ) → rank_left row taken k < beyond → IsLeft taken k
rank_of_taken row taken k l =
    elim (cases_Bool (slice_index_or taken k false)) [
      | inl t ↦ absurd (let h : beyond < beyond = rw t at l in omega (arith, h))
      | inr f ↦ f
    ]

pub nearest_is : (row : List ℕ) (taken : List Bool) → ((k : ℕ) → slice_index row k < 2 ^ 32) → length taken ≡ length row → marked taken < length row → IsNearestLeft row taken (nearest_left row taken)
nearest_is row taken small same more =
    let rank = rank_left row taken in
    let some = some_left taken (omega arith) in
    let k = nearest_left row taken in
    let least : rank k ≤ rank some.0 = first_is_least rank (length row) some.0 (omega (arith, some.1)) in
    let is : rank some.0 ≡ slice_index row some.0 = rank_of_left row taken some.0 some.2 in
    let left : IsLeft taken k = rank_of_taken row taken k (omega (arith, small some.0)) in
    record {
      inside = first_inside rank (length row) (omega arith);
      left = left;
      nearest = λ m l leftm. omega (arith, first_is_least rank (length row) m l, rank_of_left row taken m leftm, rank_of_left row taken k left);
      first = λ m l leftm. omega (arith, first_is_first rank (length row) m l, rank_of_left row taken m leftm, rank_of_left row taken k left);
    }

pub takes_nearest : (row : List ℕ) (to_right : Bool) (s : Sides) → ((k : ℕ) → slice_index row k < 2 ^ 32) → length s.taken ≡ length row → marked s.taken < length row
    → TakesNearest row to_right s (with_nearest row to_right s)
takes_nearest row to_right s small same more = (nearest_left row s.taken, nearest_is row s.taken small same more, refl, refl)

-- what the turns keep: how many entries were taken and how many went right, and that none went right without being taken
pub record Balance (n t : ℕ) (s : Sides) : Type 0 where
  pub places : length s.taken ≡ n
  pub room : length s.right ≡ 36
  pub taken : marked s.taken ≡ t
  pub right : marked s.right ≡ t / 2
  pub within : (k : ℕ) → IsLeft s.taken k → IsLeft s.right k

half_even : (t : ℕ) → (t % 2 ≡ 1 → ⊥) → t % 2 ≡ 0
half_even t even = elim (cases_eq (t % 2) 1) [ inl odd ↦ absurd (even odd) | inr other ↦ omega (arith, other) ]

at_none : (n k : ℕ) → IsLeft (replicate n false) k
at_none zero k = refl
at_none (suc n) zero = refl
at_none (suc n) (suc k) = at_none n k

taken_off : (xs : List Bool) (i k : ℕ) → IsLeft (slice_set xs i true) k → IsLeft xs k × (k ≡ i → i < length xs → ⊥)
taken_off xs i k left =
    elim (cases_eq k i) [
      | inl at ↦ elim (cases_lt i (length xs)) [
        | inl l ↦ absurd (let on : true ≡ false = sym (get_or-set_same xs i true false l) ∙ (rw at at left) in cc)
        | inr m ↦ (get_or_past xs k false (omega arith), λ _ l. absurd (omega arith))
      ]
      | inr off ↦ (sym (get_or-set_other xs i k true false off) ∙ left, λ at l. absurd (off at))
    ]

pub balance_right : (row : List ℕ) (n t : ℕ) (s : Sides) → ((k : ℕ) → slice_index row k < 2 ^ 32) → length row ≡ n → n ≤ 36 → t < n → t % 2 ≡ 1 → Balance n t s → Balance n (t + 1) (with_nearest row true s)
balance_right row n t s small long room l odd b =
    let k = nearest_left row s.taken in
    let is : IsNearestLeft row s.taken k = nearest_is row s.taken small (omega (arith, b.places)) (omega (arith, b.taken)) in
    record {
      places = length-set s.taken k true ∙ b.places;
      room = length-set s.right k true ∙ b.room;
      taken = omega (arith, marked_more s.taken k (omega (arith, is.inside, b.places)) is.left, b.taken);
      right = omega (arith, marked_more s.right k (omega (arith, is.inside, b.room)) (b.within k is.left), b.right);
      within = λ m left.
          let before = taken_off s.taken k m left in
          let other : (m ≡ k → ⊥) = λ at. before.1 at (omega (arith, is.inside, b.places)) in
          get_or-set_other s.right k m true false other ∙ b.within m before.0;
    }

pub balance_left : (row : List ℕ) (n t : ℕ) (s : Sides) → ((k : ℕ) → slice_index row k < 2 ^ 32) → length row ≡ n → n ≤ 36 → t < n → (t % 2 ≡ 1 → ⊥) → Balance n t s → Balance n (t + 1) (with_nearest row false s)
balance_left row n t s small long room l even b =
    let k = nearest_left row s.taken in
    let is : IsNearestLeft row s.taken k = nearest_is row s.taken small (omega (arith, b.places)) (omega (arith, b.taken)) in
    let same : slice_set s.right k false ≡ s.right = ap (slice_set s.right k) (sym (b.within k is.left)) ∙ set-get_or s.right k false in
    let even_t : t % 2 ≡ 0 = half_even t even in
    record {
      places = length-set s.taken k true ∙ b.places;
      room = length-set s.right k false ∙ b.room;
      taken = omega (arith, marked_more s.taken k (omega (arith, is.inside, b.places)) is.left, b.taken);
      right = omega (arith, ap marked same, b.right, even_t);
      within = λ m left. rw same (b.within m (taken_off s.taken k m left).0);
    }

pub balance : (left_row right_row : List ℕ) (n t : ℕ) → ((k : ℕ) → slice_index left_row k < 2 ^ 32) → ((k : ℕ) → slice_index right_row k < 2 ^ 32) → length left_row ≡ n → length right_row ≡ n → n ≤ 36 → t ≤ n
    → Balance n t (after_turns left_row right_row t)
balance left_row right_row n zero small_left small_right long_left long_right room l = rw (at_first left_row right_row) (record {
  places = length-replicate (length left_row) false ∙ long_left;
  room = refl;
  taken = marked_none (length left_row);
  right = refl;
  within = λ k left. at_none 36 k;
})
balance left_row right_row n (suc t) small_left small_right long_left long_right room l =
    let before = balance left_row right_row n t small_left small_right long_left long_right room (omega arith) in
    let now : suc t ≡ t + 1 = omega arith in
    rw now (elim (cases_eq (t % 2) 1) [
      | inl odd ↦ rw (right_turn left_row right_row t odd) (balance_right right_row n t (after_turns left_row right_row t) small_right long_right room (omega arith) odd before)
      | inr even ↦ rw (left_turn left_row right_row t even) (balance_left left_row n t (after_turns left_row right_row t) small_left long_left room (omega arith) even before)
    ])

module _ (left_row right_row : List ℕ) (small_left : (k : ℕ) → slice_index left_row k < 2 ^ 32) (small_right : (k : ℕ) → slice_index right_row k < 2 ^ 32)
    (same : length right_row ≡ length left_row) (room : length left_row ≤ 36) where
  balanced_at : (t : ℕ) → t ≤ length left_row → Balance (length left_row) t (after_turns left_row right_row t)
  balanced_at t l = balance left_row right_row (length left_row) t small_left small_right refl same room l

  pub left_takes : (t : ℕ) → t < length left_row → t % 2 ≡ 0 → TakesNearest left_row false (after_turns left_row right_row t) (after_turns left_row right_row (t + 1))
  left_takes t l even =
      let b = balanced_at t (omega arith) in
      let s = after_turns left_row right_row t in
      let e : after_turns left_row right_row (t + 1) ≡ with_nearest left_row false s = left_turn left_row right_row t (λ odd. absurd (omega arith)) in
      rw e (takes_nearest left_row false s small_left b.places (omega (arith, b.taken)))

  pub right_takes : (t : ℕ) → t < length left_row → t % 2 ≡ 1 → TakesNearest right_row true (after_turns left_row right_row t) (after_turns left_row right_row (t + 1))
  right_takes t l odd =
      let b = balanced_at t (omega arith) in
      let s = after_turns left_row right_row t in
      let e : after_turns left_row right_row (t + 1) ≡ with_nearest right_row true s = right_turn left_row right_row t odd in
      rw e (takes_nearest right_row true s small_right (b.places ∙ sym same) (omega (arith, b.taken)))

  pub none_left : (after_turns left_row right_row (length left_row)).taken ≡ replicate (length left_row) true
  none_left =
      let b = balanced_at (length left_row) (omega arith) in
      all_marked (after_turns left_row right_row (length left_row)).taken (omega (arith, b.places, b.taken)) ∙ ap (λ n. replicate n true) b.places

  pub half_right : count_by (λ x. x) (sides_of left_row right_row) ≡ length left_row / 2
  half_right =
      let b = balanced_at (length left_row) (omega arith) in
      sym (marked_counts (sides_of left_row right_row)) ∙ b.right

  pub none_past : (k : ℕ) → length left_row ≤ k → slice_index_or (sides_of left_row right_row) k false ≡ false
  none_past k l =
      let b = balanced_at (length left_row) (omega arith) in
      b.within k (get_or_past (after_turns left_row right_row (length left_row)).taken k false (omega (arith, b.places)))
