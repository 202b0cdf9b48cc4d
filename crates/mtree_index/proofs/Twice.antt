-- The matrix of distances, of which each is computed once.
use Rattle.std.proofs.Common.{◌≡◌, ℕ, zero, suc, ◌+◌, ◌-◌, ◌*◌, ◌<◌, ◌≤◌, List, [], ◌∷◌, ◌++◌, length, map, take, drop, get_or, slice_index, refl, sym, subst, ap, ◌∙◌, arith, drop-cons, append_assoc, append-nil, add-one, length-append}
use Rattle.std.proofs.Math.Nat.{mul-le-mul_right, add-mul}
use Rattle.std.proofs.Math.Seq.{take-add}
use Rattle.std.proofs.lemmas.List.{get_or-drop, get_or-take, get_or_append_left, get_or-map, length-drop, length-take-le, map-append, take-append-drop, take_all}
use Rattle.std.proofs.lemmas.Grind.{flat_map-append, get_or_default_zero}
use Rattle.std.specs.List.{AllByRecursion, flat_map, range_with_len}
use Rattle.vec_record.specs.Vectors.{AreBytes, IsVector}
use Rattle.mtree_index.specs.Split.{row}
use Rattle.mtree_index.specs.inside.Pairs.{pairs, with_known}
use Rattle.mtree_index.proofs.Matrix.{length-row, rows_from, rows_length}
use Rattle.mtree_index.proofs.Halves.{index_map, objects_of}

-- a place in an earlier row
pub place_within : (earlier at count : ℕ) → earlier < at → at < count → count ≤ 36 → (earlier * count + at < at * count) × (at * count ≤ 1296)
place_within earlier at count before few small =
    let rows : (earlier + 1) * count ≤ at * count = mul-le-mul_right count (omega arith) in
    let most : at * count ≤ 36 * count = mul-le-mul_right count (omega arith) in
    (omega (arith, rows, add-mul earlier 1 count), omega (arith, most))

pub range_more : (n : ℕ) → range_with_len 0 (n + 1) ≡ range_with_len 0 n ++ n ∷ []
range_more n = from 0 n ∙ (let e : 0 + n ≡ n = omega arith in ap (λ j. range_with_len 0 n ++ j ∷ []) e) where
  from : (a n : ℕ) → range_with_len a (n + 1) ≡ range_with_len a n ++ (a + n) ∷ []
  from a zero =
      let e : a + 0 ≡ a = omega arith in
      let f : 0 + 1 ≡ suc zero = omega arith in
      ap (range_with_len a) f ∙ ap (λ z. z ∷ []) (sym e)
  from a (suc n) =
      let f : suc n + 1 ≡ suc (n + 1) = omega arith in
      let e : a + 1 + n ≡ a + suc n = omega arith in
      ap (range_with_len a) f ∙ (ap (λ z. a ∷ z) (from (a + 1) n) ∙ ap (λ j. a ∷ (range_with_len (a + 1) n ++ j ∷ [])) e)

-- few entries make few pairs
pub few_pairs : (n : ℕ) → n ≤ 36 → pairs n ≤ 1296
few_pairs n few =
    let at : pairs n ≤ n * 36 = most n few in
    omega (arith, at) where
      most : (n : ℕ) → n ≤ 36 → pairs n ≤ n * 36
      most zero few = omega arith
      most (suc n) few = omega (arith, few, most n (omega (arith, few)))

-- the pairs of an entry with those behind it
pub pairs_behind : (n at : ℕ) → at < n → pairs (n - at) ≡ (n - (at + 1)) + pairs (n - (at + 1))
pairs_behind n at l =
    let e : n - at ≡ suc (n - (at + 1)) = omega (arith, l) in
    ap pairs e

all_at : (P : List ℕ → Type 0) (k : ℕ) (xs : List (List ℕ)) → k < length xs → AllByRecursion P xs → P (get_or xs k [])
all_at P k [] few all = absurd (omega (arith, few))
all_at P zero (x ∷ xs) few all = all.0
all_at P (suc k) (x ∷ xs) few all = all_at P k xs (omega (arith, few)) all.1

-- one more at the end of a beginning
pub one_more : (P : List ℕ → Type 0) (at : ℕ) (xs : List (List ℕ)) → at < length xs → AllByRecursion P (take at xs) → P (get_or xs at []) → AllByRecursion P (take (at + 1) xs)
one_more P at xs few earlier here =
    let e : at + 1 ≡ suc at = omega arith in
    subst (λ n. AllByRecursion P (take n xs)) (sym e) (next at xs few earlier here) where
      next : (at : ℕ) (xs : List (List ℕ)) → at < length xs → AllByRecursion P (take at xs) → P (get_or xs at []) → AllByRecursion P (take (suc at) xs)
      next at [] few earlier here = absurd (omega (arith, few))
      next zero (x ∷ xs) few earlier here = (here, tt)
      next (suc at) (x ∷ xs) few earlier here = (earlier.0, next at xs (omega (arith, few)) earlier.1 here)

pub all_behind : {A : Type 0} (P : A → Type 0) (n : ℕ) (xs : List A) → AllByRecursion P xs → AllByRecursion P (drop n xs)
all_behind P zero xs all = all
all_behind P (suc n) [] all = all
all_behind P (suc n) (x ∷ xs) all = all_behind P n xs all.1

-- the row of a place with one more of what the first rows have
pub known_next : (first matrix new : List ℕ) (count at k x : ℕ) → k < at → at < count → count ≤ 36 → length first ≡ at * count
    → matrix ≡ first ++ map (λ j. slice_index first (j * count + at)) (range_with_len 0 k) → (d : ℕ) → x ≡ get_or matrix (k * count + at) d → new ≡ matrix ++ x ∷ []
    → new ≡ first ++ map (λ j. slice_index first (j * count + at)) (range_with_len 0 (k + 1))
known_next first matrix new count at k x before few small rows known d read all =
    let f = λ (j : ℕ). slice_index first (j * count + at) in
    let i = k * count + at in
    let front = map f (range_with_len 0 k) in
    let low : i < length first = omega (arith, rows, (place_within k at count before few small).0) in
    let long : length matrix ≡ length first + length front = ap length known ∙ length-append first front in
    let same : x ≡ f k =
    read ∙ (get_or_default_zero matrix i d (omega (arith, low, long)) ∙ (ap (λ (m : List ℕ). slice_index m i) known ∙ get_or_append_left first front 0 i low)) in
    all ∙ (ap (λ (m : List ℕ). m ++ x ∷ []) known
    ∙ (ap (λ (n : ℕ). (first ++ front) ++ n ∷ []) same
    ∙ (append_assoc first front (f k ∷ [])
    ∙ ap (λ (zs : List ℕ). first ++ zs) (sym (map-append f (range_with_len 0 k) (k ∷ [])) ∙ ap (map f) (sym (range_more k))))))

module _ {A : Type 0} where
  -- what a slice from a place on has
  rest_is : (k : ℕ) (xs : List A) → take (length xs - k) (drop k xs) ≡ drop k xs
  rest_is k xs = take_all (length xs - k) (drop k xs) (omega (arith, length-drop k xs))

  pub rest_length : (k : ℕ) (xs : List A) → length (take (length xs - k) (drop k xs)) ≡ length xs - k
  rest_length k xs = ap length (rest_is k xs) ∙ length-drop k xs

module _ {A : Type 0} (object : A → List ℕ) where
  -- the object of the entry at a place
  pub vector_at : (w : ℕ) (es : List A) (at : ℕ) (e : A) → at < length es → e ≡ get_or es at e → AllByRecursion (λ e. length (object e) ≡ w) es → AreBytes (object e) → IsVector w (get_or (map object es) at [])
  vector_at w es at e few is wide bytes = record {
    len = objects_of object w es at wide few;
    bytes = subst AreBytes (sym (index_map object es at e [] few is)) bytes;
  }

  later_objects : (n : ℕ) (es : List A) → map object (drop n es) ≡ drop n (map object es)
  later_objects zero es = refl
  later_objects (suc n) [] = refl
  later_objects (suc n) (e ∷ es) = later_objects n es

  -- the objects of the entries behind a place
  pub rest_objects : (k : ℕ) (es : List A) → map object (take (length es - k) (drop k es)) ≡ drop k (map object es)
  rest_objects k es = ap (map object) (rest_is k es) ∙ later_objects k es

  pub rest_wide : (w : ℕ) (es : List A) (at : ℕ) (e : A) (o : List ℕ) → at < length es → e ≡ get_or es at e → o ≡ object e → AllByRecursion (λ e. length (object e) ≡ w) es
      → AllByRecursion (λ e. length (object e) ≡ length o) (take (length es - (at + 1)) (drop (at + 1) es))
  rest_wide w es at e o few is same all =
      let wide : length o ≡ w = ap (λ (v : List ℕ). length v) (same ∙ sym (index_map object es at e [] few is)) ∙ objects_of object w es at all few in
      subst (AllByRecursion (λ e. length (object e) ≡ length o)) (sym (rest_is (at + 1) es))
      (subst (λ (n : ℕ). AllByRecursion (λ e. length (object e) ≡ n) (drop (at + 1) es)) (sym wide) (all_behind (λ e. length (object e) ≡ w) (at + 1) es all))

module _ (dist : List ℕ → List ℕ → ℕ) (os : List (List ℕ)) where
  -- a distance in the first rows
  in_rows : (xs : List (List ℕ)) (k at : ℕ) → k < length xs → at < length os → slice_index (flat_map (λ o. row dist o os) xs) (k * length os + at) ≡ dist (get_or xs k []) (get_or os at [])
  in_rows xs k at few within =
      let x = get_or xs k [] in
      let later = flat_map (λ o. row dist o os) (drop (suc k) xs) in
      sym (get_or-drop (k * length os) (flat_map (λ o. row dist o os) xs) at 0)
      ∙ (ap (λ (zs : List ℕ). get_or zs at 0) (rows_from dist os xs k ∙ ap (flat_map (λ o. row dist o os)) (drop-cons xs k [] few))
      ∙ (get_or_append_left (row dist x os) later 0 at (omega (arith, within, length-row dist x os)) ∙ get_or-map (dist x) os at [] 0 within))

  -- a list that is the same at each place
  by_places : (f : ℕ → ℕ) (g : List ℕ → ℕ) (i n : ℕ) → i + n ≤ length os → ((k : ℕ) → k < i + n → f k ≡ g (get_or os k [])) → map f (range_with_len i n) ≡ map g (take n (drop i os))
  by_places f g i zero few same = refl
  by_places f g i (suc n) few same =
      let here : drop i os ≡ get_or os i [] ∷ drop (suc i) os = drop-cons os i [] (omega (arith, few)) in
      let rest = by_places f g (i + 1) n (omega (arith, few)) (λ k l. same k (omega (arith, l))) in
      ap (λ (x : ℕ). x ∷ map f (range_with_len (i + 1) n)) (same i (omega arith))
      ∙ (ap (λ (zs : List ℕ). g (get_or os i []) ∷ zs) rest
      ∙ rw (here, add-one) refl)

  module _ (w : ℕ) (symmetry : (u v : List ℕ) → IsVector w u → IsVector w v → dist u v ≡ dist v u) (to_itself : (u : List ℕ) → IsVector w u → dist u u ≡ 0) where
    -- the rows with one more, whose first part is taken from those before
    pub next_row : (at : ℕ) → at < length os → AllByRecursion (IsVector w) (take at os) → IsVector w (get_or os at []) → (matrix known new : List ℕ) → matrix ≡ flat_map (λ o. row dist o os) (take at os)
        → known ≡ with_known (length os) at matrix → new ≡ known ++ row dist (get_or os at []) (drop (suc at) os) → new ≡ flat_map (λ o. row dist o os) (take (at + 1) os)
    next_row at few earlier vector matrix known new rows first all =
        let o = get_or os at [] in
        let here : drop at os ≡ o ∷ drop (suc at) os = drop-cons os at [] few in
        let some : length (take at os) ≡ at = length-take-le at os (omega (arith, few)) in
        let before : map (λ k. slice_index matrix (k * length os + at)) (range_with_len 0 at) ≡ map (dist o) (take at os) =
        by_places (λ k. slice_index matrix (k * length os + at)) (dist o) 0 at (omega (arith, few)) (λ k l.
        ap (λ (m : List ℕ). slice_index m (k * length os + at)) rows
        ∙ (in_rows (take at os) k at (omega (arith, l, some)) few
        ∙ (symmetry (get_or (take at os) k []) o (all_at (IsVector w) k (take at os) (omega (arith, l, some)) earlier) vector
        ∙ ap (dist o) (get_or-take at os k [] (omega (arith, l)))))) in
        let itself : 0 ≡ dist o o = sym (to_itself o vector) in
        let whole : map (dist o) (take at os) ++ (dist o o ∷ map (dist o) (drop (suc at) os)) ≡ row dist o os =
        sym (map-append (dist o) (take at os) (o ∷ drop (suc at) os)) ∙ ap (map (dist o)) (ap (λ (zs : List (List ℕ)). take at os ++ zs) (sym here) ∙ take-append-drop at os) in
        let more : take (at + 1) os ≡ take at os ++ o ∷ [] = take-add at 1 os ∙ ap (λ (zs : List (List ℕ)). take at os ++ take 1 zs) here in
        let joined : (first later : List ℕ) → (matrix ++ (first ++ 0 ∷ [])) ++ later ≡ matrix ++ (first ++ (0 ∷ later)) = λ first later. append_assoc matrix (first ++ 0 ∷ []) later ∙ ap (λ (zs : List ℕ). matrix ++ zs) (append_assoc first (0 ∷ []) later) in
        all ∙ (ap (λ (zs : List ℕ). zs ++ row dist o (drop (suc at) os)) first
        ∙ (joined _ (row dist o (drop (suc at) os))
        ∙ (ap (λ (zs : List ℕ). matrix ++ (zs ++ (0 ∷ map (dist o) (drop (suc at) os)))) before
        ∙ (ap (λ (n : ℕ). matrix ++ (map (dist o) (take at os) ++ (n ∷ map (dist o) (drop (suc at) os)))) itself
        ∙ (ap (λ (zs : List ℕ). matrix ++ zs) (whole ∙ sym (append-nil (row dist o os)))
        ∙ (ap (λ (zs : List ℕ). zs ++ (row dist o os ++ [])) rows
        ∙ (sym (flat_map-append (λ o. row dist o os) (take at os) (o ∷ [])) ∙ ap (flat_map (λ o. row dist o os)) (sym more))))))))

  pub rows_so_far : (at : ℕ) (matrix : List ℕ) → at ≤ length os → matrix ≡ flat_map (λ o. row dist o os) (take at os) → length matrix ≡ at * length os
  rows_so_far at matrix few rows = ap length rows ∙ (rows_length dist os (take at os) ∙ ap (λ (n : ℕ). n * length os) (length-take-le at os few))
