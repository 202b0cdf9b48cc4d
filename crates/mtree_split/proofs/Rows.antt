-- The rows of the matrix: how long they are, and how large their numbers.
use Rattle.std.proofs.Common.{◌≡◌, ℕ, ◌+◌, ◌-◌, ◌*◌, ◌/◌, ◌<◌, ◌≤◌, ◌^◌, List, false, length, get_or, take, drop, sym, ap, ◌∙◌, arith, inl, inr, slice_index, slice_index_or, length-drop, count_by}
use Rattle.std.proofs.Math.Nat.{mul-le-mul_right, add-mul}
use Rattle.std.proofs.lemmas.Bool.{cases_lt}
use Rattle.std.proofs.lemmas.List.{get_or-take, get_or-drop, get_or_past, length-take}
use Rattle.mtree_split.specs.Sides.{sides_of}
use Rattle.mtree_split.specs.Choice.{row_of}
use Rattle.mtree_split.proofs.Nearest.{half_right, none_past}

small_front : (n : ℕ) (xs : List ℕ) → ((k : ℕ) → get_or xs k 0 < 2 ^ 32) → (k : ℕ) → get_or (take n xs) k 0 < 2 ^ 32
small_front n xs small k =
    elim (cases_lt k n) [
      | inl l ↦ omega (arith, get_or-take n xs k 0 l, small k)
      | inr m ↦ omega (arith, get_or_past (take n xs) k 0 (omega (arith, length-take n xs)))
    ]

pub small_row : (count : ℕ) (matrix : List ℕ) → ((k : ℕ) → get_or matrix k 0 < 2 ^ 32) → (i k : ℕ) → slice_index (row_of count matrix i) k < 2 ^ 32
small_row count matrix small i k = small_front (i * count + count - i * count) (drop (i * count) matrix) (λ m. omega (arith, get_or-drop (i * count) matrix m 0, small (i * count + m))) k

pub row_length : (count : ℕ) (matrix : List ℕ) (i : ℕ) → length matrix ≡ count * count → i < count → length (row_of count matrix i) ≡ count
row_length count matrix i square l =
    let rows : (i + 1) * count ≤ count * count = mul-le-mul_right count (omega arith) in
    omega (arith, rows, add-mul i 1 count, length-take (i * count + count - i * count) (drop (i * count) matrix), length-drop (i * count) matrix)

module _ (count : ℕ) (matrix : List ℕ) (i j : ℕ) (small : (k : ℕ) → get_or matrix k 0 < 2 ^ 32) (square : length matrix ≡ count * count) (room : count ≤ 36) (in_left : i < count) (in_right : j < count) where
  pub pair_balanced : count_by (λ x. x) (sides_of (row_of count matrix i) (row_of count matrix j)) ≡ count / 2
  pair_balanced =
      let left = row_length count matrix i square in_left in
      let right = row_length count matrix j square in_right in
      half_right (row_of count matrix i) (row_of count matrix j) (small_row count matrix small i) (small_row count matrix small j) (right ∙ sym left) (omega (arith, left)) ∙ ap (λ n. n / 2) left

  pub pair_none_past : (k : ℕ) → count ≤ k → slice_index_or (sides_of (row_of count matrix i) (row_of count matrix j)) k false ≡ false
  pair_none_past k l =
      let left = row_length count matrix i square in_left in
      let right = row_length count matrix j square in_right in
      none_past (row_of count matrix i) (row_of count matrix j) (small_row count matrix small i) (small_row count matrix small j) (right ∙ sym left) (omega (arith, left)) k (omega (arith, left))
