-- The matrix of distances, row by row.
use Rattle.std.proofs.Common.{◌≡◌, ℕ, zero, suc, ◌+◌, ◌-◌, ◌*◌, ◌<◌, ◌≤◌, List, [], ◌∷◌, length, take, drop, get_or, refl, ap, ◌∙◌, arith, length-append, drop-cons}
use Rattle.std.proofs.Math.Nat.{mul-le-mul_right, add-mul}
use Rattle.std.proofs.Math.Seq.{drop-append-add, take-append_seam, drop-nil}
use Rattle.std.proofs.lemmas.List.{length-map}
use Rattle.std.specs.List.{flat_map}
use Rattle.mtree_split.specs.Choice.{row_of}
use Rattle.mtree_index.specs.Split.{row, distances}

pub row_end : (count place : ℕ) → place < count → place * count + count ≤ count * count
row_end count place l =
    let rows : (place + 1) * count ≤ count * count = mul-le-mul_right count (omega arith) in
    omega (arith, rows, add-mul place 1 count)

module _ (dist : List ℕ → List ℕ → ℕ) where
  pub length-row : (o : List ℕ) (os : List (List ℕ)) → length (row dist o os) ≡ length os
  length-row o os = length-map os (dist o)

  module _ (os : List (List ℕ)) where
    rows : List (List ℕ) → List ℕ
    rows xs = flat_map (λ o. row dist o os) xs

    length_rows : (xs : List (List ℕ)) → length (rows xs) ≡ length xs * length os
    unfolding rows
    length_rows [] = omega arith
    length_rows (x ∷ xs) =
        let more : (1 + length xs) * length os ≡ 1 * length os + length xs * length os = add-mul 1 (length xs) (length os) in
        omega (arith, length-append (row dist x os) (rows xs), length-row x os, length_rows xs, more)

    drop_rows : (xs : List (List ℕ)) (i : ℕ) → drop (i * length os) (rows xs) ≡ rows (drop i xs)
    unfolding rows
    drop_rows xs zero = let none : zero * length os ≡ zero = omega arith in rw none refl
    drop_rows [] (suc i) = drop-nil (suc i * length os)
    drop_rows (x ∷ xs) (suc i) =
        let e : suc i * length os ≡ length (row dist x os) + i * length os = omega (arith, length-row x os, add-mul 1 i (length os)) in
        rw e (drop-append-add (row dist x os) (rows xs) (i * length os) ∙ drop_rows xs i)

    -- so long are some of the rows, and so they are cut
    pub rows_length : (xs : List (List ℕ)) → length (flat_map (λ o. row dist o os) xs) ≡ length xs * length os
    unfolding rows
    rows_length xs = length_rows xs

    pub rows_from : (xs : List (List ℕ)) (i : ℕ) → drop (i * length os) (flat_map (λ o. row dist o os) xs) ≡ flat_map (λ o. row dist o os) (drop i xs)
    unfolding rows
    rows_from xs i = drop_rows xs i

    pub length-distances : length (distances dist os) ≡ length os * length os
    unfolding rows
    length-distances = length_rows os

    -- the row of an entry is the distances from its object
    pub row_is : (i : ℕ) → i < length os → row_of (length os) (distances dist os) i ≡ row dist (get_or os i []) os
    unfolding rows
    row_is i l =
        let span : i * length os + length os - i * length os ≡ length (row dist (get_or os i []) os) = omega (arith, length-row (get_or os i []) os) in
        rw (span) (ap (take (length (row dist (get_or os i []) os))) (drop_rows os i ∙ ap rows (drop-cons os i [] l)) ∙ take-append_seam (row dist (get_or os i []) os) (rows (drop (suc i) os)))
