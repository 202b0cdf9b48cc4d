-- The pairs of entries whose distances a split computes.
use Rattle.std.specs.Prelude.{ℕ, zero, suc, ◌+◌, ◌*◌, List, [], ◌∷◌, ◌++◌, map, slice_index}
use Rattle.std.specs.List.{range_with_len}

-- how many pairs so many entries make
abbrev pub pairs : ℕ → ℕ
pairs zero = 0
pairs (suc n) = n + pairs n

-- rows of a symmetric matrix, and the next row up to its diagonal: what the earlier rows have of
-- it, and 0
abbrev pub with_known : ℕ → ℕ → List ℕ → List ℕ
with_known count at matrix =
    matrix ++ (map (λ k. slice_index matrix (k * count + at)) (range_with_len 0 at) ++ 0 ∷ [])
