-- How the rows of a block lie in its bytes.
use Rattle.std.specs.Prelude.{ℕ, zero, suc, List, [], ◌∷◌, take, drop}

-- the first `count` rows of a list of bytes, each as long as the width
abbrev pub cut : ℕ → ℕ → List ℕ → List (List ℕ)
cut width zero bytes = []
cut width (suc count) bytes = take width bytes ∷ cut width count (drop width bytes)
