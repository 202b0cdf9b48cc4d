-- Places of the matrix, row by row, and the pairs that they stand for.
use Rattle.std.proofs.Common.{ℕ, ◌*◌, ◌/◌, ◌<◌}
use Rattle.std.proofs.Math.Nat.{div-lt_iff_lt-mul, mul-pos}

pub row_inside : (count place : ℕ) → 0 < count → place < count * count → place / count < count
row_inside count place some l = (div-lt_iff_lt-mul some).1 l

pub square_some : (count : ℕ) → 0 < count → 0 < count * count
square_some count some = mul-pos some some
