-- The rule behind every choice of this crate.
use Rattle.std.specs.Prelude.{ℕ, zero, suc, ◌^◌, nat_lt, if◌then◌else◌}

-- the first place of the least rank among the places below a bound
unfoldable pub first_least : (ℕ → ℕ) → ℕ → ℕ
first_least rank zero = 0
first_least rank (suc n) = if nat_lt (rank n) (rank (first_least rank n)) then n else first_least rank n

-- a rank above every distance and every radius
abbrev pub beyond : ℕ
beyond = 2 ^ 32
