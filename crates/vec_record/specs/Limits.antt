-- The limits of the parameters, and the width of a vector.
use Rattle.std.specs.Prelude.{ℕ, ◌+◌, ◌/◌, Bool, ◌&&◌, nat_le}
use Rattle.vec_record.specs.declared.kind.MetricKind.{MetricKind}
use Rattle.vec_record.specs.declared.kind.MetricKind.TheVariants.{L1, Max, Hamming}

-- whether a number is at least low and at most high
abbrev pub is_between : ℕ → ℕ → ℕ → Bool
is_between low high n = nat_le low n && nat_le n high

-- the most coordinates, or bits, of a vector
abbrev pub greatest_dim : MetricKind → ℕ
greatest_dim L1 = 256
greatest_dim Max = 256
greatest_dim Hamming = 2048

-- whether all parameters are within their limits
abbrev pub are_within : MetricKind → ℕ → ℕ → ℕ → ℕ → Bool
are_within metric dim eps minpts cap =
    is_between 1 (greatest_dim metric) dim && (is_between 0 65535 eps && (is_between 1 65535 minpts && is_between 1 200000 cap))

-- the bytes of a vector: a byte for each coordinate, or for each eight bits begun
abbrev pub width_of : MetricKind → ℕ → ℕ
width_of L1 dim = dim
width_of Max dim = dim
width_of Hamming dim = (dim + 7) / 8
