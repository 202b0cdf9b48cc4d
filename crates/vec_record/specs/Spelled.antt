-- The bits of a vector past its last one, which are zero.
use Rattle.std.specs.Prelude.{ℕ, ◌-◌, ◌*◌, ◌%◌, ◌^◌, ◌==◌, Bool, List, get_or}
use Rattle.vec_record.specs.declared.kind.MetricKind.{MetricKind}
use Rattle.vec_record.specs.declared.kind.MetricKind.TheVariants.{L1, Max, Hamming}
use Rattle.vec_record.specs.Limits.{width_of}

-- how many bits of the last byte stand past the last of `dim` bits; coordinates fill their bytes
abbrev pub spare_bits : MetricKind → ℕ → ℕ
spare_bits L1 dim = 0
spare_bits Max dim = 0
spare_bits Hamming dim = 8 * width_of Hamming dim - dim

-- whether those bits of a vector are zero
abbrev pub is_spelled : MetricKind → ℕ → List ℕ → Bool
is_spelled metric dim v = get_or v (width_of metric dim - 1) 0 % 2 ^ spare_bits metric dim == 0
