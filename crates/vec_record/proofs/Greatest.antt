-- How great a distance can be, for a metric of any kind.
use Rattle.std.proofs.Common.{ℕ, ◌≤◌, arith}
use Rattle.vec_record.specs.Vectors.{IsWidth}
use Rattle.vec_record.specs.Distance.{greatest_of, most_distance}
use Rattle.vec_record.specs.declared.kind.MetricKind.{MetricKind}
use Rattle.vec_record.specs.declared.kind.MetricKind.TheVariants.{L1, Max, Hamming}

-- the greatest distance at a width, of whatever kind
pub greatest_small : (kind : MetricKind) (width : ℕ) → IsWidth width → greatest_of kind width ≤ most_distance
greatest_small L1 width w = omega (arith, w.small)
greatest_small Max width w = omega (arith, w.small)
greatest_small Hamming width w = omega (arith, w.small)
