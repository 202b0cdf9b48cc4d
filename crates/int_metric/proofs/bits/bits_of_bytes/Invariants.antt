use Rattle.std.proofs.Common.{◌≡◌, ◌+◌, ◌*◌, ◌≤◌, length, drop}
use Rattle.vec_record.specs.Distance.{all_bits_apart}
use Rattle.int_metric.proofs.bits.bits_of_bytes.Given as goal

abbrev pub invariant-loop-x : goal.invariant-loop-x
invariant-loop-x l = (l.total + all_bits_apart (drop (length l.yielded) l.a) (drop (length l.yielded) l.b) ≡ all_bits_apart l.a l.b) × (l.total ≤ 8 * length l.yielded)
