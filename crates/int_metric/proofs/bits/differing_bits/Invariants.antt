use Rattle.std.proofs.Common.{◌≡◌, ◌+◌, ◌*◌, ◌≤◌, length}
use Rattle.vec_record.specs.Distance.{all_bits_apart}
use Rattle.int_metric.proofs.bits.differing_bits.Given as goal

abbrev pub invariant-loop-x : goal.invariant-loop-x
invariant-loop-x l = record {
  all : l.total + all_bits_apart l.a l.b ≡ all_bits_apart l.fn.a l.fn.b;
  same : length l.a ≡ length l.b;
  small : l.total + 8 * length l.a ≤ 8 * length l.fn.a;
}

abbrev pub decreases-loop-x : goal.decreases-loop-x
decreases-loop-x l = length l.a
