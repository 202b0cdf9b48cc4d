use Rattle.std.proofs.Common.{◌≡◌, ◌+◌, ◌*◌, ◌≤◌, length}
use Rattle.vec_record.specs.Distance.{sum_apart}
use Rattle.int_metric.proofs.sum.is_sum_within.Given as goal

abbrev pub invariant-loop-x : goal.invariant-loop-x
invariant-loop-x l = record {
  all : l.total + sum_apart l.a l.b ≡ sum_apart l.fn.a l.fn.b;
  same : length l.a ≡ length l.b;
  small : l.total + 255 * length l.a ≤ 255 * length l.fn.a;
}

abbrev pub decreases-loop-x : goal.decreases-loop-x
decreases-loop-x l = length l.a
