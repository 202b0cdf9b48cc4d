use Rattle.std.proofs.Common.{◌≡◌, ◌+◌, ◌*◌, ◌≤◌, length, drop}
use Rattle.vec_record.specs.Distance.{sum_apart}
use Rattle.int_metric.proofs.sum.sum_of_bytes.Given as goal

abbrev pub invariant-loop-x : goal.invariant-loop-x
invariant-loop-x l = (l.total + sum_apart (drop (length l.yielded) l.a) (drop (length l.yielded) l.b) ≡ sum_apart l.a l.b) × (l.total ≤ 255 * length l.yielded)
