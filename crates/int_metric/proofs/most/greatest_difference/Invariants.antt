use Rattle.std.proofs.Common.{◌≡◌, max, length, drop}
use Rattle.vec_record.specs.Distance.{most_apart}
use Rattle.int_metric.proofs.most.greatest_difference.Given as goal

abbrev pub invariant-loop-x : goal.invariant-loop-x
invariant-loop-x l = max l.most (most_apart (drop (length l.yielded) l.a) (drop (length l.yielded) l.b)) ≡ most_apart l.a l.b
