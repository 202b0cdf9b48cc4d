use Rattle.std.proofs.Common.{◌≡◌, take, map}
use Rattle.plain_dbscan.specs.Across.{both_marks}
use Rattle.plain_dbscan.proofs.cases.marks_across.Given as goal

abbrev pub invariant-loop-number : goal.invariant-loop-number
invariant-loop-number l = l.both.items ≡ map (both_marks l.other) (take l.number-index l.one)
