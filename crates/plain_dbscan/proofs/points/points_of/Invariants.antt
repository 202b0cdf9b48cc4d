use Rattle.std.proofs.Common.{◌≡◌, ◌++◌}
use Rattle.std.specs.FinMap as map
use Rattle.plain_dbscan.specs.Points.{entries_of}
use Rattle.plain_dbscan.proofs.points.points_of.Given as goal

abbrev pub invariant-loop-number : goal.invariant-loop-number
invariant-loop-number l = entries_of l.points.items ++ l.number-iterator ≡ map.entries l.records.vectors
