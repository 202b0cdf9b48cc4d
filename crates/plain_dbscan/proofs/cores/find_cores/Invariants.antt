use Rattle.std.proofs.Common.{◌≡◌, take, filter}
use Rattle.plain_dbscan.specs.Marks.{Density}
use Rattle.plain_dbscan.specs.Points.{entries_of, is_core_point, ArePointSizes}
use Rattle.plain_dbscan.proofs.cores.find_cores.Given as goal

abbrev pub invariant-loop-i : goal.invariant-loop-i
invariant-loop-i l = (d : Density) → d.minpts ≡ l.minpts → ArePointSizes d l.points l.sizes → l.cores.items ≡ filter (is_core_point d (entries_of l.points)) (take l.i l.points)
