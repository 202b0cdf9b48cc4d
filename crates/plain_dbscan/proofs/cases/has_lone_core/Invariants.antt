use Rattle.std.proofs.Common.{◌≡◌, false, take}
use Rattle.std.specs.List.{list_any}
use Rattle.plain_dbscan.specs.Across.{is_core_alone}
use Rattle.plain_dbscan.proofs.cases.has_lone_core.Given as goal

abbrev pub invariant-loop-marks : goal.invariant-loop-marks
invariant-loop-marks l = list_any is_core_alone (take l.marks-index l.both) ≡ false
