use Rattle.std.proofs.Common.{◌≡◌, ℕ, take}
use Rattle.std.specs.List.{list_any}
use Rattle.std.specs.Ordering.{nat_cmp}
use Rattle.std.specs.BTreeSet.{contains}
use Rattle.plain_dbscan.specs.Across.{is_core_alone_of}
use Rattle.plain_dbscan.proofs.cases.lone_labels.Given as goal

abbrev pub invariant-loop-marks : goal.invariant-loop-marks
invariant-loop-marks l = (k : ℕ) → contains nat_cmp l.labels k ≡ list_any (is_core_alone_of k) (take l.marks-index l.both)
