use Rattle.std.proofs.Common.{◌≡◌, ℕ, take}
use Rattle.std.specs.List.{list_any}
use Rattle.std.specs.Ordering.{nat_cmp}
use Rattle.std.specs.BTreeSet.{contains}
use Rattle.plain_dbscan.specs.Across.{is_in_both}
use Rattle.plain_dbscan.proofs.cases.labels_beyond.Given as goal

abbrev pub invariant-loop-marks : goal.invariant-loop-marks
invariant-loop-marks l = (k : ℕ) → contains nat_cmp l.labels k ≡ list_any (is_in_both l.cluster k) (take l.marks-index l.both)
