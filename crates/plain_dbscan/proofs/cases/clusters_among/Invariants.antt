use Rattle.std.proofs.Common.{◌≡◌, take, filter}
use Rattle.std.specs.Ordering.{nat_cmp}
use Rattle.std.specs.BTreeSet.{contains}
use Rattle.plain_dbscan.specs.Cases.{clusters_of}
use Rattle.plain_dbscan.proofs.cases.clusters_among.Given as goal

abbrev pub invariant-loop-number : goal.invariant-loop-number
invariant-loop-number l = l.found.items ≡ filter (contains nat_cmp l.labels) (clusters_of (take l.number-index l.marks))
