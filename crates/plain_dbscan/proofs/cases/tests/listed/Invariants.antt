use Rattle.std.proofs.Common.{◌≡◌, take}
use Rattle.plain_dbscan.proofs.cases.tests.listed.Given as goal

abbrev pub invariant-loop-row : goal.invariant-loop-row
invariant-loop-row l = l.marks ≡ take l.row-index l.rows
