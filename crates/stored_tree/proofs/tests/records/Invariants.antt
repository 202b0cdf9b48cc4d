use Rattle.std.proofs.Common.{◌≡◌}
use Rattle.stored_tree.proofs.tests.records.Given as goal

abbrev pub invariant-loop-number : goal.invariant-loop-number
invariant-loop-number l = l.records.width ≡ 1
