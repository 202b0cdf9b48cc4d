use Rattle.std.proofs.Common.{◌≡◌}
use Rattle.mtree_node.proofs.build_tests.records_of.Given as goal

abbrev pub invariant-loop-number : goal.invariant-loop-number
invariant-loop-number l = l.records.width ≡ 1
