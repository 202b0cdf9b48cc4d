use Rattle.std.proofs.Common.{◌≡◌, drop, length}
use Rattle.std.specs.List.{AllByRecursion}
use Rattle.mtree_index.proofs.query_tests.are_as_expected.Given as goal

abbrev pub invariant-loop-k : goal.invariant-loop-k
invariant-loop-k g l = AllByRecursion (λ v. length v ≡ 2) (drop l.k l.centres)
