use Rattle.std.proofs.Common.{◌≡◌, ◌+◌, drop, length}
use Rattle.std.specs.List.{AllByRecursion}
use Rattle.mtree_index.proofs.query_tests.scan.Given as goal

abbrev pub invariant-loop-vector : goal.invariant-loop-vector
invariant-loop-vector g l = (l.number ≡ l.vector-index + 1) × AllByRecursion (λ v. length v ≡ 2) (drop l.vector-index l.vectors)
