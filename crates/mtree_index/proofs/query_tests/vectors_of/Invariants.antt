use Rattle.std.proofs.Common.{◌≡◌, ◌+◌, length}
use Rattle.std.specs.List.{AllByRecursion}
use Rattle.mtree_index.proofs.query_tests.vectors_of.Given as goal

abbrev pub invariant-loop : goal.invariant-loop
invariant-loop l = record { number : l.number ≡ l.first + l.counter; count : length l.found.items ≡ l.counter; widths : AllByRecursion (λ x. length x ≡ 2) l.found.items }
