use Rattle.std.proofs.lemmas.List.Sorted.{IsNonDecreasingBy-from_sort}
use Rattle.label_book.proofs.parting.rising.Goals as goal

pub returns-clause-sorted : goal.returns-clause-sorted
returns-clause-sorted c = rw c.from_vec.ensures (IsNonDecreasingBy-from_sort (λ x. x) _ c.sort_unstable.ensures.sorted)
