use Rattle.std.proofs.Common.{subst}
use Rattle.std.proofs.lemmas.List.Sorted.{IsNonDecreasingBy-from_sort}
use Rattle.std.specs.List.Sorted.{IsPermutation}
use Rattle.update_seed.proofs.Heads.{sorted_rises, sorted_same}
use Rattle.update_seed.proofs.gathering.rising.Goals as goal

pub returns-clause-same : goal.returns-clause-same
returns-clause-same c =
    sorted_same c.args.cores.now c.sort_unstable.new.self.items
    (subst (λ xs. IsPermutation xs c.sort_unstable.new.self.items) c.in_ok-order.ensures.items c.sort_unstable.ensures.permutation)

pub returns-clause-order : goal.returns-clause-order
returns-clause-order c =
    sorted_rises c.args.cores.now c.sort_unstable.new.self.items c.requires
    (subst (λ xs. IsPermutation xs c.sort_unstable.new.self.items) c.in_ok-order.ensures.items c.sort_unstable.ensures.permutation)
    (IsNonDecreasingBy-from_sort (λ x. x) _ c.sort_unstable.ensures.sorted)
