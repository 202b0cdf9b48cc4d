use Rattle.std.proofs.Common.{rules}
use Rattle.std.proofs.lemmas.List.Sorted.{IsNonDecreasingBy-from_sort_by_key}
use Rattle.update_seed.proofs.ByLabel.{reordered, by_label}
use Rattle.update_seed.proofs.labelled.sorted.Goals as goal

pub returns-clause-same : goal.returns-clause-same
returns-clause-same c = reordered _ _ c.sort_unstable_by_key.ensures.permutation

pub returns-clause-order : goal.returns-clause-order
returns-clause-order c = by_label _ (IsNonDecreasingBy-from_sort_by_key (λ p. p.label) _ c.sort_unstable_by_key.ensures.sorted (λ a r q k. search rules))
