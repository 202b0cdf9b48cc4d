use Rattle.std.proofs.lemmas.List.Sorted.{IsNonDecreasingBy-from_sort}
use Rattle.split_expand.proofs.Sets.{set_moved}
use Rattle.split_expand.proofs.splitting.rising.Goals as goal

pub returns-clause-set : goal.returns-clause-set
returns-clause-set c = set_moved c.args.numbers.now c.in_ok-set.set.keys c.sort.new.self.keys c.in_ok-set.ensures c.sort.ensures.reordered.2 c.sort.ensures.unique

pub returns-clause-order : goal.returns-clause-order
returns-clause-order c = IsNonDecreasingBy-from_sort (λ x. x) _ c.in_ok-sort.ensures.sorted
