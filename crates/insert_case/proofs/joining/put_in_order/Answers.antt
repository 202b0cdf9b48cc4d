use Rattle.std.proofs.Common.{rules}
use Rattle.std.proofs.lemmas.Fn.{always_returns_same}
use Rattle.std.proofs.lemmas.Map.Keys.{IsDistinct-IsPermutation}
use Rattle.insert_case.specs.inside.Joins.{is_tied}
use Rattle.insert_case.proofs.Told.{key_of, tied_back, in_order}
use Rattle.insert_case.proofs.joining.put_in_order.Goals as goal

pub returns-clause-rising : goal.returns-clause-rising
returns-clause-rising c =
    let after = c.sort_unstable_by_key.new.self.items in
    in_order after (c.sort_unstable_by_key.ensures.sorted key_of (always_returns_same _ _ _ (λ a r q k. search rules)))
    (IsDistinct-IsPermutation is_tied tied_back c.args.events.now.items after c.sort_unstable_by_key.ensures.permutation c.requires)
