use Rattle.std.proofs.Common.{◌≡◌, ◌+◌, sum_by, drop, List, ℕ}
use Rattle.mtree_index.proofs.query_tests.ask_all.Given as goal

abbrev pub invariant-loop-centre : goal.invariant-loop-centre
invariant-loop-centre g l =
    let cost = λ (c : List ℕ). g.I.RangeIndex.cost l.index c l.eps in
    l.steps + sum_by cost (drop l.centre-index l.centres) ≡ l.fn.steps + sum_by cost l.centres
