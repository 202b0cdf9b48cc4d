use Rattle.std.proofs.Common.{◌<◌, suc, drop, length, ap, sum_by, arith, add-one}
use Rattle.std.proofs.lemmas.List.Sums.{sum_by-cons}
use Rattle.mtree_node.specs.Cost.{leaf_cost}
use Rattle.mtree_node.proofs.Columns.{entry_at, next_at}
use Rattle.mtree_index.proofs.Leaves.{get_at}
use Rattle.mtree_index.proofs.query_tests.cost_of_leaves.Goals as goal

pub loop-at-preserved : goal.loop-at-preserved
loop-at-preserved g c =
    let es = c.args.entries.now in
    let at = c.loop-at.at in
    let f = leaf_cost g.M.Metric.dist c.args.centre.now c.args.radius c.args.to_object in
    let few : at < length es = omega (arith, c.loop-at-test.true, c.len-at-end.ensures) in
    let more = c.cost_of_leaf-more.ensures.is (entry_at es at) (get_at es at few) in
    rw add-one (omega (arith, c.loop-at.invariant.0, more, c.cut_sum-total.ensures, ap (sum_by f) (next_at es at few), sum_by-cons f (entry_at es at) (drop (suc at) es)), omega (arith, c.cut_sum-total.ensures))
