use Rattle.std.proofs.Common.{◌≡◌, ◌<◌, ◌≤◌, ◌∷◌, drop, suc, sym, length, ◌∙◌, arith, add-one}
use Rattle.mtree_node.proofs.Columns.{entry_at, next_at}
use Rattle.mtree_node.proofs.Reach.{reach_next, reach_stops}
use Rattle.mtree_node.proofs.building.reaches_leaf.Goals as goal

pub loop-at-preserved : goal.loop-at-preserved
loop-at-preserved g c =
    let all = c.args.entries.now in
    let at = c.loop-at.at in
    let few : at < length all = omega (arith, c.loop-at-test.true, c.len-at-end.ensures) in
    let near : g.M.Metric.dist c.args.object.now (entry_at all at).vector ≤ c.args.radius = omega (arith, c.distance.ensures.value) in
    (c.loop-at.invariant.0 ∙ rw (add-one, next_at all at few) (reach_next g.M.Metric.dist c.args.object.now c.args.radius (entry_at all at) (drop (suc at) all) near), omega arith)

pub returns-then-distance-radius-clause-is : goal.returns-then-distance-radius-clause-is
returns-then-distance-radius-clause-is g c =
    let all = c.args.entries.now in
    let at = c.loop-at.at in
    let few : at < length all = omega (arith, c.loop-at-test.true, c.len-at-end.ensures) in
    let far : c.args.radius < g.M.Metric.dist c.args.object.now (entry_at all at).vector = omega (arith, c.distance.ensures.value) in
    sym (c.loop-at.invariant.0 ∙ rw (next_at all at few) (reach_stops g.M.Metric.dist c.args.object.now c.args.radius (entry_at all at) (drop (suc at) all) far))
