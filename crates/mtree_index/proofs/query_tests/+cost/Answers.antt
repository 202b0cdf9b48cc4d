use Rattle.std.proofs.Common.{◌-◌, length}
use Rattle.mtree_index.proofs.Opened.{shaped_level, cost_inner}
use Rattle.mtree_index.proofs.query_tests.+cost.Goals as goal

pub cost_of_node-returns-in-Inner : goal.cost_of_node-returns-in-Inner
cost_of_node-returns-in-Inner g t c =
    let level = shaped_level (length c.args.centre.now) c.args.height c.args.node.now c.requires.shaped in
    rw (cost_inner g.M.Metric.dist c.args.centre.now c.args.radius c.args.to_object c.args.node.now c.in-Inner.tag c.in-Inner.entries c.in-Inner.is c.args.height (c.args.height - 1) level, ← c.as_slice-all.ensures) c.cost_of_entries.ensures
