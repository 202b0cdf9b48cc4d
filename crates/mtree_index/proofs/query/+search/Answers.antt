use Rattle.std.proofs.Common.{◌-◌, length}
use Rattle.mtree_index.proofs.Opened.{shaped_level, found_inner, cost_inner}
use Rattle.mtree_index.proofs.query.+search.Goals as goal

pub search-returns-in-Inner-clause-found : goal.search-returns-in-Inner-clause-found
search-returns-in-Inner-clause-found g t c =
    let level = shaped_level (length c.args.centre.now) c.args.height c.args.node.now c.requires.shaped in
    rw (found_inner g.M.Metric.dist c.args.centre.now c.args.radius c.args.to_object c.args.node.now c.in-Inner.tag c.in-Inner.entries c.in-Inner.is c.args.height (c.args.height - 1) level, ← c.as_slice-all.ensures) c.look_at_entries.ensures.found

pub search-returns-in-Inner-clause-counted : goal.search-returns-in-Inner-clause-counted
search-returns-in-Inner-clause-counted g t c =
    let level = shaped_level (length c.args.centre.now) c.args.height c.args.node.now c.requires.shaped in
    rw (cost_inner g.M.Metric.dist c.args.centre.now c.args.radius c.args.to_object c.args.node.now c.in-Inner.tag c.in-Inner.entries c.in-Inner.is c.args.height (c.args.height - 1) level, ← c.as_slice-all.ensures) c.look_at_entries.ensures.counted
