use Rattle.std.specs.FinMap as map
use Rattle.plain_dbscan.proofs.PointsOf.{all_wide}
use Rattle.plain_dbscan.proofs.points.points_of.Goals as goal

pub returns-clause-vectors : goal.returns-clause-vectors
returns-clause-vectors c =
    let rows = c.args.records.now in
    all_wide rows.width c.loop-number.points.items c.loop-number.number-iterator (map.entries rows.vectors) c.iter-number-items.ensures.width c.iter-number-items.ensures.records c.loop-number.invariant c.in-None.ensures.steps.0
