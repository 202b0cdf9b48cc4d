use Rattle.change_tests.proofs.Left.{left_there}
use Rattle.change_tests.proofs.tests.groups.grown.Goals as goal

pub expand-requires-clause-former : goal.expand-requires-clause-former
expand-requires-clause-former g c =
    let house = c.args.house.now in
    left_there (g.I.RangeIndex.width house.index) (g.I.RangeIndex.contents house.index) house.records house.counts house.labels c.in_ok-before.before.labels c.unwrap_or-label.result c.requires
