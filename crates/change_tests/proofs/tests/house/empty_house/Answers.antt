use Rattle.change_tests.proofs.Empty.{empty_fits}
use Rattle.change_tests.proofs.tests.house.empty_house.Goals as goal

pub returns : goal.returns
returns g c =
    rw (c.empty-index.ensures, c.new-records.ensures, c.new-counts.ensures, c.new-labels.ensures) (empty_fits c.args.width c.args.minpts)
