use Rattle.std.proofs.Common.{◌+◌, ◌*◌}
use Rattle.mtree_index.proofs.tests.+show.Given as goal

abbrev pub decreases-show : goal.decreases-show
decreases-show l = 2 * l.levels

abbrev pub decreases-show_below : goal.decreases-show_below
decreases-show_below l = 2 * l.levels + 1
