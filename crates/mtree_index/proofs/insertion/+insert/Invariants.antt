use Rattle.std.proofs.Common.{◌+◌, ◌*◌}
use Rattle.mtree_index.proofs.insertion.+insert.Given as goal

abbrev pub decreases-insert_under : goal.decreases-insert_under
decreases-insert_under g l = 3 * l.height + 1

abbrev pub decreases-insert_among : goal.decreases-insert_among
decreases-insert_among g l = 3 * l.height + 2

abbrev pub decreases-insert_below : goal.decreases-insert_below
decreases-insert_below g l = 3 * l.height
