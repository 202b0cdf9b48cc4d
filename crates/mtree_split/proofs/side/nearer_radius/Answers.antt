use Rattle.std.proofs.Common.{sym, arith}
use Rattle.mtree_split.proofs.Bounds.{nearer_of_none, nearer_more}
use Rattle.mtree_split.proofs.side.nearer_radius.Goals as goal

pub loop-k-init : goal.loop-k-init
loop-k-init c = sym (nearer_of_none c.args.left_row.now c.args.right_row.now c.args.radii.now)

pub loop-k-preserved : goal.loop-k-preserved
loop-k-preserved c = omega (arith, c.loop-k.invariant, nearer_more c.args.left_row.now c.args.right_row.now c.args.radii.now c.loop-k.k)
