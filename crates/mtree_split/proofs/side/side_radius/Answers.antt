use Rattle.std.proofs.Common.{sym, ◌∙◌, arith}
use Rattle.mtree_split.proofs.Turns.{sum_of_none, sum_takes, sum_passes}
use Rattle.mtree_split.proofs.side.side_radius.Goals.{then-is_on, else-is_on}
use Rattle.mtree_split.proofs.side.side_radius.Goals as goal

pub loop-k-init : goal.loop-k-init
loop-k-init c = sym (sum_of_none c.args.row.now c.args.radii.now c.args.sides.now c.args.side)

pub loop-k-preserved : goal.loop-k-preserved
loop-k-preserved c =
    elim c.if-is_on.branch [
      | then-is_on w ↦ let more = sum_takes c.args.row.now c.args.radii.now c.args.sides.now c.args.side c.loop-k.k (sym c.is_on.ensures ∙ w.if-is_on.true) in omega (arith, more, c.loop-k.invariant, w)
      | else-is_on w ↦ w.reach-is ∙ c.loop-k.invariant ∙ sym (sum_passes c.args.row.now c.args.radii.now c.args.sides.now c.args.side c.loop-k.k (sym c.is_on.ensures ∙ w.if-is_on.false))
    ]
