use Rattle.std.proofs.Common.{◌≡◌, sym, ap, arith, length}
use Rattle.mtree_split.specs.Least.{first_least}
use Rattle.mtree_split.specs.Sides.{rank_left}
use Rattle.mtree_split.proofs.Firsts.{takes, keeps, first_inside, first_of_none}
use Rattle.mtree_split.proofs.side.nearest_left.Goals.{then-rank-least, else-rank-least}
use Rattle.mtree_split.proofs.side.nearest_left.Goals as goal

pub loop-k-init : goal.loop-k-init
loop-k-init c = (sym (first_of_none (rank_left c.args.row.now c.args.taken.now)), c.rank_left-least.ensures)

pub loop-k-preserved : goal.loop-k-preserved
loop-k-preserved c =
    let rank = rank_left c.args.row.now c.args.taken.now in
    let before = c.loop-k.invariant in
    elim c.if-rank-least.branch [
      | then-rank-least w ↦ takes rank _ _ _ _ _ _ before.0 before.1 c.rank_left-rank.ensures w.if-rank-least.true w.nearest-is w.least-is
      | else-rank-least w ↦ keeps rank _ _ _ _ _ before.0 before.1 (omega (arith, c.rank_left-rank.ensures, w.if-rank-least.false)) w.nearest-is w.least-is
    ]

pub returns-clause-inside : goal.returns-clause-inside
returns-clause-inside c =
    let rank = rank_left c.args.row.now c.args.taken.now in
    let all : c.loop-k.k ≡ length c.args.row.now = omega arith in
    omega (arith, c.loop-k.invariant.0, ap (first_least rank) all, first_inside rank (length c.args.row.now) c.requires.some)
