use Rattle.std.proofs.Common.{◌≡◌, ◌*◌, ◌/◌, ◌%◌, ◌<◌, ap, sym, ◌∙◌, arith}
use Rattle.mtree_split.specs.Least.{first_least}
use Rattle.mtree_split.specs.Choice.{parting_of, pair_rank}
use Rattle.mtree_split.proofs.Places.{row_inside, square_some}
use Rattle.mtree_split.proofs.Pairs.{IsChosen, is_chosen, chosen_balanced, chosen_none_past}
use Rattle.mtree_split.proofs.Firsts.{takes, keeps, first_inside, first_of_none}
use Rattle.mtree_split.proofs.pair.choose.Goals.{then-rank-least, else-rank-least}
use Rattle.mtree_split.proofs.pair.choose.Goals as goal

pub loop-place-init : goal.loop-place-init
loop-place-init c = (sym (first_of_none (pair_rank c.args.count c.args.matrix.now c.args.radii.now c.args.greatest)), c.pair_rank-least.ensures)

pub loop-place-preserved : goal.loop-place-preserved
loop-place-preserved c =
    let rank = pair_rank c.args.count c.args.matrix.now c.args.radii.now c.args.greatest in
    let before = c.loop-place.invariant in
    elim c.if-rank-least.branch [
      | then-rank-least w ↦ takes rank _ _ _ _ _ _ before.0 before.1 (c.rank_below-rank.ensures.below w.if-rank-least.true) w.if-rank-least.true w.best-is w.least-is
      | else-rank-least w ↦ keeps rank _ _ _ _ _ before.0 before.1 (c.rank_below-rank.ensures.others w.if-rank-least.false) w.best-is w.least-is
    ]

pub parting_of-requires-clause-left_inside : goal.parting_of-requires-clause-left_inside
parting_of-requires-clause-left_inside c =
    let n = c.args.count in
    let rank = pair_rank n c.args.matrix.now c.args.radii.now c.args.greatest in
    let all : c.loop-place.place ≡ n * n = omega arith in
    let some : 0 < n = omega arith in
    let square : 0 < n * n = square_some n some in
    row_inside n c.loop-place.best some (omega (arith, c.loop-place.invariant.0, ap (first_least rank) all, first_inside rank (n * n) square))

chosen : (c : goal.After-parting_of) → IsChosen c.args.count c.args.matrix.now c.args.radii.now c.args.greatest c.parting_of.result
chosen c =
    let n = c.args.count in
    let m = c.args.matrix.now in
    let r = c.args.radii.now in
    let g = c.args.greatest in
    let all : c.loop-place.place ≡ n * n = omega arith in
    let place : c.loop-place.best ≡ first_least (pair_rank n m r g) (n * n) = c.loop-place.invariant.0 ∙ ap (first_least (pair_rank n m r g)) all in
    is_chosen n m r g (omega arith) (omega arith) c.parting_of.result (c.parting_of.ensures ∙ ap (λ p. parting_of n m r g (p / n) (p % n)) place)

pub returns-clause-rises : goal.returns-clause-rises
returns-clause-rises c = (chosen c).rises

pub returns-clause-inside : goal.returns-clause-inside
returns-clause-inside c = (chosen c).inside

pub returns-clause-parting : goal.returns-clause-parting
returns-clause-parting c = (chosen c).parting

pub returns-clause-least : goal.returns-clause-least
returns-clause-least c = (chosen c).least

pub returns-clause-first : goal.returns-clause-first
returns-clause-first c = (chosen c).first

pub returns-clause-balanced : goal.returns-clause-balanced
returns-clause-balanced c =
    chosen_balanced c.args.count c.args.matrix.now c.args.radii.now c.args.greatest c.parting_of.result (chosen c) (λ k. omega (arith, c.type_inv.matrix k)) c.requires.square c.requires.at_most

pub returns-clause-none_past : goal.returns-clause-none_past
returns-clause-none_past c =
    chosen_none_past c.args.count c.args.matrix.now c.args.radii.now c.args.greatest c.parting_of.result (chosen c) (λ k. omega (arith, c.type_inv.matrix k)) c.requires.square c.requires.at_most
