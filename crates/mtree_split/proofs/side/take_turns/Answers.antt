use Rattle.std.proofs.Common.{◌+◌, true, false, sym, ap, ◌∙◌}
use Rattle.mtree_split.specs.Sides.{Sides, after_turns}
use Rattle.mtree_split.proofs.Turns.{at_first, right_turn, left_turn, turn_more}
use Rattle.mtree_split.proofs.side.take_turns.Goals.{then-turn-eq1, else-turn-eq1}
use Rattle.mtree_split.proofs.side.take_turns.Goals as goal

pub loop-turn-init : goal.loop-turn-init
loop-turn-init c =
    let first = at_first c.args.left_row.now c.args.right_row.now in
    (c.requires.none_taken ∙ sym (ap (λ (s : Sides). s.taken) first), c.requires.none_right ∙ sym (ap (λ (s : Sides). s.right) first))

pub loop-turn-preserved : goal.loop-turn-preserved
loop-turn-preserved c =
    let l = c.args.left_row.now in
    let r = c.args.right_row.now in
    let t = c.loop-turn.turn in
    let before = c.loop-turn.invariant in
    elim c.if-turn-eq1.branch [
      | then-turn-eq1 w ↦ turn_more r true (after_turns l r t) (after_turns l r (t + 1)) _ _ _ _ before.0 before.1
          (w.taken-is ∙ w.take_nearest.ensures.taken) (w.sides-is ∙ w.take_nearest.ensures.right) (right_turn l r t w.if-turn-eq1.true)
      | else-turn-eq1 w ↦ turn_more l false (after_turns l r t) (after_turns l r (t + 1)) _ _ _ _ before.0 before.1
          (w.taken-is ∙ w.take_nearest-else-turn-eq1.ensures.taken) (w.sides-is ∙ w.take_nearest-else-turn-eq1.ensures.right) (left_turn l r t w.if-turn-eq1.false)
    ]
