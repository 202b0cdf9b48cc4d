use Rattle.std.proofs.Common.{◌≡◌}
use Rattle.mtree_split.specs.Sides.{after_turns}
use Rattle.mtree_split.proofs.side.take_turns.Given as goal

abbrev pub invariant-loop-turn : goal.invariant-loop-turn
invariant-loop-turn l = (l.taken ≡ (after_turns l.left_row l.right_row l.turn).taken) × (l.sides ≡ (after_turns l.left_row l.right_row l.turn).right)
