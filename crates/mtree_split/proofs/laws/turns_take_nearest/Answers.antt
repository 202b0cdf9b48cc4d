use Rattle.std.proofs.Common.{arith}
use Rattle.mtree_split.proofs.Nearest.{left_takes, right_takes}
use Rattle.mtree_split.proofs.laws.turns_take_nearest.Goals as goal

pub returns-clause-left : goal.returns-clause-left
returns-clause-left c = left_takes c.args.left_row.now c.args.right_row.now (λ k. omega (arith, c.type_inv.left_row k)) (λ k. omega (arith, c.type_inv.right_row k)) c.requires.same_length c.requires.at_most c.args.turn c.requires.inside

pub returns-clause-right : goal.returns-clause-right
returns-clause-right c = right_takes c.args.left_row.now c.args.right_row.now (λ k. omega (arith, c.type_inv.left_row k)) (λ k. omega (arith, c.type_inv.right_row k)) c.requires.same_length c.requires.at_most c.args.turn c.requires.inside
