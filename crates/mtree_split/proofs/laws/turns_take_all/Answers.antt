use Rattle.std.proofs.Common.{arith}
use Rattle.mtree_split.proofs.Nearest.{none_left}
use Rattle.mtree_split.proofs.laws.turns_take_all.Goals as goal

pub returns : goal.returns
returns c = none_left c.args.left_row.now c.args.right_row.now (λ k. omega (arith, c.type_inv.left_row k)) (λ k. omega (arith, c.type_inv.right_row k)) c.requires.same_length c.requires.at_most
