use Rattle.std.proofs.Common.{arith}
use Rattle.vec_record.proofs.Cuts.{row_within, removed, fewer}
use Rattle.vec_record.proofs.block.Block.remove_at.Goals as goal

pub overflow_mul-at : goal.overflow_mul-at
overflow_mul-at c =
    omega (arith, c.self.inside.bytes.ok.0, (row_within _ _ _ _ c.self.view_is c.self.invariant.1 c.args.at c.requires).1)

pub take_out-requires : goal.take_out-requires
take_out-requires c = (row_within _ _ _ _ c.self.view_is c.self.invariant.1 c.args.at c.requires).0

pub invariant_of-self : goal.invariant_of-self
invariant_of-self c = (c.self.invariant.0, fewer _ _ _ _ c.self.view_is c.self.invariant.1 c.args.at _ c.requires c.take_out.ensures)

pub returns : goal.returns
returns c = removed _ _ _ _ c.self.view_is c.self.invariant.1 c.args.at _ c.requires c.take_out.ensures
