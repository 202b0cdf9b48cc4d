use Rattle.std.proofs.Common.{arith}
use Rattle.vec_record.proofs.Cuts.{begins_within, inserted}
use Rattle.vec_record.proofs.block.Block.insert_at.Goals as goal

pub overflow_mul-at : goal.overflow_mul-at
overflow_mul-at c =
    omega (arith, c.self.inside.bytes.ok.0, begins_within _ _ _ _ c.self.view_is c.self.invariant.1 c.args.at c.requires.place)

pub put_in-requires : goal.put_in-requires
put_in-requires c = begins_within _ _ _ _ c.self.view_is c.self.invariant.1 c.args.at c.requires.place

pub returns-clause-ok : goal.returns-clause-ok
returns-clause-ok c =
    inserted _ _ _ _ c.self.view_is c.self.invariant.1 c.args.at _ _ c.requires.width c.requires.place c.in_ok-put_in.ensures.ok
