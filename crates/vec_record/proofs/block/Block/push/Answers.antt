use Rattle.vec_record.proofs.Cuts.{pushed}
use Rattle.vec_record.proofs.block.Block.push.Goals as goal

pub returns-clause-ok : goal.returns-clause-ok
returns-clause-ok c = pushed _ _ _ _ c.self.view_is c.self.invariant.1 _ _ c.requires c.in_ok-extend_from_slice.ensures.items
