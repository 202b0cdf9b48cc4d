use Rattle.std.proofs.Common.{sym}
use Rattle.vec_record.proofs.Cuts.{counted}
use Rattle.vec_record.proofs.block.Block.len.Goals as goal

pub returns : goal.returns
returns c = sym (counted _ _ _ _ c.self.view_is)
