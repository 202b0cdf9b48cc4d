use Rattle.std.proofs.Common.{subst}
use Rattle.vec_record.specs.Vectors.{AreBytes}
use Rattle.vec_record.proofs.Cuts.{are_rows}
use Rattle.vec_record.proofs.block.Block.width.Goals as goal

pub returns-clause-rows : goal.returns-clause-rows
returns-clause-rows c = are_rows _ _ _ _ c.self.view_is c.self.invariant.1 (subst AreBytes c.deref.ensures.value c.known.ensures.bytes)
