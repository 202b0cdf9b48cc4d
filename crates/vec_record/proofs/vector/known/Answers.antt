use Rattle.std.proofs.Common.{arith}
use Rattle.vec_record.proofs.ByIndex.{bytes_by_index}
use Rattle.vec_record.proofs.vector.known.Goals as goal

pub returns-clause-bytes : goal.returns-clause-bytes
returns-clause-bytes c = bytes_by_index _ (λ i. omega (arith, c.type_inv.bytes i))
