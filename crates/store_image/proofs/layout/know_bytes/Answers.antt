use Rattle.std.proofs.Common.{arith}
use Rattle.vec_record.proofs.ByIndex.{bytes_by_index}
use Rattle.store_image.proofs.layout.know_bytes.Goals as goal

pub returns : goal.returns
returns c = bytes_by_index _ (λ i. omega (arith, c.type_inv.bytes i))
