use Rattle.std.proofs.Common.{arith}
use Rattle.site_disk.specs.ByteLists.{bytes_by_index}
use Rattle.site_disk.proofs.file_bytes.are_bytes.Goals as goal

pub returns : goal.returns
returns c = bytes_by_index _ (λ i. omega (arith, c.type_inv.bytes i))
