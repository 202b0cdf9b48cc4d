use Rattle.std.proofs.Common.{refl}
use Rattle.page_gate.proofs.Zeros.{zero_at}
use Rattle.page_gate.proofs.page.Page.zeros.Goals as goal

pub returns-clause-zeros : goal.returns-clause-zeros
returns-clause-zeros c = zero_at 16384 0 c.in_ok-bytes.bytes.value c.in_ok-bytes.ensures.ok refl
