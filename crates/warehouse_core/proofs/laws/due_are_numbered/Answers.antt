use Rattle.warehouse_core.proofs.Numbered.{numbered}
use Rattle.warehouse_core.proofs.laws.due_are_numbered.Goals as goal

pub returns : goal.returns
returns c = numbered
