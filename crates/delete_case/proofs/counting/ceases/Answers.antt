use Rattle.std.proofs.Common.{arith}
use Rattle.delete_case.proofs.Lowered.{stayed}
use Rattle.delete_case.proofs.counting.ceases.Goals as goal

pub returns-else-count-gt1-clause-book : goal.returns-else-count-gt1-clause-book
returns-else-count-gt1-clause-book c = stayed c.args.counts.now c.args.number c.in-Some.count c.in-Some.ensures (omega arith)
