use Rattle.std.proofs.Common.{◌*◌}
use Rattle.page_gate.specs.Steps.{IsUnnamed, InPlace}
use Rattle.page_gate.specs.Writes.{pairs, new_count}
use Rattle.page_gate.proofs.Moving.{keeps}
use Rattle.page_gate.proofs.redo.settle.Goals as goal

pub returns-clause-told : goal.returns-clause-told
returns-clause-told g c = λ told. keeps (IsUnnamed (pairs c.args.writes.now)) (16384 * new_count (pairs c.args.writes.now)) (InPlace (pairs c.args.writes.now)) (c.in_ok-write_pages.ensures.told told) (c.sync.ensures.told told)
