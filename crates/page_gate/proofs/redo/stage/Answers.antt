use Rattle.std.proofs.Common.{◌+◌, ◌*◌, length}
use Rattle.page_gate.specs.Steps.{IsSettled, Staged}
use Rattle.page_gate.specs.Writes.{pairs}
use Rattle.page_gate.proofs.Lists.{length-pairs}
use Rattle.page_gate.proofs.Items.{staged_put}
use Rattle.page_gate.proofs.Moving.{keeps}
use Rattle.page_gate.proofs.redo.stage.Goals as goal

pub returns-clause-told : goal.returns-clause-told
returns-clause-told g c = λ told. keeps (IsSettled c.args.start) (c.args.start + 16392 * length c.args.writes.now) (Staged c.args.start (pairs c.args.writes.now))
    (staged_put c.args.start (length c.args.writes.now) (pairs c.args.writes.now) c.requires.start c.requires.some (length-pairs c.args.writes.now) (c.in_ok-write_redo_fields.ensures.told told) (c.in_ok-write_items.ensures.told told)) (c.sync.ensures.told told)
