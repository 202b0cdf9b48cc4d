use Rattle.std.proofs.Common.{◌≡◌, ◌+◌, drop}
use Rattle.vec_record.specs.Held.{Rows}
use Rattle.batch_text.specs.After.{after, after_from}
use Rattle.batch_text.specs.Present.{Stands}
use Rattle.batch_text.proofs.check.check_batch.Given as goal

abbrev pub invariant-loop-change : goal.invariant-loop-change
invariant-loop-change l = (l.place ≡ l.change-index)
    × ((now : Rows) × Stands l.records.vectors l.standing now
    × (after_from (l.place + 1) l.params.cap now (drop l.change-index l.change-items) ≡ after l.params.cap l.records.vectors l.changes))
