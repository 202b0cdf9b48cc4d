use Rattle.std.proofs.Common.{◌≡◌, length}
use Rattle.std.specs.Vec.Iter.{into_iter_items, into_iter_len}
use Rattle.batch_text.specs.After.{after}
use Rattle.batch_text.proofs.Applying.{Applying}
use Rattle.batch_text.proofs.apply.apply_all.Given as goal

abbrev pub invariant-loop-change : goal.invariant-loop-change
invariant-loop-change l =
    (goal.iterator-loop-change).can_next l.change-iterator ×
    (goal.iterator-loop-change).is_finite l.change-iterator
    × (into_iter_len l.change-iterator ≡ length (into_iter_items l.change-iterator))
    × Applying l.params.cap l.fn.records.width (after l.params.cap l.fn.records.vectors l.fn.changes) l.records (into_iter_items l.change-iterator)
