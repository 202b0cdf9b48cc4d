use Rattle.std.proofs.Common.{reverse, vec_len}
use Rattle.page_layout.specs.Heads.{values_of}
use Rattle.store_image.specs.inside.Reads.{Taking}
use Rattle.store_image.proofs.sorted.take_slots.Given as goal

abbrev pub invariant-loop-row : goal.invariant-loop-row
invariant-loop-row l = Taking (values_of l.params) l.fn.slots.items (reverse l.left.items) l.taken.numbers.items l.taken.lines.items l.taken.records

abbrev pub decreases-loop-row : goal.decreases-loop-row
decreases-loop-row l = vec_len l.left
