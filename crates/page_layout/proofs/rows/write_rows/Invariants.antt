use Rattle.std.proofs.Common.{◌≡◌, None}
use Rattle.vec_record.specs.Limits.{width_of}
use Rattle.page_layout.specs.Slots.{slots_in_page, record_page}
use Rattle.page_layout.proofs.Begun.{begun}
use Rattle.page_layout.proofs.rows.write_rows.Given as goal

abbrev pub invariant-loop-place : goal.invariant-loop-place
invariant-loop-place l = l.out ≡ record_page (width_of l.params.metric l.params.dim) (begun None (slots_in_page (width_of l.params.metric l.params.dim)) l.rows l.place)
