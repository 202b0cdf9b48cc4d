use Rattle.std.proofs.Common.{◌≡◌}
use Rattle.std.specs.Prelude.{None}
use Rattle.vec_record.specs.Limits.{width_of}
use Rattle.page_layout.specs.Slots.{record_page}
use Rattle.store_image.specs.Placing.{slot_for}
use Rattle.store_image.proofs.PlanFilling.{half}
use Rattle.store_image.proofs.filling.fill_slots.Given as goal

abbrev pub invariant-loop-place : goal.invariant-loop-place
invariant-loop-place g l =
    l.out ≡ record_page (width_of l.state.head.params.metric l.state.head.params.dim) (half None (slot_for l.state.records.vectors l.state.clusters) l.numbers l.place)
