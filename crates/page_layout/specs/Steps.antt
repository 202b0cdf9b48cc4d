-- What the steps of reading a page of records give.
use Rattle.std.specs.Prelude.{ℕ, List, Option, Result}
use Rattle.vec_record.specs.Limits.{width_of}
use Rattle.page_layout.specs.declared.fault.LayoutFault.{LayoutFault}
use Rattle.page_layout.specs.declared.slot.Slot.{Slot}
use Rattle.page_layout.specs.Fields.{first_bad, unless_bad}
use Rattle.page_layout.specs.Heads.{Values}
use Rattle.page_layout.specs.Slots.{Rows, slots_in_page, slot_fields, slots_fields, slot_in, rows_in}

-- what a slot says: damaged at its first field that isn't lawful, or else free or a record
abbrev pub slot_of : Values → List ℕ → ℕ → Result (Option Slot) LayoutFault
slot_of v page at = unless_bad (first_bad (slot_fields v page at)) (slot_in (width_of v.metric v.dim) page at)

-- what all slots say
abbrev pub slots_of : Values → List ℕ → Result Rows LayoutFault
slots_of v page = unless_bad (first_bad (slots_fields v page 0 (slots_in_page (width_of v.metric v.dim)))) (rows_in (width_of v.metric v.dim) page)
