-- Pages of records: slots of one width, each free or with a record.
use Rattle.std.specs.Prelude.{◌≡◌, ◌≢◌, ℕ, ◌+◌, ◌-◌, ◌*◌, ◌/◌, ◌<◌, ◌^◌, ◌≤◌, ◌==◌, Bool, true, nat_le, if◌then◌else◌, List, [], ◌∷◌, ◌++◌, length, map, replicate, get_or, set, Option, Some, None, Result, IsTrue}
use Rattle.std.specs.List.{AllByRecursion, flat_map, range_with_len}
use Rattle.vec_record.specs.Vectors.{IsVector}
use Rattle.vec_record.specs.Limits.{is_between, width_of}
use Rattle.vec_record.specs.Spelled.{is_spelled}
use Rattle.page_gate.specs.Gate.{part, number_4}
use Rattle.page_layout.specs.declared.fault.LayoutFault.{LayoutFault}
use Rattle.page_layout.specs.declared.slot.Slot.{Slot}
use Rattle.page_layout.specs.declared.slot.SlotView.{SlotView}
use Rattle.page_layout.specs.Fields.{Field, word, zero_fields, first_bad, unless_bad}
use Rattle.page_layout.specs.Heads.{Values}

-- the slots of a page, each free or with a record
abbrev pub Rows : Type 0
Rows = List (Option Slot)

-- a record that is lent, as what its slot holds
abbrev pub lent : SlotView → Slot
lent s = record { number = s.number; count = s.count; anchor = s.anchor; label = s.label; vector = s.vector.now }

-- the bytes of a slot whose vector has this width, and how many slots a page has
abbrev pub slot_size : ℕ → ℕ
slot_size width = 16 + width

abbrev pub slots_in_page : ℕ → ℕ
slots_in_page width = 16368 / slot_size width

-- where a slot begins
abbrev pub slot_at : ℕ → ℕ → ℕ
slot_at width i = 16 + slot_size width * i

-- whether a record is core: its neighbourhood has minpts members or more
abbrev pub is_core_count : Values → ℕ → Bool
is_core_count v count = nat_le v.minpts count

-- whether an anchor is lawful beside a count: 0 for a core, and anything for another record
abbrev pub is_anchor : Values → ℕ → ℕ → Bool
is_anchor v count anchor = if is_core_count v count then anchor == 0 else true

-- whether a label is lawful beside a number and a count: 1 to the number for a core, and 0 for another record
abbrev pub is_label : Values → ℕ → ℕ → ℕ → Bool
is_label v number count label = if is_core_count v count then is_between 1 number label else label == 0

-- the fields of a slot behind its number: a free one is zero; in a used one the count is 1 or more, the anchor and the
-- label are lawful beside it, and the vector has no bit past its last, which is charged to its last byte
abbrev pub slot_fields : Values → List ℕ → ℕ → List Field
slot_fields v page at =
    if number_4 at page == 0 then zero_fields (at + 4) (12 + width_of v.metric v.dim) page
    else (at + 4, nat_le 1 (number_4 (at + 4) page))
    ∷ (at + 8, is_anchor v (number_4 (at + 4) page) (number_4 (at + 8) page))
    ∷ (at + 12, is_label v (number_4 at page) (number_4 (at + 4) page) (number_4 (at + 12) page))
    ∷ (at + 15 + width_of v.metric v.dim, is_spelled v.metric v.dim (part (at + 16) (width_of v.metric v.dim) page)) ∷ []

-- the fields of n slots from this one on
abbrev pub slots_fields : Values → List ℕ → ℕ → ℕ → List Field
slots_fields v page i n = flat_map (λ k. slot_fields v page (slot_at (width_of v.metric v.dim) k)) (range_with_len i n)

-- the fields of a record page by rising offset: its kind, zeros, the slots, and zeros
unfoldable pub record_fields : Values → List ℕ → List Field
record_fields v page =
    let width = width_of v.metric v.dim in
    let n = slots_in_page width in
    (0, get_or page 0 0 == 1) ∷ (zero_fields 1 15 page ++ (slots_fields v page 0 n ++ zero_fields (slot_at width n) (16384 - slot_at width n) page))

-- what a slot says
unfoldable pub slot_in : ℕ → List ℕ → ℕ → Option Slot
slot_in width page at =
    if number_4 at page == 0 then None
    else Some (record {
      number = number_4 at page;
      count = number_4 (at + 4) page;
      anchor = number_4 (at + 8) page;
      label = number_4 (at + 12) page;
      vector = part (at + 16) width page;
    })

-- what the slots of a page say
abbrev pub rows_in : ℕ → List ℕ → Rows
rows_in width page = map (λ k. slot_in width page (slot_at width k)) (range_with_len 0 (slots_in_page width))

-- what a page says as a page of records: damaged at the first field that isn't lawful, or its slots
unfoldable pub rows_of_page : Values → List ℕ → Result Rows LayoutFault
rows_of_page v page = unless_bad (first_bad (record_fields v page)) (rows_in (width_of v.metric v.dim) page)

-- what a used slot may hold
pub record IsSlot (v : Values) (s : Slot) : Type 0 where
  pub number : s.number ≢ 0
  pub small : s.number < 2 ^ 32
  pub count : 1 ≤ s.count
  pub count_fits : s.count < 2 ^ 32
  pub anchor : IsTrue (is_anchor v s.count s.anchor)
  pub anchor_fits : s.anchor < 2 ^ 32
  pub label : IsTrue (is_label v s.number s.count s.label)
  pub vector : IsVector (width_of v.metric v.dim) s.vector
  pub spelled : IsTrue (is_spelled v.metric v.dim s.vector)

abbrev pub IsRow : Values → Option Slot → Type 0
IsRow v None = Unit {0}
IsRow v (Some s) = IsSlot v s

-- what the slots of a page may be
pub record AreRows (v : Values) (rows : Rows) : Type 0 where
  pub count : length rows ≡ slots_in_page (width_of v.metric v.dim)
  pub each : AllByRecursion (IsRow v) rows

-- the bytes of a slot
abbrev pub slot_bytes : ℕ → Option Slot → List ℕ
slot_bytes width None = replicate (16 + width) 0
slot_bytes width (Some s) = word s.number ++ (word s.count ++ (word s.anchor ++ (word s.label ++ s.vector)))

-- the written form of a record page, 16,384 bytes
unfoldable pub record_page : ℕ → Rows → List ℕ
record_page width rows = (1 ∷ replicate 15 0) ++ (flat_map (slot_bytes width) rows ++ replicate (16384 - slot_at width (slots_in_page width)) 0)

-- a page whose slots are lawful gets this row at a place, and keeps its other slots
abbrev pub PutsRow : Values → ℕ → Option Slot → List ℕ → List ℕ → Type 0
PutsRow v place row old new =
    (rows : Rows) → AreRows v rows → old ≡ record_page (width_of v.metric v.dim) rows
    → new ≡ record_page (width_of v.metric v.dim) (set rows place row)

-- the same, where the slot at the place is free
abbrev pub FillsRow : Values → ℕ → Option Slot → List ℕ → List ℕ → Type 0
FillsRow v place row old new =
    (rows : Rows) → AreRows v rows → get_or rows place None ≡ None
    → old ≡ record_page (width_of v.metric v.dim) rows
    → new ≡ record_page (width_of v.metric v.dim) (set rows place row)
