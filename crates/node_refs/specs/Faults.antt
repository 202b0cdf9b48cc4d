-- Where in the pages a place of the list lies: a page and an offset in it.
use Rattle.std.specs.Prelude.{◌≡◌, ◌⊎◌, ℕ, ◌+◌, ◌*◌, ◌/◌, ◌%◌, ◌<◌, ◌≤◌, if◌then◌else◌, nat_lt, length, List, [], ◌∷◌, slice_index, slice_index_or, Option, Some, None}
use Rattle.mtree_node.specs.declared.shape.Shape.{Shape}
use Rattle.mtree_node.specs.declared.shape.Shape.TheVariants as shape
use Rattle.mtree_node.specs.declared.shape.BadPlace.{BadPlace}
use Rattle.mtree_node.specs.declared.shape.BadWhat.{BadWhat}
use Rattle.mtree_node.specs.declared.shape.BadWhat.TheVariants as bad
use Rattle.node_refs.specs.declared.pages.NodePage.{NodePage}
use Rattle.node_refs.specs.declared.listing.Listed.{Listed}
use Rattle.node_refs.specs.Pages.{used_refs, inner_at}

-- where a leaf slot begins in its page
abbrev pub slot_start : ℕ → ℕ
slot_start slot = 16 + 256 * slot

-- a field in a leaf slot, of an entry: FILL at 0, then NUMBER and PARENT entry by entry
abbrev pub leaf_field : ℕ → BadWhat → ℕ
leaf_field entry bad.Number = 16 + 8 * entry
leaf_field entry bad.Parent = 20 + 8 * entry
leaf_field entry what = 0

-- a field in an inner page, of an entry whose object has this width: FILL at 4, then CHILD, PARENT
-- and RADIUS before the object, entry by entry
abbrev pub inner_field : ℕ → ℕ → BadWhat → ℕ
inner_field width entry bad.Child = 16 + entry * (12 + width)
inner_field width entry bad.Parent = 20 + entry * (12 + width)
inner_field width entry bad.Radius = 24 + entry * (12 + width)
inner_field width entry what = 4

-- where a field of a node lies that stands at a reference as a shape
abbrev pub field_of : ℕ → ℕ → Shape → ℕ → BadWhat → ℕ × ℕ
field_of width r (shape.Leaf tag rows) entry what =
    (r / 64, slot_start (r % 64) + leaf_field entry what)
field_of width r (shape.Inner tag rows) entry what = (r / 64, inner_field width entry what)

-- the field of a listed node
abbrev pub listed_field : ℕ → Listed → ℕ → ℕ → BadWhat → ℕ × ℕ
listed_field width nodes node =
    field_of width (slice_index nodes.refs node)
    (slice_index_or nodes.shapes node (shape.Leaf 0 []))

-- a record that no entry names is charged to the root's reference in the head page
abbrev pub fault_in : ℕ → Listed → ℕ → ℕ → BadWhat → ℕ × ℕ
fault_in width nodes node entry bad.Missing = (1, 36)
fault_in width nodes node entry what = listed_field width nodes node entry what

-- where a bad place lies, by the shape at its node and the reference of it
abbrev pub fault_at : ℕ → Listed → BadPlace → ℕ × ℕ
fault_at width nodes place = fault_in width nodes place.node place.entry place.what

-- the first of some references
abbrev pub first_of : List ℕ → Option ℕ
first_of [] = None
first_of (r ∷ refs) = Some r

-- where the FILL of a used place lies
abbrev pub fill_at : List NodePage → ℕ → ℕ × ℕ
fill_at pages r = (r / 64, if nat_lt 0 (length (inner_at pages r)) then 4 else slot_start (r % 64))

abbrev pub fill_of : List NodePage → Option ℕ → Option (ℕ × ℕ)
fill_of pages None = None
fill_of pages (Some r) = Some (fill_at pages r)

-- where the FILL of the first used place lies, by page and then slot
abbrev pub first_used : List NodePage → Option (ℕ × ℕ)
first_used pages = fill_of pages (first_of (used_refs pages))

-- a place that names a node of a list and one of at most 1000 entries, or a missing record
abbrev pub IsInside : Listed → BadPlace → Type 0
IsInside nodes place =
    (place.what ≡ bad.Missing)
    ⊎ ((place.node < length nodes.refs) × (place.node < length nodes.shapes) × (place.entry ≤ 1000))
