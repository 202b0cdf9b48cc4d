-- The load checks: what a list of pages, from page 1 on, says as a store, or the first check that fails.
use Rattle.std.specs.Prelude.{◌≡◌, ℕ, ◌+◌, ◌-◌, ◌/◌, ◌%◌, ◌==◌, ◌&&◌, not, nat_le, if◌then◌else◌, Bool, List, [], ◌∷◌, length, take, drop, filter, map, find, get_or, Option, Some, None, Result, Ok, Err}
use Rattle.std.specs.List.{list_any, range_with_len}
use Rattle.vec_record.specs.Held as held
use Rattle.vec_record.specs.Distance.{distance_of}
use Rattle.vec_record.specs.Limits.{width_of}
use Rattle.mtree_index.specs.Plain.{PlainTree}
use Rattle.node_refs.specs.declared.pages.NodePage.{NodePage}
use Rattle.node_places.specs.Nodes.{pages_from}
use Rattle.stored_tree.specs.Reading.{Read, tree_in}
use Rattle.stored_lines.specs.declared.fault.Loose.{Loose}
use Rattle.stored_lines.specs.declared.fault.Loose.TheVariants.{Anchor, Label}
use Rattle.stored_lines.specs.Lines.{first_loose}
use Rattle.page_gate.specs.Gate.{number_4}
use Rattle.page_layout.specs.declared.fault.LayoutFault as layout
use Rattle.page_layout.specs.declared.fault.LayoutFault.TheVariants as layout_fault
use Rattle.page_layout.specs.declared.body.Body.{Body}
use Rattle.page_layout.specs.Heads.{Values, HeadValue, head_of}
use Rattle.page_layout.specs.Slots.{Rows, slot_at, slots_in_page}
use Rattle.page_layout.specs.Bodies.{body_of}
use Rattle.store_image.specs.declared.fault.StoreFault.{StoreFault}
use Rattle.store_image.specs.declared.fault.StoreFault.TheVariants.{Foreign, Damaged, Memory}
use Rattle.store_image.specs.Contents.{kinds_of, count_of_kind, all_slots, node_pages}
use Rattle.store_image.specs.Images.{Image, image_with, number_of, vectors_of, lines_of, kept_in, held_in}

-- what follows where a check passes
abbrev pub and_then : {A B : Type 0} → Result A StoreFault → (A → Result B StoreFault) → Result B StoreFault
and_then (Ok x) next = next x
and_then (Err fault) next = Err fault

-- a check, and what follows where it passes
abbrev pub unless : {A : Type 0} → Bool → StoreFault → Result A StoreFault → Result A StoreFault
unless passes fault next = if passes then next else Err fault

-- the fault of a page, with the number of that page
abbrev pub fault_in : ℕ → layout.LayoutFault → StoreFault
fault_in page layout_fault.Foreign = Foreign
fault_in page (layout_fault.Damaged offset) = Damaged page offset
fault_in page layout_fault.Memory = Memory

abbrev pub in_page : {A : Type 0} → ℕ → Result A layout.LayoutFault → Result A StoreFault
in_page page (Ok x) = Ok x
in_page page (Err fault) = Err (fault_in page fault)

-- page 1, as a head page
unfoldable pub head_in_pages : List (List ℕ) → Result HeadValue StoreFault
head_in_pages pages = in_page 1 (head_of (get_or pages 0 []))

abbrev pub values_of_head : HeadValue → Result Values StoreFault
values_of_head h = Ok h.values

-- the parameters, or why page 1 isn't read
unfoldable pub params_in_pages : List (List ℕ) → Result Values StoreFault
params_in_pages pages = and_then (head_in_pages pages) values_of_head

-- body pages by rising number, from this one on
unfoldable pub bodies_in : Values → ℕ → List (List ℕ) → Result (List Body) StoreFault
bodies_in v page [] = Ok []
bodies_in v page (bytes ∷ more) =
    and_then (in_page page (body_of v bytes)) (λ first. and_then (bodies_in v (page + 1) more) (λ rest. Ok (first ∷ rest)))

-- The most pages of each kind: as many record pages as hold the greatest number of records; a leaf has 7 records or more
-- but in the root, and an inner node 7 leaves or more below each but the root.
abbrev pub record_limit : Values → ℕ
record_limit v = (v.cap + slots_in_page (width_of v.metric v.dim) - 1) / slots_in_page (width_of v.metric v.dim)

abbrev pub leaf_limit : Values → ℕ
leaf_limit v = (v.cap / 7 + 63) / 63

abbrev pub inner_limit : Values → ℕ
inner_limit v = v.cap / 42 + 1

abbrev pub are_few : Values → List Body → Bool
are_few v bodies =
    nat_le (count_of_kind 1 bodies) (record_limit v)
    && (nat_le (count_of_kind 2 bodies) (leaf_limit v) && nat_le (count_of_kind 3 bodies) (inner_limit v))

-- whether the number in a slot, counted over all record pages, stands in an earlier slot too, and the first such slot
abbrev pub is_repeated : List ℕ → ℕ → Bool
is_repeated numbers i = not (get_or numbers i 0 == 0) && list_any (λ n. n == get_or numbers i 0) (take i numbers)

abbrev pub first_repeated : List ℕ → Option ℕ
first_repeated numbers = find (is_repeated numbers) (range_with_len 0 (length numbers))

-- the fault at a field of a slot, counted over all record pages: the field begins so many bytes into the slot
abbrev pub slot_fault : ℕ → List ℕ → ℕ → ℕ → StoreFault
slot_fault width kinds i field =
    Damaged (get_or (pages_from 1 2 kinds) (i / slots_in_page width) 0) (slot_at width (i % slots_in_page width) + field)

-- each number stands in one slot, or else the later slot is damaged at its number
abbrev pub unless_repeated : {A : Type 0} → ℕ → List ℕ → Option ℕ → Result A StoreFault → Result A StoreFault
unless_repeated width kinds None next = next
unless_repeated width kinds (Some i) next = Err (slot_fault width kinds i 0)

-- the slots that are used, in their order
abbrev pub used_slots : List ℕ → List ℕ
used_slots numbers = filter (λ i. not (get_or numbers i 0 == 0)) (range_with_len 0 (length numbers))

-- each anchor is a core and each label is that of a core that is its own, or else the line is damaged there
abbrev pub unless_loose : {A : Type 0} → ℕ → List ℕ → List ℕ → Option Loose → Result A StoreFault → Result A StoreFault
unless_loose width kinds numbers None next = next
unless_loose width kinds numbers (Some (Anchor i)) next = Err (slot_fault width kinds (get_or (used_slots numbers) i 0) 8)
unless_loose width kinds numbers (Some (Label i)) next = Err (slot_fault width kinds (get_or (used_slots numbers) i 0) 12)

-- a tree, or the fault at the place where pages hold none
abbrev pub in_tree : Read → Result PlainTree StoreFault
in_tree (Ok tree) = Ok tree
in_tree (Err place) = Err (Damaged place.0 place.1)

-- the tree of the pages: from the head's root on, over the records
abbrev pub tree_on : HeadValue → List NodePage → held.Rows → Result PlainTree StoreFault
tree_on h pages vectors =
    in_tree (tree_in (distance_of h.values.metric) (width_of h.values.metric h.values.dim) h.height h.root pages vectors)

-- what a head, the slots and the tree are as a store
abbrev pub image_of_parts : HeadValue → Rows → PlainTree → Result Image StoreFault
image_of_parts h slots tree = Ok (image_with h (held_in h.values slots) (kept_in h.values slots tree))

-- the checks behind the grammar of the pages: no more pages than needed, each number once, as many records as the head
-- says, no loose anchor or label, and a tree of the records
abbrev pub checked : HeadValue → List Body → Result Image StoreFault
checked h bodies =
    let width = width_of h.values.metric h.values.dim in
    let kinds = kinds_of bodies in
    let slots = all_slots bodies in
    let numbers = map number_of slots in
    unless (are_few h.values bodies) (Damaged 1 0)
    (unless_repeated width kinds (first_repeated numbers)
    (unless (length (lines_of slots) == h.count) (Damaged 1 32)
    (unless_loose width kinds numbers (first_loose h.values.minpts (lines_of slots))
    (and_then (tree_on h (node_pages bodies) (vectors_of slots)) (image_of_parts h slots)))))

-- what a list of pages says as a store: its head page, its body pages, and what they say together
unfoldable pub load_of : List (List ℕ) → Result Image StoreFault
load_of pages = and_then (head_in_pages pages) (λ h. and_then (bodies_in h.values 2 (drop 1 pages)) (checked h))

-- how many records page 1 says that there are
abbrev pub count_said : List (List ℕ) → ℕ
count_said pages = number_4 32 (get_or pages 0 [])

-- a refusal is the one that is due; want of memory is free
abbrev pub Fails : {A : Type 0} → StoreFault → Result A StoreFault → Type 0
Fails Memory due = Unit {0}
Fails Foreign due = due ≡ Err Foreign
Fails (Damaged page offset) due = due ≡ Err (Damaged page offset)
