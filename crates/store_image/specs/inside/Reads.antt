-- What single steps of a load come to.
use Rattle.std.specs.Prelude.{◌≡◌, ℕ, ◌+◌, ◌<◌, ◌≤◌, ◌^◌, ◌==◌, IsTrue, is_some, List, ◌++◌, length, map, Option, Some, None, Result, Ok}
use Rattle.std.specs.List.{AllByRecursion, list_any}
use Rattle.std.specs.FinMap as maps
use Rattle.vec_record.specs.Held as held
use Rattle.vec_record.specs.Distance.{greatest_of}
use Rattle.vec_record.specs.Limits.{width_of}
use Rattle.vec_record.specs.Spelled.{is_spelled}
use Rattle.mtree_index.specs.Plain.{PlainTree}
use Rattle.node_refs.specs.declared.pages.NodePage.{NodePage}
use Rattle.node_refs.specs.Pages.{HasSlots}
use Rattle.node_refs.specs.Laws.{places_in, PageHasObjectsIn}
use Rattle.stored_tree.specs.Laws.{PageHasVectors, PagePasses}
use Rattle.stored_lines.specs.declared.line.Line.{Line}
use Rattle.stored_lines.specs.declared.fault.Loose.{Loose}
use Rattle.stored_lines.specs.Lines as lines_in
use Rattle.page_layout.specs.declared.slot.Slot.{Slot}
use Rattle.page_layout.specs.declared.body.Body.{Body}
use Rattle.page_layout.specs.Heads.{Values, HeadValue}
use Rattle.page_layout.specs.Slots.{Rows, IsRow}
use Rattle.store_image.specs.declared.fault.StoreFault.{StoreFault}
use Rattle.store_image.specs.declared.fault.StoreFault.TheVariants.{Foreign, Damaged, Memory}
use Rattle.store_image.specs.declared.sorted.Sorted.{Sorted}
use Rattle.store_image.specs.Contents.{kinds_of, all_slots, node_pages}
use Rattle.store_image.specs.Images.{Image, image_with, number_of, vectors_of, lines_of}
use Rattle.store_image.specs.Loading.{and_then, unless, bodies_in, are_few, first_repeated, slot_fault, unless_repeated, unless_loose, tree_on}
use Rattle.store_image.specs.Placing.{CanStand}

-- the body pages from this number on, behind pages that were read before
abbrev pub bodies_behind : Values → ℕ → List (List ℕ) → List Body → Result (List Body) StoreFault
bodies_behind v page pages bodies =
    and_then (bodies_in v page pages) (λ rest. Ok (bodies ++ rest))

-- whether each number stands in one slot, or where one stands again
abbrev pub repeats : Values → List ℕ → List ℕ → Result (Unit {0}) StoreFault
repeats v kinds numbers =
    unless_repeated (width_of v.metric v.dim) kinds (first_repeated numbers) (Ok tt)

-- the same behind the count of the pages
abbrev pub parted : Values → List Body → Result (Unit {0}) StoreFault
parted v bodies =
    unless (are_few v bodies) (Damaged 1 0)
    (repeats v (kinds_of bodies) (map number_of (all_slots bodies)))

-- whether no line is loose, or the fault at the slot of the first that is
abbrev pub tied_at : Values → List ℕ → List ℕ → Option Loose → Result (Unit {0}) StoreFault
tied_at v kinds numbers loose = unless_loose (width_of v.metric v.dim) kinds numbers loose (Ok tt)

abbrev pub ties : Values → List ℕ → List ℕ → List Line → Result (Unit {0}) StoreFault
ties v kinds numbers lines = tied_at v kinds numbers (lines_in.first_loose v.minpts lines)

-- the line of a used slot
abbrev pub line_with : Slot → Line
line_with s = record { number = s.number; count = s.count; anchor = s.anchor; label = s.label }

-- why a record isn't taken: memory is wanting, or its number is there already and stands again in
-- the slot at a place
abbrev pub MayRepeat : Values → List ℕ → ℕ → Option (List ℕ) → StoreFault → Type 0
MayRepeat v kinds place there Memory = Unit {0}
MayRepeat v kinds place there Foreign = ⊥
MayRepeat v kinds place None (Damaged page offset) = ⊥
MayRepeat v kinds place (Some vector) (Damaged page offset) =
    Damaged page offset ≡ slot_fault (width_of v.metric v.dim) kinds place 0

-- Lines and records that were taken together: the lines are lawful, and both have the same numbers.
pub record AreTied (v : Values) (lines : List Line) (vectors : held.Rows) : Type 0 where
  pub lawful : lines_in.AreLines v.minpts lines
  pub count : maps.len vectors ≡ length lines
  pub tied :
      (a : ℕ) → is_some (maps.get vectors a) ≡ list_any (λ n. n == a) (map lines_in.number_of lines)
  pub stand : AllByRecursion (CanStand v) (maps.entries vectors)

-- The slots of all pages, some of which are taken: their numbers, each once, their lines and their
-- records.
pub record Taking
    (v : Values) (all rest : Rows) (numbers : List ℕ) (lines : List Line)
    (records : held.Held) : Type 0 where
  pub done : Rows
  pub parts : all ≡ done ++ rest
  pub lawful : AllByRecursion (IsRow v) rest
  pub numbers_are : numbers ≡ map number_of done
  pub once : first_repeated numbers ≡ None
  pub lines_are : lines ≡ lines_of done
  pub records_are :
      records ≡ record { width = width_of v.metric v.dim; vectors = vectors_of done }
  pub tied : AreTied v lines records.vectors

-- all of them are taken
pub record Took
    (v : Values) (all : Rows) (numbers : List ℕ) (lines : List Line)
    (records : held.Held) : Type 0 where
  pub numbers_are : numbers ≡ map number_of all
  pub once : first_repeated (map number_of all) ≡ None
  pub lines_are : lines ≡ lines_of all
  pub records_are :
      records ≡ record { width = width_of v.metric v.dim; vectors = vectors_of all }
  pub tied : AreTied v lines records.vectors

-- a page of the tree in its grammar: few slots, and vectors of the width with no bit past their last
pub record IsNodePage (v : Values) (page : NodePage) : Type 0 where
  pub slots : HasSlots page
  pub objects :
      PageHasObjectsIn (width_of v.metric v.dim) (greatest_of v.metric (width_of v.metric v.dim)) page
  pub vectors : PageHasVectors (width_of v.metric v.dim) page
  pub passes : PagePasses (is_spelled v.metric v.dim) page

-- what is known of parts of the body pages, whatever the pages were
pub record AreSorted (v : Values) (parts : Sorted) : Type 0 where
  pub pages : length parts.kinds.items + 2 < 2 ^ 26
  pub nodes_few : length parts.nodes.items + 2 < 2 ^ 26
  pub room : places_in parts.nodes.items ≤ 200000
  pub nodes : AllByRecursion (IsNodePage v) parts.nodes.items
  pub width : parts.records.width ≡ width_of v.metric v.dim
  pub tied : AreTied v parts.lines.items parts.records.vectors

-- the parts are those of these body pages, which are few enough, and no number stands in two slots
pub record ArePartsOf (v : Values) (bodies : List Body) (parts : Sorted) : Type 0 where
  pub few : IsTrue (are_few v bodies)
  pub once : first_repeated (map number_of (all_slots bodies)) ≡ None
  pub kinds : parts.kinds.items ≡ kinds_of bodies
  pub numbers : parts.numbers.items ≡ map number_of (all_slots bodies)
  pub lines : parts.lines.items ≡ lines_of (all_slots bodies)
  pub nodes : parts.nodes.items ≡ node_pages bodies
  pub vectors : parts.records.vectors ≡ vectors_of (all_slots bodies)
  pub sorted : AreSorted v parts

-- what parts and a tree are as a store
abbrev pub image_by : HeadValue → Sorted → PlainTree → Image
image_by h parts tree = image_with h
    (record { width = width_of h.values.metric h.values.dim; vectors = parts.records.vectors })
    (record {
      eps = h.values.eps;
      tree = tree;
      counts = record { minpts = h.values.minpts; rows = lines_in.rows_of parts.lines.items };
      labels = lines_in.labels_of h.values.minpts parts.lines.items;
    })

-- the checks that remain where pages are taken apart: as many records as the head says, no loose
-- line, and a tree of the records
abbrev pub remaining : HeadValue → Sorted → Result Image StoreFault
remaining h parts =
    unless (length parts.lines.items == h.count) (Damaged 1 32)
    (unless_loose (width_of h.values.metric h.values.dim) parts.kinds.items parts.numbers.items
    (lines_in.first_loose h.values.minpts parts.lines.items)
    (and_then (tree_on h parts.nodes.items parts.records.vectors) (λ tree. Ok (image_by h parts tree))))
