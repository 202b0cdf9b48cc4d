-- How a save gives places, and the pages that it leads to.
use Rattle.std.specs.Prelude.{◌≡◌, ◌≢◌, ℕ, ◌+◌, ◌/◌, ◌<◌, ◌≤◌, ◌^◌, ◌==◌, nat_eq, if◌then◌else◌, List, [], ◌∷◌, length, drop, take, map, get_or, unwrap_or, Option, Some, None, Result, Ok, Err, IsTrue}
use Rattle.std.specs.Cmp.Lexicographic.{pointwise}
use Rattle.std.specs.List.{AllByRecursion}
use Rattle.std.specs.FinMap as maps
use Rattle.vec_record.specs.Held as held
use Rattle.vec_record.specs.Vectors.{IsVector}
use Rattle.vec_record.specs.Limits.{width_of}
use Rattle.vec_record.specs.Spelled.{is_spelled}
use Rattle.vec_record.specs.Distance.{greatest_of}
use Rattle.mtree_node.specs.Preorder.{LeafRow, InnerRow}
use Rattle.mtree_index.specs.Plain.{PlainTree}
use Rattle.mtree_index.specs.Tree.{IsLawful}
use Rattle.tree_objects.specs.Laws.{AllPass}
use Rattle.node_places.specs.Slots.{record_slots, AreApart}
use Rattle.count_book.specs.declared.row.Row.{Row}
use Rattle.stored_lines.specs.declared.line.Line.{Line}
use Rattle.stored_lines.specs.Lines.{line_in}
use Rattle.kept_clusters.specs.Kept.{Kept, Fit, with_tags}
use Rattle.stored_tree.specs.Shapes.{shapes_of}
use Rattle.tree_layout.specs.Layouts.{Laid, laid_of, referred, leaf_for, inner_for}
use Rattle.page_layout.specs.declared.slot.Slot.{Slot}
use Rattle.page_layout.specs.declared.body.Body.{Body}
use Rattle.page_layout.specs.declared.body.Body.TheVariants as body
use Rattle.page_layout.specs.Heads.{Values, HeadValue, IsHead, head_page}
use Rattle.page_layout.specs.Slots.{Rows, slots_in_page}
use Rattle.page_layout.specs.Bodies.{body_bytes}
use Rattle.store_image.specs.declared.fault.StoreFault.{StoreFault}
use Rattle.store_image.specs.declared.loaded.Places.{Places}
use Rattle.store_image.specs.Contents.{kinds_of, all_slots}
use Rattle.store_image.specs.Images.{Image, image_with, number_of}
use Rattle.store_image.specs.Loading.{head_in_pages, bodies_in, are_few}

-- how many slots a record page has under parameters
abbrev pub size_on : Values → ℕ
size_on v = slots_in_page (width_of v.metric v.dim)

-- the numbers by record slot after a save of records, where the body pages were these
abbrev pub numbers_after : Values → List Body → held.Rows → List ℕ
numbers_after v bodies vectors =
    record_slots (size_on v) vectors (map number_of (all_slots bodies))

-- the nodes by leaf slot and by inner page, the kinds of the body pages and the nodes' references after a save of a tree,
-- where the numbers stand in these slots
abbrev pub laid_after : Values → List Body → List ℕ → PlainTree → Laid
laid_after v bodies numbers tree =
    laid_of (kinds_of bodies) (length numbers / size_on v) (shapes_of tree)

-- what a slot holds after a save: the record of a number with its line
abbrev pub slot_with : List ℕ → Line → Slot
slot_with vector line = record {
  number = line.number;
  count = line.count;
  anchor = line.anchor;
  label = line.label;
  vector = vector;
}

abbrev pub slot_for : held.Rows → Kept → ℕ → Option Slot
slot_for vectors kept n =
    if n == 0 then None
    else Some (slot_with (unwrap_or (maps.get vectors n) []) (line_in kept.counts kept.labels n))

-- body pages of these kinds that hold, one after another, these slots, leaves and inner nodes
abbrev pub bodies_with :
    ℕ → List ℕ → Rows → List (List LeafRow) → List (List InnerRow) → List Body
bodies_with size [] slots leaves inners = []
bodies_with size (kind ∷ kinds) slots leaves inners =
    if kind == 1 then body.Slots (take size slots) ∷ bodies_with size kinds (drop size slots) leaves inners
    else if kind == 2 then body.Leaves (take 63 leaves) ∷ bodies_with size kinds slots (drop 63 leaves) inners
    else body.Inner (get_or inners 0 []) ∷ bodies_with size kinds slots leaves (drop 1 inners)

-- the body pages where the numbers stand in these slots and the nodes are laid so
abbrev pub bodies_by : Values → List ℕ → Laid → held.Rows → Kept → List Body
bodies_by v numbers laid vectors kept =
    let nodes = map (referred laid.refs) (shapes_of kept.tree) in
    bodies_with (size_on v) laid.kinds (map (slot_for vectors kept) numbers)
    (map (leaf_for nodes) laid.leaves) (map (inner_for nodes) laid.inners)

-- the body pages after a save
abbrev pub saved_bodies : Values → List Body → held.Rows → Kept → List Body
saved_bodies v bodies vectors kept =
    let numbers = numbers_after v bodies vectors in
    bodies_by v numbers (laid_after v bodies numbers kept.tree) vectors kept

-- the nodes where they stand after a save
abbrev pub saved_laid : Values → List Body → held.Rows → Kept → Laid
saved_laid v bodies vectors kept = laid_after v bodies (numbers_after v bodies vectors) kept.tree

-- the head after a save: one batch more
abbrev pub head_with : HeadValue → Laid → held.Rows → PlainTree → HeadValue
head_with h laid vectors tree = record h {
  pages = 2 + length laid.kinds;
  batches = h.batches + 1;
  count = maps.len vectors;
  root = get_or laid.refs 0 0;
  height = tree.height;
}

abbrev pub saved_head : HeadValue → List Body → held.Rows → Kept → HeadValue
saved_head h bodies vectors kept = head_with h (saved_laid h.values bodies vectors kept) vectors kept.tree

-- the pages and the store after a save of these records and clusters, where head and body pages were these
unfoldable pub saved_pages : HeadValue → List Body → held.Rows → Kept → List (List ℕ)
saved_pages h bodies vectors kept =
    head_page (saved_head h bodies vectors kept)
    ∷ map (body_bytes h.values) (saved_bodies h.values bodies vectors kept)

abbrev pub saved_image : HeadValue → List Body → held.Held → Kept → Image
saved_image h bodies records kept =
    image_with (saved_head h bodies records.vectors kept) records
    (with_tags (saved_laid h.values bodies records.vectors kept).refs kept)

-- the writes that lead from pages to pages: those that differ, and the new ones, by rising number from this one on
abbrev pub writes_from : ℕ → List (List ℕ) → List (List ℕ) → List (ℕ × List ℕ)
writes_from page old [] = []
writes_from page [] (new ∷ more) = (page, new) ∷ writes_from (page + 1) [] more
writes_from page (was ∷ old) (new ∷ more) =
    if pointwise nat_eq was new then writes_from (page + 1) old more
    else (page, new) ∷ writes_from (page + 1) old more

-- the pages have this head and these body pages, no more than needed, and no number stands in two slots
pub record ArePagesOf (h : HeadValue) (bodies : List Body) (pages : List (List ℕ)) : Type 0 where
  pub head : head_in_pages pages ≡ Ok h
  pub bodies_are : bodies_in h.values 2 (drop 1 pages) ≡ Ok bodies
  pub few : IsTrue (are_few h.values bodies)
  pub once : AreApart (map number_of (all_slots bodies))

-- the body pages of a list of pages, none where they aren't in their grammar
abbrev pub bodies_if_read : Result (List Body) StoreFault → List Body
bodies_if_read (Ok bodies) = bodies
bodies_if_read (Err fault) = []

abbrev pub bodies_on : HeadValue → List (List ℕ) → List Body
bodies_on h pages = bodies_if_read (bodies_in h.values 2 (drop 1 pages))

-- the pages, and the store, after a save where the pages were these
abbrev pub saved_on : HeadValue → List (List ℕ) → held.Rows → Kept → List (List ℕ)
saved_on h pages vectors kept = saved_pages h (bodies_on h pages) vectors kept

abbrev pub image_on : HeadValue → List (List ℕ) → held.Held → Kept → Image
image_on h pages records kept = saved_image h (bodies_on h pages) records kept

-- the pages have this head, and their kinds and the numbers in their record slots are these
pub record IsPaged (h : HeadValue) (places : Places) (pages : List (List ℕ)) : Type 0 where
  pub are : ArePagesOf h (bodies_on h pages) pages
  pub kinds : places.kinds.items ≡ kinds_of (bodies_on h pages)
  pub numbers : places.numbers.items ≡ map number_of (all_slots (bodies_on h pages))

-- a record that a page can hold: its number isn't 0, and its vector has the width and no bit past its last
pub record CanStand (v : Values) (e : ℕ × List ℕ) : Type 0 where
  pub number : e.0 ≢ 0
  pub vector : IsVector (width_of v.metric v.dim) e.1
  pub spelled : IsTrue (is_spelled v.metric v.dim e.1)

-- records that a store with this head can hold after one more batch
pub record CanSave (h : HeadValue) (records : held.Held) : Type 0 where
  pub width : records.width ≡ width_of h.values.metric h.values.dim
  pub few : maps.len records.vectors ≤ h.values.cap
  pub batches : h.batches < 4294967295
  pub each : AllByRecursion (CanStand h.values) (maps.entries records.vectors)

-- what is kept of the clusters of records under parameters: the tree holds the records, the books have their form, and
-- no routing object has a bit past its last
pub record IsKept (v : Values) (records : held.Held) (kept : Kept) : Type 0 where
  pub eps : kept.eps ≡ v.eps
  pub minpts : kept.counts.minpts ≡ v.minpts
  pub fits : Fit records kept
  pub spelled : AllPass (is_spelled v.metric v.dim) kept.tree

-- what of records and clusters a page has four bytes for: numbers, counts, anchors, and distances of vectors of the width
pub record AreBounded (dist : List ℕ → List ℕ → ℕ) (records : held.Held) (kept : Kept) : Type 0 where
  pub numbers : (a : ℕ) (x : List ℕ) → maps.get records.vectors a ≡ Some x → a < 2 ^ 32
  pub counts : (a : ℕ) (r : Row) → maps.get kept.counts.rows a ≡ Some r → r.count < 2 ^ 32
  pub anchors :
      (a : ℕ) (r : Row) (b : ℕ) → maps.get kept.counts.rows a ≡ Some r → r.anchor ≡ Some b
      → b < 2 ^ 32
  pub distances :
      (u x : List ℕ) → IsVector records.width u → IsVector records.width x → dist u x < 2 ^ 32

-- what a save needs of the store before it, beside its pages: a lawful head, and records and clusters that pages can hold
pub record CanBeSaved
    (dist : List ℕ → List ℕ → ℕ) (most : ℕ → ℕ) (h : HeadValue) (records : held.Held)
    (kept : Kept) : Type 0 where
  pub head : IsHead h
  pub can : CanSave h records
  pub kept_is : IsKept h.values records kept
  pub lawful : IsLawful dist most kept.tree
  pub greatest : most kept.tree.width ≤ greatest_of h.values.metric kept.tree.width
  pub bounded : AreBounded dist records kept
