-- Laws over the definitions.
use Rattle.std.specs.Prelude.{◌≡◌, ℕ, ◌+◌, ◌*◌, ◌<◌, ◌≤◌, true, ◌==◌, List, length, map, count_by, slice_index, Some}
use Rattle.std.specs.List.{AllByRecursion, AllZip}
use Rattle.std.specs.FinMap as finite
use Rattle.mtree_node.specs.declared.node.Node.{Node}
use Rattle.mtree_node.specs.declared.shape.Shape.{Shape}
use Rattle.mtree_node.specs.declared.shape.Shape.TheVariants as shape
use Rattle.mtree_node.specs.Preorder.{InnerRow, preorder, retagged}
use Rattle.mtree_node.specs.Tree.{IsTree}
use Rattle.mtree_node.specs.Laws.{tag_of}
use Rattle.mtree_node.specs.Walk.{is_of_level, first_failing, HasObjectsIn, CanBeBuilt}
use Rattle.mtree_node.specs.declared.shape.BadPlace.{BadPlace}
use Rattle.vec_record.specs.Held.{Rows}
use Rattle.node_refs.specs.declared.pages.NodePage.{NodePage}
use Rattle.node_refs.specs.declared.pages.NodePage.TheVariants as page
use Rattle.node_refs.specs.declared.listing.Listed.{Listed}
use Rattle.node_refs.specs.Pages.{leaf_at, inner_at, is_in, is_used, used_refs, HasSlots, is_leaf_page, is_inner_page}
use Rattle.node_refs.specs.Listing.{placed, listed}
use Rattle.node_refs.specs.Faults.{IsInside}

-- no reference stands twice
abbrev pub AreOnce : List ℕ → Type 0
AreOnce refs = (r : ℕ) → count_by (λ q. q == r) refs ≤ 1

-- a row with the reference of the child for its place
abbrev pub referring : List ℕ → InnerRow → InnerRow
referring refs row = placed (slice_index refs row.0) row

-- at a reference stand the rows of a shape, with the references of the children for their places
abbrev pub Stands : List NodePage → List ℕ → Shape → ℕ → Type 0
Stands pages refs (shape.Leaf tag rows) r = leaf_at pages r ≡ rows
Stands pages refs (shape.Inner tag rows) r = inner_at pages r ≡ map (referring refs) rows

-- pages hold shapes at references: one for each shape, none twice, and no other place is used
pub record AreLaid (pages : List NodePage) (shapes : List Shape) (refs : List ℕ) : Type 0 where
  pub stand : AllZip (Stands pages refs) shapes refs
  pub once : AreOnce refs
  pub only : AllByRecursion (λ r. is_in refs r ≡ true) (used_refs pages)

-- the shapes and references of a list, together
abbrev pub laid : List Shape → List ℕ → Listed
laid shapes refs = record { shapes = shapes; refs = refs }

-- the nodes of a tree that pages hold are listed from the root's reference as the preorder of that
-- tree, with the references for the tags
abbrev pub TreesAreListed : Type 0
TreesAreListed =
    (dist : List ℕ → List ℕ → ℕ) (width greatest h : ℕ) (n : Node) (pages : List NodePage)
    (refs : List ℕ) → IsTree dist width greatest h n → AreLaid pages (preorder h n) refs
    → listed pages h (slice_index refs 0) ≡ laid (preorder h (retagged refs h n)) refs

-- the root of a tree that pages hold is at a used place of its level's kind
abbrev pub RootsAreUsed : Type 0
RootsAreUsed =
    (dist : List ℕ → List ℕ → ℕ) (width greatest h : ℕ) (n : Node) (pages : List NodePage)
    (refs : List ℕ) → IsTree dist width greatest h n → AreLaid pages (preorder h n) refs
    → is_used h pages (slice_index refs 0) ≡ true

-- where the listed nodes are the preorder of a tree, the pages hold that tree, and no other place
-- is used
abbrev pub TreesAreLaid : Type 0
TreesAreLaid =
    (dist : List ℕ → List ℕ → ℕ) (width greatest h : ℕ) (n : Node) (pages : List NodePage)
    (root : ℕ) → IsTree dist width greatest h n → AllByRecursion HasSlots pages
    → is_used h pages root ≡ true → length (listed pages h root).shapes ≤ 200000
    → (listed pages h root).shapes ≡ preorder h n
    → AreLaid pages (preorder h n) (listed pages h root).refs

-- the root's reference is the first
abbrev pub RootsStandFirst : Type 0
RootsStandFirst =
    (pages : List NodePage) (height root : ℕ) → 0 < height
    → slice_index (listed pages height root).refs 0 ≡ root

-- as many nodes as references are listed
abbrev pub EachHasOne : Type 0
EachHasOne =
    (pages : List NodePage) (height root : ℕ)
    → length (listed pages height root).shapes ≡ length (listed pages height root).refs

-- no place is listed twice
abbrev pub NoneTwice : Type 0
NoneTwice =
    (pages : List NodePage) (height root : ℕ) → AllByRecursion HasSlots pages
    → is_used height pages root ≡ true → AreOnce (listed pages height root).refs

-- how many nodes pages have room for: 63 leaves a leaf page, and one inner node an inner page
abbrev pub places_in : List NodePage → ℕ
places_in pages = 63 * count_by is_leaf_page pages + count_by is_inner_page pages

-- no more nodes are listed than there are places
abbrev pub FewNodes : Type 0
FewNodes =
    (pages : List NodePage) (height root : ℕ) → AllByRecursion HasSlots pages
    → is_used height pages root ≡ true
    → length (listed pages height root).refs ≤ places_in pages

-- each listed node has its reference for the tag
abbrev pub TagsAreReferences : Type 0
TagsAreReferences =
    (pages : List NodePage) (height root : ℕ)
    → map tag_of (listed pages height root).shapes ≡ (listed pages height root).refs

-- the first node listed is of the root's level
abbrev pub RootsAreFirst : Type 0
RootsAreFirst =
    (pages : List NodePage) (height root : ℕ) → 0 < height
    → is_of_level height (listed pages height root).shapes ≡ true

-- the objects of an inner page have a width, and its radii are at most the greatest distance
abbrev pub PageHasObjectsIn : ℕ → ℕ → NodePage → Type 0
PageHasObjectsIn width greatest page.Records = Unit {0}
PageHasObjectsIn width greatest (page.Leaves slots) = Unit {0}
PageHasObjectsIn width greatest (page.Inner rows) =
    AllByRecursion (λ (row : InnerRow). (length row.3 ≡ width) × (row.2 ≤ greatest)) rows

-- the listed inner nodes have objects and radii of the bounds that the pages keep
abbrev pub ObjectsAreKept : Type 0
ObjectsAreKept =
    (width greatest : ℕ) (pages : List NodePage) (height root : ℕ)
    → AllByRecursion (PageHasObjectsIn width greatest) pages
    → AllByRecursion (HasObjectsIn width greatest) (listed pages height root).shapes

-- where a walk over the listed nodes fails, the place names one of them and one of few entries, or
-- a record that none names
abbrev pub FailsInside : Type 0
FailsInside =
    (dist : List ℕ → List ℕ → ℕ) (pages : List NodePage) (height root : ℕ) (rows : Rows)
    (p : BadPlace) → 0 < height
    → first_failing dist height (listed pages height root).shapes rows ≡ Some p
    → IsInside (listed pages height root) p

-- the listed nodes can be asked whether they are a tree over records, where the pages have room for
-- few nodes
abbrev pub ListedCanBeBuilt : Type 0
ListedCanBeBuilt =
    (width greatest : ℕ) (pages : List NodePage) (height root : ℕ) (rows : Rows)
    → AllByRecursion HasSlots pages → AllByRecursion (PageHasObjectsIn width greatest) pages
    → is_used height pages root ≡ true → places_in pages ≤ 200000
    → 0 < height → height ≤ 6 → 0 < finite.len rows
    → CanBeBuilt width greatest height (listed pages height root).shapes rows
