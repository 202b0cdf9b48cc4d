-- What stands at a reference in body pages.
use Rattle.std.specs.Prelude.{ℕ, ◌+◌, ◌-◌, ◌*◌, ◌/◌, ◌%◌, ◌≤◌, Bool, true, false, ◌&&◌, ◌==◌, not, if◌then◌else◌, nat_eq, nat_lt, nat_le, List, [], ◌∷◌, ◌++◌, length, slice_index_or}
use Rattle.std.specs.List.{list_any}
use Rattle.mtree_node.specs.Preorder.{LeafRow, InnerRow}
use Rattle.mtree_node.specs.declared.shape.Shape.{Shape}
use Rattle.mtree_node.specs.declared.shape.Shape.TheVariants as shape
use Rattle.node_refs.specs.declared.pages.NodePage.{NodePage}
use Rattle.node_refs.specs.declared.pages.NodePage.TheVariants as page

-- the page with a number. They count from 2, and where there is none, nothing of the tree stands
abbrev pub page_at : List NodePage → ℕ → NodePage
page_at pages number =
    if nat_le 2 number then slice_index_or pages (number - 2) page.Records else page.Records

-- the entries in a slot of a leaf page
abbrev pub leaf_in : NodePage → ℕ → List LeafRow
leaf_in page.Records slot = []
leaf_in (page.Leaves slots) slot = slice_index_or slots slot []
leaf_in (page.Inner rows) slot = []

-- the entries of an inner page
abbrev pub inner_in : NodePage → List InnerRow
inner_in page.Records = []
inner_in (page.Leaves slots) = []
inner_in (page.Inner rows) = rows

-- the entries of the leaf at a reference, which is 64 for each page and the slot; none where the
-- place is free or no leaf's
abbrev pub leaf_at : List NodePage → ℕ → List LeafRow
leaf_at pages r = leaf_in (page_at pages (r / 64)) (r % 64)

-- the entries of the inner node at a reference, which is 64 for each page; none where the place is
-- free or no inner node's
abbrev pub inner_at : List NodePage → ℕ → List InnerRow
inner_at pages r = if nat_eq (r % 64) 0 then inner_in (page_at pages (r / 64)) else []

-- whether a reference names a used place of a level's kind: a leaf at level 1, an inner node above
abbrev pub is_used : ℕ → List NodePage → ℕ → Bool
is_used level pages r =
    if nat_eq level 1 then nat_lt 0 (length (leaf_at pages r))
    else nat_lt 0 (length (inner_at pages r))

-- whether a reference is one of these
abbrev pub is_in : List ℕ → ℕ → Bool
is_in refs r = list_any (λ q. q == r) refs

-- whether a reference names a used place of a level's kind that no earlier one named
abbrev pub is_good : ℕ → List NodePage → List ℕ → ℕ → Bool
is_good level pages seen r = is_used level pages r && not (is_in seen r)

abbrev pub shape_in : ℕ → NodePage → Shape
shape_in r page.Records = shape.Leaf r []
shape_in r (page.Leaves slots) = shape.Leaf r (leaf_in (page.Leaves slots) (r % 64))
shape_in r (page.Inner rows) = shape.Inner r rows

-- what stands at a reference, as a shape with the reference as its tag
abbrev pub shape_at : List NodePage → ℕ → Shape
shape_at pages r = shape_in r (page_at pages (r / 64))

-- the references of the used slots of a leaf page, the first slot's being this one
abbrev pub slot_refs : ℕ → List (List LeafRow) → List ℕ
slot_refs r [] = []
slot_refs r ([] ∷ slots) = slot_refs (r + 1) slots
slot_refs r ((row ∷ rows) ∷ slots) = r ∷ slot_refs (r + 1) slots

-- the references of the used places of a page, by slot
abbrev pub page_refs : ℕ → NodePage → List ℕ
page_refs number page.Records = []
page_refs number (page.Leaves slots) = slot_refs (64 * number) slots
page_refs number (page.Inner []) = []
page_refs number (page.Inner (row ∷ rows)) = 64 * number ∷ []

-- the references of the used places of pages that are numbered from one on, by page and then slot
abbrev pub refs_from : ℕ → List NodePage → List ℕ
refs_from number [] = []
refs_from number (page ∷ pages) = page_refs number page ++ refs_from (number + 1) pages

-- the references of all used places, by page and then slot
abbrev pub used_refs : List NodePage → List ℕ
used_refs pages = refs_from 2 pages

-- a leaf page has at most 63 slots
abbrev pub HasSlots : NodePage → Type 0
HasSlots page.Records = Unit {0}
HasSlots (page.Leaves slots) = length slots ≤ 63
HasSlots (page.Inner rows) = Unit {0}

abbrev pub is_leaf_page : NodePage → Bool
is_leaf_page page.Records = false
is_leaf_page (page.Leaves slots) = true
is_leaf_page (page.Inner rows) = false

abbrev pub is_inner_page : NodePage → Bool
is_inner_page page.Records = false
is_inner_page (page.Leaves slots) = false
is_inner_page (page.Inner rows) = true
