-- What single steps of a save come to.
use Rattle.std.specs.Prelude.{◌≡◌, ℕ, ◌+◌, ◌<◌, ◌^◌, ◌==◌, ◌&&◌, nat_eq, nat_lt, Bool, if◌then◌else◌, List, [], ◌∷◌, length, map, take, drop, get_or, unwrap_or, Option, option_map}
use Rattle.std.specs.Cmp.Lexicographic.{pointwise}
use Rattle.vec_record.specs.Held as held
use Rattle.mtree_node.specs.Preorder.{LeafRow, InnerRow}
use Rattle.count_book.specs.declared.row.Row.{Row}
use Rattle.count_book.specs.Counted.{anchor_in}
use Rattle.kept_clusters.specs.Kept.{Kept}
use Rattle.stored_tree.specs.Shapes.{shapes_of}
use Rattle.tree_layout.specs.Layouts.{referred, leaf_for, inner_for}
use Rattle.page_layout.specs.declared.body.Body.{Body}
use Rattle.page_layout.specs.declared.body.Body.TheVariants as body
use Rattle.page_layout.specs.Heads.{Values, HeadValue, plain, head_page}
use Rattle.page_layout.specs.Slots.{Rows}
use Rattle.page_layout.specs.Bodies.{body_bytes}
use Rattle.store_image.specs.declared.layout.Next.{Next}
use Rattle.store_image.specs.declared.filling.Done.{Done}
use Rattle.store_image.specs.Placing.{size_on, slot_for, bodies_with, numbers_after, saved_head, saved_laid}

-- whether the page at a place in a list is there and has these bytes
abbrev pub is_as_was : List (List ℕ) → ℕ → List ℕ → Bool
is_as_was old k new = nat_lt k (length old) && pointwise nat_eq (get_or old k []) new

-- the write of the page at a place, where it differs or is new; the first page has this number
abbrev pub one_write : ℕ → List (List ℕ) → ℕ → List ℕ → List (ℕ × List ℕ)
one_write page old k new = if is_as_was old k new then [] else (page + k, new) ∷ []

-- what the first page holds, by its kind and by the slots, the leaves and the inner nodes from it on
abbrev pub first_body : ℕ → ℕ → Rows → List (List LeafRow) → List (List InnerRow) → Body
first_body size kind slots leaves inners =
    if kind == 1 then body.Slots (take size slots)
    else if kind == 2 then body.Leaves (take 63 leaves)
    else body.Inner (get_or inners 0 [])

-- what stands in the pages before the next one, where one of this kind comes behind
abbrev pub done_after : ℕ → ℕ → Done → Done
done_after size kind done =
    if kind == 1 then record done { slots = done.slots + size }
    else if kind == 2 then record done { leaves = done.leaves + 63 }
    else record done { inners = done.inners + 1 }

-- the record slots, the leaves and the inner nodes of the pages after a save
abbrev pub next_slots : Next → held.Rows → Kept → Rows
next_slots next vectors kept = map (slot_for vectors kept) next.numbers.items

abbrev pub next_leaves : Next → List (List LeafRow)
next_leaves next = map (leaf_for next.shapes) next.laid.leaves.items

abbrev pub next_inners : Next → List (List InnerRow)
next_inners next = map (inner_for next.shapes) next.laid.inners.items

-- the page of a kind, where so much stands in the pages before it
abbrev pub body_behind : ℕ → ℕ → Done → Next → held.Rows → Kept → Body
body_behind size kind done next vectors kept =
    first_body size kind (drop done.slots (next_slots next vectors kept)) (drop done.leaves (next_leaves next))
    (drop done.inners (next_inners next))

-- the pages of these kinds, where so much stands in the pages before them
abbrev pub bodies_behind : ℕ → List ℕ → Done → Next → held.Rows → Kept → List Body
bodies_behind size kinds done next vectors kept =
    bodies_with size kinds (drop done.slots (next_slots next vectors kept)) (drop done.leaves (next_leaves next))
    (drop done.inners (next_inners next))

-- all body pages, and all pages
abbrev pub next_bodies : Values → Next → held.Rows → Kept → List Body
next_bodies v next vectors kept =
    bodies_with (size_on v) next.laid.kinds.items (next_slots next vectors kept) (next_leaves next) (next_inners next)

abbrev pub next_pages : Values → Next → held.Rows → Kept → List (List ℕ)
next_pages v next vectors kept =
    head_page (plain next.head) ∷ map (body_bytes v) (next_bodies v next vectors kept)

-- the count and the anchor of a row have four bytes, and so have those of no row
pub record IsSmallRow (row : Option Row) : Type 0 where
  pub count : unwrap_or (option_map (λ (r : Row). r.count) row) 0 < 2 ^ 32
  pub anchor : unwrap_or (anchor_in row) 0 < 2 ^ 32

-- what comes next is what a save gives of body pages and of what is in memory
pub record IsNext (h : HeadValue) (bodies : List Body) (vectors : held.Rows) (kept : Kept) (next : Next) : Type 0 where
  pub head : plain next.head ≡ saved_head h bodies vectors kept
  pub numbers : next.numbers.items ≡ numbers_after h.values bodies vectors
  pub shapes : next.shapes ≡ map (referred (saved_laid h.values bodies vectors kept).refs) (shapes_of kept.tree)
  pub leaves : next.laid.leaves.items ≡ (saved_laid h.values bodies vectors kept).leaves
  pub inners : next.laid.inners.items ≡ (saved_laid h.values bodies vectors kept).inners
  pub kinds : next.laid.kinds.items ≡ (saved_laid h.values bodies vectors kept).kinds
  pub refs : next.laid.refs.items ≡ (saved_laid h.values bodies vectors kept).refs
