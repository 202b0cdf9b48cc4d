-- What the body pages of a store hold, by kind.
use Rattle.std.specs.Prelude.{ℕ, ◌==◌, List, [], map, count_by}
use Rattle.std.specs.List.{flat_map}
use Rattle.node_refs.specs.declared.pages.NodePage.{NodePage}
use Rattle.node_refs.specs.declared.pages.NodePage.TheVariants as node_page
use Rattle.page_layout.specs.declared.body.Body.{Body}
use Rattle.page_layout.specs.declared.body.Body.TheVariants as body
use Rattle.page_layout.specs.Slots.{Rows}

-- the kind of a body page: 1 records, 2 leaves, 3 an inner node
abbrev pub kind_of : Body → ℕ
kind_of (body.Slots slots) = 1
kind_of (body.Leaves leaves) = 2
kind_of (body.Inner rows) = 3

abbrev pub kinds_of : List Body → List ℕ
kinds_of bodies = map kind_of bodies

-- how many body pages are of a kind
abbrev pub count_of_kind : ℕ → List Body → ℕ
count_of_kind kind bodies = count_by (λ k. k == kind) (kinds_of bodies)

-- the slots of the record pages, in the order of the pages
abbrev pub slots_of : Body → Rows
slots_of (body.Slots slots) = slots
slots_of (body.Leaves leaves) = []
slots_of (body.Inner rows) = []

abbrev pub all_slots : List Body → Rows
all_slots bodies = flat_map slots_of bodies

-- the pages as far as the tree is concerned
abbrev pub node_page_of : Body → NodePage
node_page_of (body.Slots slots) = node_page.Records
node_page_of (body.Leaves leaves) = node_page.Leaves leaves
node_page_of (body.Inner rows) = node_page.Inner rows

abbrev pub node_pages : List Body → List NodePage
node_pages bodies = map node_page_of bodies
