-- Laws over the definitions.
use Rattle.std.specs.Prelude.{◌≡◌, ◌≢◌, ◌⊎◌, ℕ, ◌+◌, ◌*◌, ◌/◌, ◌<◌, ◌≤◌, max, not, List, length, map, count_by}
use Rattle.std.specs.List.{AllByRecursion}
use Rattle.mtree_node.specs.declared.shape.Shape.{Shape}
use Rattle.mtree_node.specs.declared.shape.Shape.TheVariants as shape
use Rattle.node_refs.specs.Laws.{AreLaid}
use Rattle.node_places.specs.declared.nodes.Tagged.{Tagged}
use Rattle.node_places.specs.Nodes.{count_of}
use Rattle.tree_layout.specs.Layouts.{Laid, laid_of, pages_of, tagged}

-- a node has an entry
abbrev pub HasRows : Shape → Type 0
HasRows (shape.Leaf tag rows) = 0 < length rows
HasRows (shape.Inner tag rows) = 0 < length rows

-- a body page has records, leaves or an inner node
abbrev pub IsKind : ℕ → Type 0
IsKind kind = (kind ≡ 1) ⊎ ((kind ≡ 2) ⊎ (kind ≡ 3))

abbrev pub AreKinds : List ℕ → Type 0
AreKinds kinds = AllByRecursion IsKind kinds

-- how many nodes are leaves, and how many aren't
abbrev pub leaf_count : List Shape → ℕ
leaf_count shapes = count_by (λ (node : Tagged). node.leaf) (map tagged shapes)

abbrev pub inner_count : List Shape → ℕ
inner_count shapes = count_by (λ (node : Tagged). not node.leaf) (map tagged shapes)

-- after a save the pages hold the nodes at their references, none twice, and no other place is used
abbrev pub NodesAreLaid : Type 0
NodesAreLaid =
    (kinds : List ℕ) (records : ℕ) (shapes : List Shape) → AreKinds kinds
    → AllByRecursion HasRows shapes
    → AreLaid (pages_of (laid_of kinds records shapes) shapes) shapes
    (laid_of kinds records shapes).refs

-- What the numbers of slots, pages and references are after a save: the slots are those of the
-- pages, there are no more pages of a kind than before or than are needed, and each node has a
-- reference that isn't 0 and names a body page.
pub record AreSized (kinds : List ℕ) (records : ℕ) (shapes : List Shape) (laid : Laid)
    : Type 0 where
  pub kinds_are : AreKinds laid.kinds
  pub leaf_slots_are : length laid.leaves ≡ 63 * count_of 2 laid.kinds
  pub inner_slots_are : length laid.inners ≡ count_of 3 laid.kinds
  pub record_pages : count_of 1 laid.kinds ≡ max (count_of 1 kinds) records
  pub leaf_pages : count_of 2 laid.kinds ≤ max (count_of 2 kinds) ((leaf_count shapes + 62) / 63)
  pub inner_pages : count_of 3 laid.kinds ≤ max (count_of 3 kinds) (inner_count shapes)
  pub refs_are : length laid.refs ≡ length shapes
  pub some : AllByRecursion (λ r. r ≢ 0) laid.refs
  pub below : AllByRecursion (λ r. r / 64 < length laid.kinds + 2) laid.refs

abbrev pub LayoutsAreSized : Type 0
LayoutsAreSized =
    (kinds : List ℕ) (records : ℕ) (shapes : List Shape) → AreKinds kinds
    → AreSized kinds records shapes (laid_of kinds records shapes)
