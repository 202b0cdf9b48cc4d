-- Where a save puts the nodes of a tree, and the pages that hold them.
use Rattle.std.specs.Prelude.{ℕ, ◌-◌, ◌/◌, ◌==◌, true, false, if◌then◌else◌, List, [], ◌∷◌, length, map, take, drop, get_or, slice_get, Option, Some, None}
use Rattle.mtree_node.specs.declared.shape.Shape.{Shape}
use Rattle.mtree_node.specs.declared.shape.Shape.TheVariants as shape
use Rattle.mtree_node.specs.Preorder.{LeafRow, InnerRow}
use Rattle.node_refs.specs.declared.pages.NodePage.{NodePage}
use Rattle.node_refs.specs.declared.pages.NodePage.TheVariants as page
use Rattle.node_refs.specs.Laws.{referring}
use Rattle.node_places.specs.declared.nodes.Tagged.{Tagged}
use Rattle.node_places.specs.Nodes.{leaf_slots, inner_slots, kinds_after, refs_after}

-- whether a node is a leaf, and its tag
abbrev pub tagged : Shape → Tagged
tagged (shape.Leaf tag rows) = record { leaf = true; tag = tag }
tagged (shape.Inner tag rows) = record { leaf = false; tag = tag }

-- The nodes by leaf slot and by inner page, counted from 1 in preorder, 0 where it is free; then the
-- kinds of the body pages, and the reference of each node.
pub record Laid : Type 0 where
  pub leaves : List ℕ
  pub inners : List ℕ
  pub kinds : List ℕ
  pub refs : List ℕ

abbrev pub laid_by : List ℕ → List ℕ → List ℕ → List Tagged → Laid
laid_by kinds leaves inners nodes = record {
  leaves = leaves;
  inners = inners;
  kinds = kinds;
  refs = refs_after kinds leaves inners nodes;
}

abbrev pub laid_with : List ℕ → ℕ → List ℕ → List ℕ → List Tagged → Laid
laid_with kinds records leaves inners nodes =
    laid_by (kinds_after kinds records (length leaves / 63) (length inners)) leaves inners nodes

-- where the nodes of a tree stand after a save, where the body pages had these kinds and the records
-- need so many pages
abbrev pub laid_of : List ℕ → ℕ → List Shape → Laid
laid_of kinds records shapes =
    laid_with kinds records (leaf_slots kinds (map tagged shapes))
    (inner_slots kinds (map tagged shapes)) (map tagged shapes)

-- the node with a number, counted from 1; none for 0
abbrev pub node_at : List Shape → ℕ → Option Shape
node_at shapes i = if i == 0 then None else slice_get shapes (i - 1)

-- the entries of a leaf, none of another node
abbrev pub leaf_rows : Option Shape → List LeafRow
leaf_rows None = []
leaf_rows (Some (shape.Leaf tag rows)) = rows
leaf_rows (Some (shape.Inner tag rows)) = []

-- the entries of an inner node, none of another
abbrev pub inner_rows : Option Shape → List InnerRow
inner_rows None = []
inner_rows (Some (shape.Leaf tag rows)) = []
inner_rows (Some (shape.Inner tag rows)) = rows

-- a node whose entries have the references of the children for their places
abbrev pub referred : List ℕ → Shape → Shape
referred refs (shape.Leaf tag rows) = shape.Leaf tag rows
referred refs (shape.Inner tag rows) = shape.Inner tag (map (referring refs) rows)

-- what stands in a leaf slot, and in an inner page, by the number of its node
abbrev pub leaf_for : List Shape → ℕ → List LeafRow
leaf_for shapes i = leaf_rows (node_at shapes i)

abbrev pub inner_for : List Shape → ℕ → List InnerRow
inner_for shapes i = inner_rows (node_at shapes i)

-- pages of these kinds, 1 for records, 2 for leaves and 3 for an inner node, that hold these leaf
-- slots and inner nodes one after another
abbrev pub pages_with : List ℕ → List (List LeafRow) → List (List InnerRow) → List NodePage
pages_with [] leaves inners = []
pages_with (kind ∷ kinds) leaves inners =
    if kind == 1 then page.Records ∷ pages_with kinds leaves inners
    else if kind == 2 then page.Leaves (take 63 leaves) ∷ pages_with kinds (drop 63 leaves) inners
    else page.Inner (get_or inners 0 []) ∷ pages_with kinds leaves (drop 1 inners)

-- the pages that hold nodes where they stand, with the references of the children for their places
abbrev pub pages_of : Laid → List Shape → List NodePage
pages_of laid shapes =
    let nodes = map (referred laid.refs) shapes in
    pages_with laid.kinds (map (leaf_for nodes) laid.leaves) (map (inner_for nodes) laid.inners)
