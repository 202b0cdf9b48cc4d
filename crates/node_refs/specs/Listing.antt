-- The nodes below a root, listed by their references, each before the nodes below it.
use Rattle.std.specs.Prelude.{ℕ, zero, suc, not, if◌then◌else◌, List, [], ◌∷◌, ◌++◌, length, map}
use Rattle.std.specs.List.{filter}
use Rattle.mtree_node.specs.Preorder.{InnerRow}
use Rattle.mtree_node.specs.declared.shape.Shape.{Shape}
use Rattle.mtree_node.specs.declared.shape.Shape.TheVariants as shape
use Rattle.node_refs.specs.declared.pages.NodePage.{NodePage}
use Rattle.node_refs.specs.declared.listing.Listed.{Listed}
use Rattle.node_refs.specs.Pages.{leaf_at, inner_at, is_in, is_good, shape_at, used_refs}

-- the place of a child whose reference is refused: past every list
abbrev pub past : ℕ
past = 4294967295

-- no nodes
abbrev pub nothing : Listed
nothing = record { shapes = []; refs = [] }

-- nodes behind nodes
abbrev pub join : Listed → Listed → Listed
join a b = record { shapes = a.shapes ++ b.shapes; refs = a.refs ++ b.refs }

-- a node before others
abbrev pub put_first : ℕ → Shape → Listed → Listed
put_first r node rest = record { shapes = node ∷ rest.shapes; refs = r ∷ rest.refs }

-- a row with its child's place in the list
abbrev pub placed : ℕ → InnerRow → InnerRow
placed place row = (place, row.1, row.2, row.3)

module _ (pages : List NodePage) where
  -- the place of the child at a reference, on a level, behind nodes that were seen
  abbrev pub child_place : ℕ → List ℕ → ℕ → ℕ
  child_place level seen r = if is_good level pages seen r then length seen else past

  module _ (below : ℕ → List ℕ → Listed) (level : ℕ) where
    -- the child at a reference and all nodes below it; none where the reference is refused
    abbrev pub child_nodes : List ℕ → ℕ → Listed
    child_nodes seen r = if is_good level pages seen r then below r seen else nothing

    -- the rows of an inner node, with the places of the children for their references
    abbrev pub placed_rows : List ℕ → List InnerRow → List InnerRow
    placed_rows seen [] = []
    placed_rows seen (row ∷ rows) =
        placed (child_place level seen row.0) row
        ∷ placed_rows (seen ++ (child_nodes seen row.0).refs) rows

    -- the nodes below the rows of an inner node, child by child
    abbrev pub nodes_below : List ℕ → List InnerRow → Listed
    nodes_below seen [] = nothing
    nodes_below seen (row ∷ rows) =
        join (child_nodes seen row.0)
        (nodes_below (seen ++ (child_nodes seen row.0).refs) rows)

  abbrev pub node_in : ℕ → (ℕ → List ℕ → Listed) → ℕ → List ℕ → Listed
  node_in zero below r seen = put_first r (shape.Leaf r (leaf_at pages r)) nothing
  node_in (suc h) below r seen =
      put_first r (shape.Inner r (placed_rows below (suc h) (seen ++ r ∷ []) (inner_at pages r)))
      (nodes_below below (suc h) (seen ++ r ∷ []) (inner_at pages r))

  -- the node at a reference and all below it, on a level, behind nodes that were seen
  abbrev pub list_node : ℕ → ℕ → List ℕ → Listed
  list_node zero r seen = nothing
  list_node (suc h) r seen = node_in h (list_node h) r seen

  -- the used places that a walk didn't reach
  abbrev pub unreached : List ℕ → List ℕ
  unreached refs = filter (λ r. not (is_in refs r)) (used_refs pages)

  -- what stands at references, one after the other
  abbrev pub standing_at : List ℕ → Listed
  standing_at refs = record { shapes = map (shape_at pages) refs; refs = refs }

  abbrev pub with_unreached : Listed → Listed
  with_unreached nodes = join nodes (standing_at (unreached nodes.refs))

  -- the nodes from a root on, and then those that aren't reached, by page and then slot
  abbrev pub listed : ℕ → ℕ → Listed
  listed height root = with_unreached (list_node height root [])
