-- The tree that body pages hold below a root's reference, or the first field that fails: its page and offset.
use Rattle.std.specs.Prelude.{◌≡◌, ℕ, ◌==◌, if◌then◌else◌, List, Option, Some, None, Result, Ok, Err}
use Rattle.vec_record.specs.Held.{Rows}
use Rattle.mtree_node.specs.declared.node.Node.{Node}
use Rattle.mtree_node.specs.declared.shape.BadPlace.{BadPlace}
use Rattle.mtree_node.specs.Walk.{Walked, Fails as Stops, Builds, walk, start, failing}
use Rattle.mtree_index.specs.Plain.{PlainTree}
use Rattle.node_refs.specs.declared.pages.NodePage.{NodePage}
use Rattle.node_refs.specs.declared.listing.Listed.{Listed}
use Rattle.node_refs.specs.Pages.{is_used}
use Rattle.node_refs.specs.Listing.{listed}
use Rattle.node_refs.specs.Faults.{fault_at, first_used}
use Rattle.stored_tree.specs.declared.fault.TreeFault.{TreeFault}
use Rattle.stored_tree.specs.declared.fault.TreeFault.TheVariants.{Damaged, Memory}

-- a tree, or the page and the offset of the first field that fails
abbrev pub Read : Type 0
Read = Result PlainTree (ℕ × ℕ)

-- the tree of a height below a root, none for the empty tree
abbrev pub tree_with : ℕ → ℕ → Option Node → PlainTree
tree_with width height root = record { width = width; height = height; root = root }

-- the empty tree: no place of a node is used
abbrev pub empty_unless : ℕ → Option (ℕ × ℕ) → Read
empty_unless width None = Ok (tree_with width 0 None)
empty_unless width (Some place) = Err place

-- what a walk built, nothing where it stopped
abbrev pub built : Walked Node → Option Node
built (Stops place) = None
built (Builds n s) = Some n

abbrev pub tree_unless : ℕ → ℕ → Listed → Option Node → Option BadPlace → Read
tree_unless width height nodes root None = Ok (tree_with width height root)
tree_unless width height nodes root (Some place) = Err (fault_at width nodes place)

-- the tree of a walk over listed nodes, or the place where they are no tree of the records
abbrev pub tree_of : ℕ → ℕ → Listed → Walked Node → Read
tree_of width height nodes walked = tree_unless width height nodes (built walked) (failing walked)

-- the tree below a root, which is at a used place of its level's kind
abbrev pub tree_below :
    (List ℕ → List ℕ → ℕ) → ℕ → ℕ → Listed → Rows → Read
tree_below dist width height nodes vectors =
    tree_of width height nodes (walk dist height None (start nodes.shapes vectors))

-- The tree of the pages: none of their places is used at the height 0; above, the root's reference names a used place of
-- its level's kind, or else the reference in the head page is refused, and the nodes from there on are the tree.
unfoldable pub tree_in :
    (List ℕ → List ℕ → ℕ) → ℕ → ℕ → ℕ → List NodePage → Rows → Read
tree_in dist width height root pages vectors =
    if height == 0 then empty_unless width (first_used pages)
    else if is_used height pages root then
    tree_below dist width height (listed pages height root) vectors
    else Err (1, 36)

-- a refusal is the one that is due; want of memory is free
abbrev pub Fails : TreeFault → Read → Type 0
Fails (Damaged page offset) due = due ≡ Err (page, offset)
Fails Memory due = Unit {0}
