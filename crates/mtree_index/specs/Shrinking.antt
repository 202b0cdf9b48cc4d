-- The tree after a removal, with the root's own rules.
use Rattle.std.specs.Prelude.{◌≡◌, ℕ, ◌-◌, List, [], ◌∷◌, map, Option, Some, None}
use Rattle.std.specs.FinMap as finite
use Rattle.mtree_node.specs.declared.node.InnerEntry.{out-InnerEntry}
use Rattle.mtree_node.specs.declared.node.Node.{Node, out-Node}
use Rattle.mtree_node.specs.declared.node.Node.TheOpen.{Node-F}
use Rattle.mtree_node.specs.declared.node.Node.TheVariants as node
use Rattle.mtree_node.specs.Layer.{Layer}
use Rattle.mtree_index.specs.Entries.{leaf_with_parent, inner_with_parent}
use Rattle.mtree_index.specs.Plain.{PlainTree}
use Rattle.mtree_index.specs.Tree.{contents}
use Rattle.mtree_index.specs.Removal.{removed}

abbrev pub as_root_in : Layer → Node
as_root_in (Node-F.Leaf tag es) = node.Leaf tag (map (leaf_with_parent 0) es)
as_root_in (Node-F.Inner tag es) = node.Inner tag (map (inner_with_parent 0) es)

-- the node as a root: its parent distances are 0
abbrev pub as_root : Node → Node
as_root n = as_root_in (out-Node n)

abbrev pub lowered_in : ℕ → ℕ → Node → Layer → PlainTree
lowered_in width h n (Node-F.Leaf tag []) = record { width = width; height = 0; root = None }
lowered_in width h n (Node-F.Leaf tag (e ∷ es)) = record { width = width; height = h; root = Some n }
lowered_in width h n (Node-F.Inner tag []) = record { width = width; height = h; root = Some n }
lowered_in width h n (Node-F.Inner tag (e ∷ [])) = record { width = width; height = h - 1; root = Some (as_root (out-InnerEntry e).child) }
lowered_in width h n (Node-F.Inner tag (e ∷ f ∷ es)) = record { width = width; height = h; root = Some n }

-- the tree of a root that has lost entries: an inner root with one entry gives way to its child, and a leaf root with none is the empty tree
abbrev pub lowered : ℕ → ℕ → Node → PlainTree
lowered width h n = lowered_in width h n (out-Node n)

abbrev pub lowered_from : ℕ → ℕ → Option Node → Option PlainTree
lowered_from width h None = None
lowered_from width h (Some n) = Some (lowered width h n)

module _ (dist : List ℕ → List ℕ → ℕ) where
  -- the tree with this root without the pair, or none where the pair isn't found
  abbrev pub shrunk_from : ℕ → ℕ → List ℕ → ℕ → ℕ → Option Node → Option PlainTree
  shrunk_from greatest number v width h None = None
  shrunk_from greatest number v width h (Some n) = lowered_from width h (removed dist greatest number v h None n)

  module _ (most : ℕ → ℕ) where
    -- the tree after the removal of a number and its vector, or none where the tree doesn't hold the pair
    abbrev pub after_removal : ℕ → List ℕ → PlainTree → Option PlainTree
    after_removal number v t = shrunk_from (most t.width) number v t.width t.height t.root

    -- a tree before and after a removal, which takes the pair from what it holds
    pub record IsRemoved (before after : PlainTree) (number : ℕ) (v : List ℕ) : Type 0 where
      pub tree : Some after ≡ after_removal number v before
      pub width : after.width ≡ before.width
      pub contents : contents after ≡ finite.remove (contents before) number
