-- New tags keep what holds of each vector and each routing object.
use Rattle.std.proofs.Common.{ℕ, zero, suc, ◌+◌, List, [], ◌∷◌, slice_index, Option, Some, None}
use Rattle.std.specs.Option.{option_map}
use Rattle.std.specs.List.{AllByRecursion}
use Rattle.mtree_node.specs.declared.node.InnerEntry.{InnerEntry, out-InnerEntry}
use Rattle.mtree_node.specs.declared.node.Node.{Node, out-Node}
use Rattle.mtree_node.specs.declared.node.Node.TheOpen.{Node-F}
use Rattle.mtree_node.specs.Layer.{Layer}
use Rattle.mtree_node.specs.Preorder.{size, retagged_below, retagged_in, retagged_from, retagged}
use Rattle.mtree_node.proofs.Opened.{out_inner, out_leaf}
use Rattle.mtree_index.specs.Plain.{PlainTree}
use Rattle.tree_objects.specs.Objects.{LayerHasAll, HasAll, RootHasAll, HasAllIn}
use Rattle.tree_objects.proofs.Inserted.{EntryHasAll}

module _ (P : List ℕ → Type 0) (tags : List ℕ) where
  abbrev TagsKeepAt : ℕ → Type 0
  TagsKeepAt h = (at : ℕ) (n : Node) → HasAll P h n → HasAll P h (retagged_from tags h at n)

  tagged_below : (h : ℕ) → TagsKeepAt h → (at : ℕ) (es : List InnerEntry)
      → AllByRecursion (EntryHasAll P h) es
      → AllByRecursion (EntryHasAll P h) (retagged_below (size h) (retagged_from tags h) at es)
  tagged_below h ih at [] a = tt
  tagged_below h ih at (e ∷ es) a =
      let child = (out-InnerEntry e).child in
      ((a.0.0, ih at child a.0.1), tagged_below h ih (at + size h child) es a.1)

  tagged_layer : (h : ℕ) → TagsKeepAt h → (tag at : ℕ) (n : Layer) → LayerHasAll P (HasAll P h) n
      → HasAll P (suc h) (retagged_in (size h) (retagged_from tags h) tag at n)
  tagged_layer h ih tag at (Node-F.Leaf old es) a = rw out_leaf a
  tagged_layer h ih tag at (Node-F.Inner old es) a = rw out_inner (tagged_below h ih (at + 1) es a)

  tagged_all : (h : ℕ) → TagsKeepAt h
  tagged_all zero at n a = tt
  tagged_all (suc h) at n a = tagged_layer h (tagged_all h) (slice_index tags at) at (out-Node n) a

  root_tagged : (h : ℕ) (root : Option Node) → RootHasAll P h root
      → RootHasAll P h (option_map (retagged tags h) root)
  root_tagged h None a = tt
  root_tagged h (Some n) a = tagged_all h 0 n a

  -- the tree with other tags
  pub tags_keep : (t : PlainTree) → HasAllIn P t
      → HasAllIn P (record t { root = option_map (retagged tags t.height) t.root })
  tags_keep t a = root_tagged t.height t.root a
