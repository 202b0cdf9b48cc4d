-- A tree that is well formed under one distance is so under another that is equal on its vectors.
use Rattle.std.proofs.Common.{ℕ, zero, suc, ◌≤◌, List, [], ◌∷◌, Option, Some, None, subst, ◌∙◌}
use Rattle.std.specs.List.{AllByRecursion}
use Rattle.vec_record.specs.Vectors.{IsVector}
use Rattle.mtree_node.specs.declared.node.LeafEntry.{LeafEntry}
use Rattle.mtree_node.specs.declared.node.InnerEntry.{InnerEntry, out-InnerEntry}
use Rattle.mtree_node.specs.declared.node.Node.{Node, out-Node}
use Rattle.mtree_node.specs.declared.node.Node.TheOpen.{Node-F}
use Rattle.mtree_node.specs.Layer.{Layer, EntryLayer}
use Rattle.mtree_node.specs.Tree.{leaves, leaves_in, IsLeafEntry, IsInnerEntry, IsNode, IsNodeIn}
use Rattle.node_walks.specs.Alike.{Distance, AreAlike, TreesAreAlike}
use Rattle.node_walks.proofs.Walks.{all_flat, IsWideEntry, AreWide, IsWideOver, parents_same}

module _ (width greatest : ℕ) (dist : Distance) where
  abbrev Below : ℕ → List ℕ → Node → Type 0
  Below h object n = IsNode dist width greatest h (Some object) n

  -- the vectors below a well-formed node have the width
  entries_wide : (over : Option (List ℕ)) (es : List LeafEntry) → AllByRecursion (IsLeafEntry dist width greatest over) es → AreWide width es
  entries_wide over [] each = tt
  entries_wide over (e ∷ es) each = (each.0.vector, entries_wide over es each.1)

  below_wide : (h : ℕ) → ((over : Option (List ℕ)) (n : Node) → IsNode dist width greatest h over n → AreWide width (leaves h n)) → (over : Option (List ℕ)) (es : List InnerEntry)
      → AllByRecursion (λ e. IsInnerEntry dist width greatest (Below h) (leaves h) over (out-InnerEntry e)) es → AllByRecursion (λ e. AreWide width (leaves h (out-InnerEntry e).child)) es
  below_wide h ih over [] each = tt
  below_wide h ih over (e ∷ es) each = (ih (Some (out-InnerEntry e).object) (out-InnerEntry e).child each.0.child, below_wide h ih over es each.1)

  layer_wide : (h : ℕ) → ((over : Option (List ℕ)) (n : Node) → IsNode dist width greatest h over n → AreWide width (leaves h n)) → (over : Option (List ℕ)) (n : Layer)
      → IsNodeIn dist width greatest h (Below h) (leaves h) over n → AreWide width (leaves_in (leaves h) n)
  layer_wide h ih over (Node-F.Leaf tag es) is = entries_wide over es is.2
  layer_wide h ih over (Node-F.Inner tag es) is = all_flat (IsWideEntry width) (λ e. leaves h (out-InnerEntry e).child) es (below_wide h ih over es is.2)

  pub node_wide : (h : ℕ) (over : Option (List ℕ)) (n : Node) → IsNode dist width greatest h over n → AreWide width (leaves h n)
  node_wide zero over n is = absurd is
  node_wide (suc h) over n is = layer_wide h (node_wide h) over (out-Node n) is

  module _ (other : Distance) (alike : AreAlike width dist other) where
    leaf_alike : (over : Option (List ℕ)) (es : List LeafEntry) → IsWideOver width over → AllByRecursion (IsLeafEntry dist width greatest over) es → AllByRecursion (IsLeafEntry other width greatest over) es
    leaf_alike over [] ow each = tt
    leaf_alike over (e ∷ es) ow each =
        (record { vector = each.0.vector; parent = each.0.parent ∙ parents_same width dist other alike over e.vector ow each.0.vector }, leaf_alike over es ow each.1)

    covers_alike : (object : List ℕ) (radius : ℕ) (es : List LeafEntry) → IsVector width object → AreWide width es → AllByRecursion (λ l. dist object l.vector ≤ radius) es → AllByRecursion (λ l. other object l.vector ≤ radius) es
    covers_alike object radius [] o wide each = tt
    covers_alike object radius (e ∷ es) o wide each =
        (subst (λ d. d ≤ radius) (alike object e.vector o wide.0) each.0, covers_alike object radius es o wide.1 each.1)

    -- what is to be proved, at one height
    abbrev IsAlikeAt : ℕ → Type 0
    IsAlikeAt h = (over : Option (List ℕ)) (n : Node) → IsWideOver width over → IsNode dist width greatest h over n → IsNode other width greatest h over n

    entry_alike : (h : ℕ) → IsAlikeAt h → (over : Option (List ℕ)) (e : EntryLayer) → IsWideOver width over → IsInnerEntry dist width greatest (Below h) (leaves h) over e
        → IsInnerEntry other width greatest (λ object m. IsNode other width greatest h (Some object) m) (leaves h) over e
    entry_alike h ih over e ow is = record {
      object = is.object;
      parent = is.parent ∙ parents_same width dist other alike over e.object ow is.object;
      radius = is.radius;
      covers = covers_alike e.object e.radius (leaves h e.child) is.object (node_wide h (Some e.object) e.child is.child) is.covers;
      child = ih (Some e.object) e.child is.object is.child;
    }

    inner_alike : (h : ℕ) → IsAlikeAt h → (over : Option (List ℕ)) (es : List InnerEntry) → IsWideOver width over → AllByRecursion (λ e. IsInnerEntry dist width greatest (Below h) (leaves h) over (out-InnerEntry e)) es
        → AllByRecursion (λ e. IsInnerEntry other width greatest (λ object m. IsNode other width greatest h (Some object) m) (leaves h) over (out-InnerEntry e)) es
    inner_alike h ih over [] ow each = tt
    inner_alike h ih over (e ∷ es) ow each = (entry_alike h ih over (out-InnerEntry e) ow each.0, inner_alike h ih over es ow each.1)

    layer_alike : (h : ℕ) → IsAlikeAt h → (over : Option (List ℕ)) (n : Layer) → IsWideOver width over → IsNodeIn dist width greatest h (Below h) (leaves h) over n
        → IsNodeIn other width greatest h (λ object m. IsNode other width greatest h (Some object) m) (leaves h) over n
    layer_alike h ih over (Node-F.Leaf tag es) ow is = (is.0, is.1, leaf_alike over es ow is.2)
    layer_alike h ih over (Node-F.Inner tag es) ow is = (is.0, is.1, inner_alike h ih over es ow is.2)

    pub node_alike : (h : ℕ) → IsAlikeAt h
    node_alike zero over n ow is = absurd is
    node_alike (suc h) over n ow is = layer_alike h (node_alike h) over (out-Node n) ow is

pub trees_are_alike : TreesAreAlike
trees_are_alike width dist other alike greatest h n is =
    record { node = node_alike width greatest dist other alike h None n tt is.node; distinct = is.distinct }
