-- What a leaf and an inner node have, and what gives it to them.
use Rattle.std.proofs.Common.{ℕ, suc, List, ◌∷◌, sym, subst}
use Rattle.std.specs.List.{AllByRecursion}
use Rattle.mtree_node.specs.declared.node.LeafEntry.{LeafEntry}
use Rattle.mtree_node.specs.declared.node.InnerEntry.{InnerEntry, out-InnerEntry}
use Rattle.mtree_node.specs.declared.node.Node.TheVariants as node
use Rattle.mtree_node.proofs.Opened.{out_inner, out_leaf}
use Rattle.tree_objects.specs.Objects.{LayerHasAll, HasAll}
use Rattle.tree_objects.proofs.Inserted.{LeafEntryHas, EntryHasAll}

module _ (P : List ℕ → Type 0) (h tag : ℕ) where
  pub leaf_has : (es : List LeafEntry) → HasAll P (suc h) (node.Leaf tag es)
      → AllByRecursion (LeafEntryHas P) es
  leaf_has es a = subst (LayerHasAll P (HasAll P h)) (out_leaf tag es) a

  pub leaf_given : (es : List LeafEntry) → AllByRecursion (LeafEntryHas P) es
      → HasAll P (suc h) (node.Leaf tag es)
  leaf_given es a = subst (LayerHasAll P (HasAll P h)) (sym (out_leaf tag es)) a

  pub inner_has : (es : List InnerEntry) → HasAll P (suc h) (node.Inner tag es)
      → AllByRecursion (EntryHasAll P h) es
  inner_has es a = subst (LayerHasAll P (HasAll P h)) (out_inner tag es) a

  pub inner_given : (es : List InnerEntry) → AllByRecursion (EntryHasAll P h) es
      → HasAll P (suc h) (node.Inner tag es)
  inner_given es a = subst (LayerHasAll P (HasAll P h)) (sym (out_inner tag es)) a

  -- a vector without the property is in no leaf that has it in all
  vector_told : (e : LeafEntry) (es : List LeafEntry) → (P e.vector → ⊥)
      → HasAll P (suc h) (node.Leaf tag (e ∷ es)) → ⊥
  vector_told e es lacks a = lacks (leaf_has (e ∷ es) a).0

  -- nor a routing object without it in an inner node
  object_told : (e : InnerEntry) (es : List InnerEntry) → (P (out-InnerEntry e).object → ⊥)
      → HasAll P (suc h) (node.Inner tag (e ∷ es)) → ⊥
  object_told e es lacks a = lacks (inner_has (e ∷ es) a).0.0
