-- An insertion keeps what holds of each vector and each routing object.
use Rattle.std.proofs.Common.{ℕ, zero, suc, List, [], ◌∷◌, ◌++◌, length, Option, Some, None, sym}
use Rattle.std.proofs.Common.{subst, arith, inl, inr, add-one}
use Rattle.std.specs.List.{AllByRecursion}
use Rattle.std.proofs.lemmas.Bool.Decides.{leb_tells}
use Rattle.mtree_node.specs.declared.node.LeafEntry.{LeafEntry}
use Rattle.mtree_node.specs.declared.node.InnerEntry.{InnerEntry, out-InnerEntry}
use Rattle.mtree_node.specs.declared.node.Node.{Node, out-Node}
use Rattle.mtree_node.specs.declared.node.Node.TheOpen.{Node-F}
use Rattle.mtree_node.specs.Layer.{Layer}
use Rattle.mtree_node.proofs.Opened.{out_inner, out_leaf}
use Rattle.mtree_index.specs.Entries.{leaf_with_parent, inner_with_parent}
use Rattle.mtree_index.specs.Plain.{PlainTree}
use Rattle.mtree_index.specs.Insertion.{Outcome, Stays, Splits, new_entry, settled_leaf}
use Rattle.mtree_index.specs.Insertion.{settled_inner, after_child, renewed, entry_distance, chosen}
use Rattle.mtree_index.specs.Insertion.{inserted, inserted_in, replaced_at}
use Rattle.mtree_index.specs.Tree.{rooted, grown_from, after_insertion, IsInserted}
use Rattle.mtree_index.proofs.Places.{all_append}
use Rattle.tree_objects.specs.Objects.{LayerHasAll, HasAll, RootHasAll, HasAllIn}
use Rattle.tree_objects.proofs.Halves.{left_all, right_all}
use Rattle.tree_objects.proofs.Lists.{all_replaced}

module _ (P : List ℕ → Type 0) where
  -- the vector of a leaf entry has the property
  abbrev pub LeafEntryHas : LeafEntry → Type 0
  LeafEntryHas e = P e.vector

  -- the object of an inner entry has the property, and so has all below it
  abbrev pub EntryHasAll : ℕ → InnerEntry → Type 0
  EntryHasAll h e = P (out-InnerEntry e).object × HasAll P h (out-InnerEntry e).child

  -- what comes of a node has the property in all
  abbrev pub OutcomeHasAll : ℕ → Outcome → Type 0
  OutcomeHasAll h (Stays n) = HasAll P h n
  OutcomeHasAll h (Splits left right) = EntryHasAll h left × EntryHasAll h right

  module _ (dist : List ℕ → List ℕ → ℕ) (greatest : ℕ) where
    pub settled_leaf_all : (h tag right : ℕ) (es : List LeafEntry) → AllByRecursion LeafEntryHas es
        → OutcomeHasAll (suc h) (settled_leaf dist greatest tag right es)
    settled_leaf_all h tag right es a =
        elim (leb_tells 31 (length es)) [
          | inl t ↦
              let l = left_all P (λ (e : LeafEntry). e.vector) (λ e. 0) leaf_with_parent
              LeafEntryHas (λ e k. k) (λ d e k. k) dist greatest es a (omega (arith, t.1)) in
              let r = right_all P (λ (e : LeafEntry). e.vector) (λ e. 0) leaf_with_parent
              LeafEntryHas (λ e k. k) (λ d e k. k) dist greatest es a (omega (arith, t.1)) in
              rw t.0 ((l.promoted, rw out_leaf l.all), (r.promoted, rw out_leaf r.all))
          | inr n ↦ rw n.0 (rw out_leaf a)
        ]

    pub settled_inner_all : (h tag right : ℕ) (es : List InnerEntry)
        → AllByRecursion (EntryHasAll h) es
        → OutcomeHasAll (suc h) (settled_inner dist greatest tag right es)
    settled_inner_all h tag right es a =
        elim (leb_tells 31 (length es)) [
          | inl t ↦
              let l = left_all P (λ (e : InnerEntry). (out-InnerEntry e).object)
              (λ e. (out-InnerEntry e).radius) inner_with_parent (EntryHasAll h)
              (λ e k. k.0) (λ d e k. k) dist greatest es a (omega (arith, t.1)) in
              let r = right_all P (λ (e : InnerEntry). (out-InnerEntry e).object)
              (λ e. (out-InnerEntry e).radius) inner_with_parent (EntryHasAll h)
              (λ e k. k.0) (λ d e k. k) dist greatest es a (omega (arith, t.1)) in
              rw t.0 ((l.promoted, rw out_inner l.all), (r.promoted, rw out_inner r.all))
          | inr n ↦ rw n.0 (rw out_inner a)
        ]

    module _ (number : ℕ) (v : List ℕ) (pv : P v) where
      -- the entry below which the vector went, or the two that take its place
      after_all : (h : ℕ) (over : Option (List ℕ)) (e : InnerEntry) → EntryHasAll h e
          → (o : Outcome) → OutcomeHasAll h o
          → AllByRecursion (EntryHasAll h)
          (after_child dist over (out-InnerEntry e) (entry_distance dist v e) o)
      after_all h over e k (Stays n) a = ((k.0, a), tt)
      after_all h over e k (Splits left right) a = (a.0, (a.1, tt))

      -- what becomes of a node on a level has the property in all
      abbrev KeepsAt : ℕ → Type 0
      KeepsAt h = (over : Option (List ℕ)) (n : Node) → HasAll P h n
          → OutcomeHasAll h (inserted dist greatest number v h over n)

      -- what becomes of a child on a level
      abbrev child_at : ℕ → List ℕ → Node → Outcome
      child_at h object n = inserted dist greatest number v h (Some object) n

      inserted_layer : (h : ℕ) → KeepsAt h
          → (over : Option (List ℕ)) (n : Layer) → LayerHasAll P (HasAll P h) n
          → OutcomeHasAll (suc h) (inserted_in dist greatest number v (child_at h) over n)
      inserted_layer h ih over (Node-F.Leaf tag es) a =
          let new = new_entry dist greatest number v over in
          settled_leaf_all h tag 0 (es ++ new ∷ [])
          (all_append LeafEntryHas es (new ∷ []) a (pv, tt))
      inserted_layer h ih over (Node-F.Inner tag es) a =
          let f = renewed dist v over (child_at h) in
          settled_inner_all h tag 0 (replaced_at (chosen dist v es) f es)
          (all_replaced (EntryHasAll h) f (chosen dist v es) es a (λ e k.
          after_all h over e k (child_at h (out-InnerEntry e).object (out-InnerEntry e).child)
          (ih (Some (out-InnerEntry e).object) (out-InnerEntry e).child k.1)))

      inserted_all : (h : ℕ) → KeepsAt h
      inserted_all zero over n a = tt
      inserted_all (suc h) over n a = inserted_layer h (inserted_all h) over (out-Node n) a

      rooted_all : (width h : ℕ) (o : Outcome) → OutcomeHasAll h o → HasAllIn P (rooted width h o)
      rooted_all width h (Stays n) a = a
      rooted_all width h (Splits left right) a = rw add-one (rw out_inner (a.0, (a.1, tt)))

      grown_all : (width h : ℕ) (root : Option Node) → RootHasAll P h root
          → HasAllIn P (grown_from dist greatest number v width h root)
      grown_all width h None a = rw out_leaf (pv, tt)
      grown_all width h (Some n) a =
          rooted_all width h (inserted dist greatest number v h None n) (inserted_all h None n a)

  module _ (dist : List ℕ → List ℕ → ℕ) (most : ℕ → ℕ) where
    -- the tree after an insertion
    pub insertions_keep : (t : PlainTree) (number : ℕ) (v : List ℕ) → P v → HasAllIn P t
        → HasAllIn P (after_insertion dist most number v t)
    insertions_keep t number v pv a =
        grown_all dist (most t.width) number v pv t.width t.height t.root a

    -- a tree that an insertion made
    pub inserted_keep : (before after : PlainTree) (number : ℕ) (v : List ℕ)
        → IsInserted dist most before after number v → P v → HasAllIn P before → HasAllIn P after
    inserted_keep before after number v is pv a =
        subst (HasAllIn P) (sym is.tree) (insertions_keep before number v pv a)
