-- A removal keeps what holds of each vector and each routing object.
use Rattle.std.proofs.Common.{◌≡◌, ℕ, zero, suc, ◌-◌, ◌<◌, Bool, true, false, cond, List, [], ◌∷◌}
use Rattle.std.proofs.Common.{◌++◌, Option, Some, None, refl, sym, subst, arith}
use Rattle.std.specs.Prelude.{nat_le}
use Rattle.std.specs.Option.{option_map}
use Rattle.std.specs.List.{AllByRecursion}
use Rattle.mtree_node.specs.declared.node.LeafEntry.{LeafEntry}
use Rattle.mtree_node.specs.declared.node.InnerEntry.{InnerEntry, out-InnerEntry}
use Rattle.mtree_node.specs.declared.node.Node.{Node, out-Node}
use Rattle.mtree_node.specs.declared.node.Node.TheOpen.{Node-F}
use Rattle.mtree_node.specs.declared.node.Node.TheVariants as node
use Rattle.mtree_node.specs.Layer.{Layer, EntryLayer}
use Rattle.mtree_node.specs.Cost.{is_skipped}
use Rattle.mtree_node.proofs.Opened.{out_inner, out_leaf}
use Rattle.mtree_index.specs.Entries.{leaf_with_parent, inner_with_parent}
use Rattle.mtree_index.specs.Plain.{PlainTree}
use Rattle.mtree_index.specs.Insertion.{Outcome, Stays, Splits, settled_leaf, settled_inner}
use Rattle.mtree_index.specs.Removal.{without_first, first_changed, changed_here, joined_at}
use Rattle.mtree_index.specs.Removal.{is_short_at, leaf_over, inner_over, joined_as, joined_nodes}
use Rattle.mtree_index.specs.Removal.{joined, refilled, is_pair, entry_without, to_object}
use Rattle.mtree_index.specs.Removal.{with_child, removed, removed_in}
use Rattle.mtree_index.specs.Shrinking.{as_root, as_root_in, lowered, lowered_in, lowered_from}
use Rattle.mtree_index.specs.Shrinking.{shrunk_from, after_removal, IsRemoved}
use Rattle.mtree_index.proofs.Places.{all_append}
use Rattle.tree_objects.specs.Objects.{LayerHasAll, HasAll, RootHasAll, HasAllIn}
use Rattle.tree_objects.proofs.Inserted.{LeafEntryHas, EntryHasAll, OutcomeHasAll, settled_leaf_all}
use Rattle.tree_objects.proofs.Inserted.{settled_inner_all}
use Rattle.tree_objects.proofs.Lists.{all_map}

module _ (P : List ℕ → Type 0) where
  abbrev LeafLeft : Option (List LeafEntry) → Type 0
  LeafLeft None = Unit {0}
  LeafLeft (Some es) = AllByRecursion (LeafEntryHas P) es

  -- what a removal leaves of a node has the property in all. On level 0 it leaves nothing
  abbrev NodeLeft : ℕ → Option Node → Type 0
  NodeLeft h None = Unit {0}
  NodeLeft h (Some n) = (0 < h) × HasAll P h n

  abbrev EntryLeft : ℕ → Option InnerEntry → Type 0
  EntryLeft h None = Unit {0}
  EntryLeft h (Some e) = (0 < h) × EntryHasAll P h e

  abbrev AmongLeft : ℕ → Option (ℕ × List InnerEntry) → Type 0
  AmongLeft h None = Unit {0}
  AmongLeft h (Some p) = (0 < h) × AllByRecursion (EntryHasAll P h) p.1

  -- ---- leaves

  later_leaf : (e : LeafEntry) (o : Option (List LeafEntry)) → P e.vector → LeafLeft o
      → LeafLeft (option_map (λ xs. e ∷ xs) o)
  later_leaf e None k a = tt
  later_leaf e (Some xs) k a = (k, a)

  leaf_left : (test : LeafEntry → Bool) (es : List LeafEntry) → AllByRecursion (LeafEntryHas P) es
      → LeafLeft (without_first test es)
  leaf_left test [] a = tt
  leaf_left test (e ∷ es) a =
      let later = option_map (λ xs. e ∷ xs) (without_first test es) in
      elim (test e) as (λ b. LeafLeft (cond b (Some es) later)) [
        | true ↦ a.1
        | false ↦ later_leaf e (without_first test es) a.0 (leaf_left test es a.1)
      ]

  -- ---- entries

  child_left : (h : ℕ) (e : InnerEntry) (o : Option Node) → P (out-InnerEntry e).object
      → NodeLeft h o → EntryLeft h (option_map (with_child (out-InnerEntry e)) o)
  child_left h e None k a = tt
  child_left h e (Some n) k a = (a.0, (k, a.1))

  entry_left : (dist : List ℕ → List ℕ → ℕ) (v : List ℕ) (h : ℕ)
      (below : List ℕ → Node → Option Node) (over : Option (List ℕ)) (e : InnerEntry)
      → EntryHasAll P h e
      → NodeLeft h (below (out-InnerEntry e).object (out-InnerEntry e).child)
      → EntryLeft h (entry_without dist v below over e)
  entry_left dist v h below over e k a =
      let x = out-InnerEntry e in
      let o = below x.object x.child in
      let without = option_map (with_child x) o in
      let near = nat_le (dist v x.object) x.radius in
      elim (is_skipped (to_object dist v over) x.radius x.parent) as
      (λ b. EntryLeft h (cond b None (cond near without None))) [
        | true ↦ tt
        | false ↦ elim near as (λ b. EntryLeft h (cond b without None)) [
          | true ↦ child_left h e o k.0 a
          | false ↦ tt
        ]
      ]

  later_left : (h : ℕ) (e : InnerEntry) (o : Option (ℕ × List InnerEntry)) → EntryHasAll P h e
      → AmongLeft h o → AmongLeft h (option_map (λ p. (suc p.0, e ∷ p.1)) o)
  later_left h e None k a = tt
  later_left h e (Some p) k a = (a.0, (k, a.1))

  here_left : (h : ℕ) (e : InnerEntry) (es : List InnerEntry) (o : Option InnerEntry)
      (later : Option (ℕ × List InnerEntry)) → EntryHasAll P h e
      → AllByRecursion (EntryHasAll P h) es → EntryLeft h o → AmongLeft h later
      → AmongLeft h (changed_here o e es later)
  here_left h e es None later k a l m = later_left h e later k m
  here_left h e es (Some x) later k a l m = (l.0, (l.1, a))

  among_left : (h : ℕ) (g : InnerEntry → Option InnerEntry) (es : List InnerEntry)
      → AllByRecursion (EntryHasAll P h) es
      → ((e : InnerEntry) → EntryHasAll P h e → EntryLeft h (g e))
      → AmongLeft h (first_changed g es)
  among_left h g [] a k = tt
  among_left h g (e ∷ es) a k =
      here_left h e es (g e) (first_changed g es) a.0 a.1 (k e a.0) (among_left h g es a.1 k)

  -- ---- neighbours that are joined

  module _ (dist : List ℕ → List ℕ → ℕ) (greatest : ℕ) where
    one_or_two : (h : ℕ) (over : Option (List ℕ)) (one : InnerEntry) (o : Outcome)
        → EntryHasAll P h one → OutcomeHasAll P h o
        → AllByRecursion (EntryHasAll P h) (joined_as dist greatest over one o)
    one_or_two h over one (Stays n) k a = (k, tt)
    one_or_two h over one (Splits left right) k a = (a.0, (a.1, tt))

    joined_layers : (h : ℕ) (over : Option (List ℕ)) (e : EntryLayer) (left right : Layer)
        → P e.object → LayerHasAll P (HasAll P h) left → LayerHasAll P (HasAll P h) right
        → AllByRecursion (EntryHasAll P (suc h)) (joined_nodes dist greatest over e left right)
    joined_layers h over e (Node-F.Leaf tag es) (Node-F.Leaf right fs) k a b =
        let both = es ++ fs in
        let all = all_append (LeafEntryHas P) es fs a b in
        let under = λ (x : LeafEntry). leaf_with_parent (dist e.object x.vector) x in
        one_or_two (suc h) over (leaf_over dist greatest e tag both)
        (settled_leaf dist greatest tag right both)
        (k, rw out_leaf (all_map (LeafEntryHas P) (LeafEntryHas P) under both (λ x p. p) all))
        (settled_leaf_all P dist greatest h tag right both all)
    joined_layers h over e (Node-F.Inner tag es) (Node-F.Inner right fs) k a b =
        let both = es ++ fs in
        let all = all_append (EntryHasAll P h) es fs a b in
        let under = λ (x : InnerEntry).
        inner_with_parent (dist e.object (out-InnerEntry x).object) x in
        one_or_two (suc h) over (inner_over dist greatest e tag both)
        (settled_inner dist greatest tag right both)
        (k, rw out_inner (all_map (EntryHasAll P h) (EntryHasAll P h) under both (λ x p. p) all))
        (settled_inner_all P dist greatest h tag right both all)
    joined_layers h over e (Node-F.Leaf tag es) (Node-F.Inner right fs) k a b = tt
    joined_layers h over e (Node-F.Inner tag es) (Node-F.Leaf right fs) k a b = tt

    joined_all : (h : ℕ) (over : Option (List ℕ)) (left right : InnerEntry) → 0 < h
        → EntryHasAll P h left → EntryHasAll P h right
        → AllByRecursion (EntryHasAll P h) (joined dist greatest over left right)
    joined_all zero over left right z a b = absurd (omega (arith, z))
    joined_all (suc h) over left right z a b =
        joined_layers h over (out-InnerEntry left) (out-Node (out-InnerEntry left).child)
        (out-Node (out-InnerEntry right).child) a.0 a.1 b.1

    joined_at_all : (h : ℕ) (over : Option (List ℕ)) (at : ℕ) (es : List InnerEntry) → 0 < h
        → AllByRecursion (EntryHasAll P h) es
        → AllByRecursion (EntryHasAll P h) (joined_at at (joined dist greatest over) es)
    joined_at_all h over at [] z a = tt
    joined_at_all h over zero (x ∷ []) z a = a
    joined_at_all h over (suc at) (x ∷ []) z a = a
    joined_at_all h over zero (x ∷ y ∷ es) z a =
        all_append (EntryHasAll P h) (joined dist greatest over x y) es
        (joined_all h over x y z a.0 a.1.0) a.1.1
    joined_at_all h over (suc at) (x ∷ y ∷ es) z a = (a.0, joined_at_all h over at (y ∷ es) z a.1)

    refilled_all : (h : ℕ) (over : Option (List ℕ)) (place : ℕ) (es : List InnerEntry) → 0 < h
        → AllByRecursion (EntryHasAll P h) es
        → AllByRecursion (EntryHasAll P h) (refilled dist greatest over place es)
    refilled_all h over place es z a =
        let merged = joined_at (place - 1) (joined dist greatest over) es in
        elim (is_short_at place es) as
        (λ b. AllByRecursion (EntryHasAll P h) (cond b merged es)) [
          | true ↦ joined_at_all h over (place - 1) es z a
          | false ↦ a
        ]

    -- ---- nodes

    leaf_node : (h tag : ℕ) (o : Option (List LeafEntry)) → LeafLeft o
        → NodeLeft (suc h) (option_map (node.Leaf tag) o)
    leaf_node h tag None a = tt
    leaf_node h tag (Some es) a = (omega arith, rw out_leaf a)

    inner_node : (h tag : ℕ) (over : Option (List ℕ)) (o : Option (ℕ × List InnerEntry))
        → AmongLeft h o
        → NodeLeft (suc h)
        (option_map (λ p. node.Inner tag (refilled dist greatest over p.0 p.1)) o)
    inner_node h tag over None a = tt
    inner_node h tag over (Some p) a =
        (omega arith, rw out_inner (refilled_all h over p.0 p.1 a.0 a.1))

    module _ (number : ℕ) (v : List ℕ) where
      -- what is left of a node on a level has the property in all
      abbrev KeepsAt : ℕ → Type 0
      KeepsAt h = (over : Option (List ℕ)) (n : Node) → HasAll P h n
          → NodeLeft h (removed dist greatest number v h over n)

      -- what is left of a child on a level
      abbrev child_at : ℕ → List ℕ → Node → Option Node
      child_at h object n = removed dist greatest number v h (Some object) n

      removed_layer : (h : ℕ) → KeepsAt h
          → (over : Option (List ℕ)) (n : Layer) → LayerHasAll P (HasAll P h) n
          → NodeLeft (suc h) (removed_in dist greatest number v (child_at h) over n)
      removed_layer h ih over (Node-F.Leaf tag es) a =
          leaf_node h tag (without_first (is_pair dist v number over) es)
          (leaf_left (is_pair dist v number over) es a)
      removed_layer h ih over (Node-F.Inner tag es) a =
          let g = entry_without dist v (child_at h) over in
          inner_node h tag over (first_changed g es) (among_left h g es a (λ e k.
          entry_left dist v h (child_at h) over e k
          (ih (Some (out-InnerEntry e).object) (out-InnerEntry e).child k.1)))

      removed_all : (h : ℕ) → KeepsAt h
      removed_all zero over n a = tt
      removed_all (suc h) over n a = removed_layer h (removed_all h) over (out-Node n) a

  -- ---- the root

  root_layer : (h : ℕ) (n : Layer) → LayerHasAll P (HasAll P h) n → HasAll P (suc h) (as_root_in n)
  root_layer h (Node-F.Leaf tag es) a =
      rw out_leaf (all_map (LeafEntryHas P) (LeafEntryHas P) (leaf_with_parent 0) es (λ x p. p) a)
  root_layer h (Node-F.Inner tag es) a =
      rw out_inner
      (all_map (EntryHasAll P h) (EntryHasAll P h) (inner_with_parent 0) es (λ x p. p) a)

  root_all : (h : ℕ) (n : Node) → HasAll P h n → HasAll P h (as_root n)
  root_all zero n a = tt
  root_all (suc h) n a = root_layer h (out-Node n) a

  stays : (h : ℕ) (n : Node) (layer : Layer) → out-Node n ≡ layer → LayerHasAll P (HasAll P h) layer
      → HasAll P (suc h) n
  stays h n layer is a = subst (LayerHasAll P (HasAll P h)) (sym is) a

  lowered_layer : (width h : ℕ) (n : Node) (layer : Layer) → out-Node n ≡ layer
      → LayerHasAll P (HasAll P h) layer → HasAllIn P (lowered_in width (suc h) n layer)
  lowered_layer width h n (Node-F.Leaf tag []) is a = tt
  lowered_layer width h n (Node-F.Leaf tag (e ∷ es)) is a =
      stays h n (Node-F.Leaf tag (e ∷ es)) is a
  lowered_layer width h n (Node-F.Inner tag []) is a = stays h n (Node-F.Inner tag []) is a
  lowered_layer width h n (Node-F.Inner tag (e ∷ [])) is a =
      let child = (out-InnerEntry e).child in
      let level : suc h - 1 ≡ h = omega arith in
      subst (λ j. HasAll P j (as_root child)) (sym level) (root_all h child a.0.1)
  lowered_layer width h n (Node-F.Inner tag (e ∷ f ∷ es)) is a =
      stays h n (Node-F.Inner tag (e ∷ f ∷ es)) is a

  lowered_all : (width h : ℕ) (n : Node) → 0 < h → HasAll P h n → HasAllIn P (lowered width h n)
  lowered_all width zero n z a = absurd (omega (arith, z))
  lowered_all width (suc h) n z a = lowered_layer width h n (out-Node n) refl a

  left_all : (width h : ℕ) (o : Option Node) → NodeLeft h o → (after : PlainTree)
      → Some after ≡ lowered_from width h o → HasAllIn P after
  left_all width h None a after is = absurd (cc)
  left_all width h (Some n) a after is =
      let same : after ≡ lowered width h n = cc in
      subst (HasAllIn P) (sym same) (lowered_all width h n a.0 a.1)

  module _ (dist : List ℕ → List ℕ → ℕ) (most : ℕ → ℕ) where
    shrunk_all : (greatest number : ℕ) (v : List ℕ) (width h : ℕ) (root : Option Node)
        → RootHasAll P h root → (after : PlainTree)
        → Some after ≡ shrunk_from dist greatest number v width h root → HasAllIn P after
    shrunk_all greatest number v width h None a after is = absurd (cc)
    shrunk_all greatest number v width h (Some n) a after is =
        left_all width h (removed dist greatest number v h None n)
        (removed_all dist greatest number v h None n a) after is

    -- the tree after a removal
    pub removals_keep : (t after : PlainTree) (number : ℕ) (v : List ℕ)
        → Some after ≡ after_removal dist most number v t → HasAllIn P t → HasAllIn P after
    removals_keep t after number v is a =
        shrunk_all (most t.width) number v t.width t.height t.root a after is

    -- a tree that a removal left
    pub removed_keep : (before after : PlainTree) (number : ℕ) (v : List ℕ)
        → IsRemoved dist most before after number v → HasAllIn P before → HasAllIn P after
    removed_keep before after number v is a = removals_keep before after number v is.tree a
