-- A tree's preorder and records have what the tree has, and give it back.
use Rattle.std.proofs.Common.{◌≡◌, ℕ, zero, suc, ◌+◌, List, [], ◌∷◌, map, Option, Some, None, sym}
use Rattle.std.proofs.Common.{subst, ◌∙◌, inl, inr}
use Rattle.std.specs.List.{AllByRecursion, flat_map}
use Rattle.std.specs.Ordering.{nat_cmp}
use Rattle.std.specs.Cmp.{nat_cmp_total}
use Rattle.std.specs.FinMap as finite
use Rattle.vec_record.specs.Held.{Rows}
use Rattle.mtree_node.specs.declared.node.LeafEntry.{LeafEntry}
use Rattle.mtree_node.specs.declared.node.InnerEntry.{InnerEntry, out-InnerEntry}
use Rattle.mtree_node.specs.declared.node.Node.{Node, out-Node}
use Rattle.mtree_node.specs.declared.node.Node.TheOpen.{Node-F}
use Rattle.mtree_node.specs.declared.shape.Shape.{Shape}
use Rattle.mtree_node.specs.Layer.{Layer}
use Rattle.mtree_node.specs.Tree.{leaves, leaves_in, records, record_of, IsTree}
use Rattle.mtree_node.specs.Preorder.{InnerRow, size, inner_rows, shapes_below, shapes_in}
use Rattle.mtree_node.specs.Preorder.{shapes_from, preorder}
use Rattle.mtree_node.specs.Walk.{IsTreeOf}
use Rattle.mtree_node.proofs.Distinct.{ties, distinct_taken}
use Rattle.mtree_node.proofs.Taken.{Taken}
use Rattle.mtree_index.specs.Plain.{PlainTree}
use Rattle.mtree_index.proofs.Places.{all_append}
use Rattle.tree_objects.specs.Objects.{LayerHasAll, HasAll, RootHasAll, HasAllIn, ShapeHasAll}
use Rattle.tree_objects.specs.Objects.{RowsHaveAll}
use Rattle.tree_objects.proofs.Inserted.{LeafEntryHas, EntryHasAll}
use Rattle.tree_objects.proofs.Lists.{all_front, all_back}

module _ (P : List ℕ → Type 0) where
  -- the object of a row of an inner shape has the property
  abbrev RowHas : InnerRow → Type 0
  RowHas row = P row.3

  -- nothing is in a tree without a root
  pub empty_has_all : (t : PlainTree) → t.root ≡ None → HasAllIn P t
  empty_has_all t is = subst (RootHasAll P t.height) (sym is) tt

  -- ---- from the tree to its shapes

  abbrev ShapesHaveAt : ℕ → Type 0
  ShapesHaveAt h = (at : ℕ) (n : Node) → HasAll P h n
      → AllByRecursion (ShapeHasAll P) (shapes_from h at n)

  rows_have : (h at : ℕ) (es : List InnerEntry) → AllByRecursion (EntryHasAll P h) es
      → AllByRecursion RowHas (inner_rows (size h) at es)
  rows_have h at [] a = tt
  rows_have h at (e ∷ es) a = (a.0.0, rows_have h (at + size h (out-InnerEntry e).child) es a.1)

  below_have : (h : ℕ) → ShapesHaveAt h → (at : ℕ) (es : List InnerEntry)
      → AllByRecursion (EntryHasAll P h) es
      → AllByRecursion (ShapeHasAll P) (shapes_below (size h) (shapes_from h) at es)
  below_have h ih at [] a = tt
  below_have h ih at (e ∷ es) a =
      let child = (out-InnerEntry e).child in
      let next = at + size h child in
      all_append (ShapeHasAll P) (shapes_from h at child)
      (shapes_below (size h) (shapes_from h) next es) (ih at child a.0.1)
      (below_have h ih next es a.1)

  layer_has : (h : ℕ) → ShapesHaveAt h → (at : ℕ) (n : Layer) → LayerHasAll P (HasAll P h) n
      → AllByRecursion (ShapeHasAll P) (shapes_in (size h) (shapes_from h) at n)
  layer_has h ih at (Node-F.Leaf tag es) a = (tt, tt)
  layer_has h ih at (Node-F.Inner tag es) a =
      (rows_have h (at + 1) es a, below_have h ih (at + 1) es a)

  -- the shapes of a node and of all below it
  pub shapes_have_all : (h : ℕ) → ShapesHaveAt h
  shapes_have_all zero at n a = tt
  shapes_have_all (suc h) at n a = layer_has h (shapes_have_all h) at (out-Node n) a

  -- ---- from the tree to its records

  abbrev LeavesHaveAt : ℕ → Type 0
  LeavesHaveAt h = (n : Node) → HasAll P h n → AllByRecursion (LeafEntryHas P) (leaves h n)

  -- the leaf entries below an entry
  abbrev below : ℕ → InnerEntry → List LeafEntry
  below h e = leaves h (out-InnerEntry e).child

  leaves_layer : (h : ℕ) → LeavesHaveAt h → (n : Layer) → LayerHasAll P (HasAll P h) n
      → AllByRecursion (LeafEntryHas P) (leaves_in (leaves h) n)
  leaves_layer h ih (Node-F.Leaf tag es) a = a
  leaves_layer h ih (Node-F.Inner tag []) a = tt
  leaves_layer h ih (Node-F.Inner tag (e ∷ es)) a =
      all_append (LeafEntryHas P) (below h e) (flat_map (below h) es)
      (ih (out-InnerEntry e).child a.0.1) (leaves_layer h ih (Node-F.Inner tag es) a.1)

  -- the leaf entries below a node
  pub leaves_have_all : (h : ℕ) → LeavesHaveAt h
  leaves_have_all zero n a = tt
  leaves_have_all (suc h) n a = leaves_layer h (leaves_have_all h) (out-Node n) a

  abbrev rows_of : List LeafEntry → Rows
  rows_of es = finite.from_entries {R = nat_cmp} (map record_of es)

  entries_have : (es : List LeafEntry) → AllByRecursion (LeafEntryHas P) es
      → RowsHaveAll P (rows_of es)
  entries_have [] a q v g =
      let none : finite.get (rows_of []) q ≡ None = finite.get-empty nat_cmp q in absurd (cc)
  entries_have (e ∷ es) a q v g =
      let here = finite.get-insert nat_cmp_total (rows_of es) e.number e.vector q in
      elim (ties q e.number) [
        | inl t ↦
            let is : Some e.vector ≡ Some v = sym (rw t.0 at here) ∙ g in
            let same : e.vector ≡ v = cc in
            subst P same a.0
        | inr f ↦ entries_have es a.1 q v (sym (rw f.0 at here) ∙ g)
      ]

  -- the records of a tree
  pub records_have_all : (h : ℕ) (n : Node) → HasAll P h n → RowsHaveAll P (records h n)
  records_have_all h n a = entries_have (leaves h n) (leaves_have_all h n a)

  -- ---- back to the tree

  rows_less : (rows : Rows) (k : ℕ) → RowsHaveAll P rows → RowsHaveAll P (finite.remove rows k)
  rows_less rows k a q v g =
      let less = finite.get-remove nat_cmp_total rows k q in
      elim (ties q k) [
        | inl t ↦ absurd (let none : None ≡ Some v = sym (rw t.0 at less) ∙ g in cc)
        | inr f ↦ a q v (sym (rw f.0 at less) ∙ g)
      ]

  taken_have : (es : List LeafEntry) (left after : Rows) → Taken es left after → RowsHaveAll P left
      → AllByRecursion (LeafEntryHas P) es
  taken_have [] left after t a = tt
  taken_have (e ∷ es) left after t a =
      let rest = finite.remove left e.number in
      (a e.number e.vector t.0, taken_have es rest after t.1 (rows_less left e.number a))

  abbrev GivenBackAt : ℕ → Type 0
  GivenBackAt h = (at : ℕ) (n : Node) → AllByRecursion (ShapeHasAll P) (shapes_from h at n)
      → AllByRecursion (LeafEntryHas P) (leaves h n) → HasAll P h n

  entries_back : (h : ℕ) → GivenBackAt h → (at : ℕ) (es : List InnerEntry)
      → AllByRecursion RowHas (inner_rows (size h) at es)
      → AllByRecursion (ShapeHasAll P) (shapes_below (size h) (shapes_from h) at es)
      → AllByRecursion (LeafEntryHas P) (flat_map (below h) es)
      → AllByRecursion (EntryHasAll P h) es
  entries_back h ih at [] rows shapes vectors = tt
  entries_back h ih at (e ∷ es) rows shapes vectors =
      let child = (out-InnerEntry e).child in
      let next = at + size h child in
      let first = shapes_from h at child in
      let rest = shapes_below (size h) (shapes_from h) next es in
      let others = flat_map (below h) es in (
        (
          rows.0,
          ih at child (all_front (ShapeHasAll P) first rest shapes)
              (all_front (LeafEntryHas P) (below h e) others vectors),
        ),
        entries_back h ih next es rows.1 (all_back (ShapeHasAll P) first rest shapes)
            (all_back (LeafEntryHas P) (below h e) others vectors),
      )

  layer_back : (h : ℕ) → GivenBackAt h → (at : ℕ) (n : Layer)
      → AllByRecursion (ShapeHasAll P) (shapes_in (size h) (shapes_from h) at n)
      → AllByRecursion (LeafEntryHas P) (leaves_in (leaves h) n) → LayerHasAll P (HasAll P h) n
  layer_back h ih at (Node-F.Leaf tag es) shapes vectors = vectors
  layer_back h ih at (Node-F.Inner tag es) shapes vectors =
      entries_back h ih (at + 1) es shapes.0 shapes.1 vectors

  -- a node whose shapes and leaf entries have the property
  pub given_back : (h : ℕ) → GivenBackAt h
  given_back zero at n shapes vectors = tt
  given_back (suc h) at n shapes vectors =
      layer_back h (given_back h) at (out-Node n) shapes vectors

  module _ (dist : List ℕ → List ℕ → ℕ) (width greatest h : ℕ) where
    -- a well-formed tree whose shapes and records have the property
    pub tree_has_all : (n : Node) → IsTree dist width greatest h n → RowsHaveAll P (records h n)
        → AllByRecursion (ShapeHasAll P) (preorder h n) → HasAll P h n
    tree_has_all n tree rows shapes =
        given_back h 0 n shapes (taken_have (leaves h n) (records h n) finite.empty
        (distinct_taken (leaves h n) tree.distinct) rows)

    -- a tree of shapes and records that have the property
    pub built_has_all : (shapes : List Shape) (rows : Rows) (root : Option Node)
        → IsTreeOf dist width greatest h shapes rows root → RowsHaveAll P rows
        → AllByRecursion (ShapeHasAll P) shapes → RootHasAll P h root
    built_has_all shapes rows None is all objects = tt
    built_has_all shapes rows (Some n) is all objects =
        tree_has_all n is.0 (subst (RowsHaveAll P) (sym is.2) all)
        (subst (AllByRecursion (ShapeHasAll P)) (sym is.1) objects)
