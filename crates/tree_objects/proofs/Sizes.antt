-- How many shapes of either kind there are: as many as leaves and inner nodes.
use Rattle.std.proofs.Common.{◌≡◌, ℕ, zero, suc, ◌+◌, ◌/◌, ◌<◌, ◌≤◌, Bool, cond, List, [], ◌∷◌}
use Rattle.std.proofs.Common.{◌++◌, length, sum_by, count_by, Option, Some, None, refl, sym, ap}
use Rattle.std.proofs.Common.{subst, ◌∙◌, arith}
use Rattle.std.specs.List.{AllByRecursion}
use Rattle.std.proofs.lemmas.List.Sums.{sum_by-cons, sum_by-append}
use Rattle.mtree_node.specs.declared.node.InnerEntry.{InnerEntry, out-InnerEntry}
use Rattle.mtree_node.specs.declared.node.Node.{Node, out-Node}
use Rattle.mtree_node.specs.declared.node.Node.TheOpen.{Node-F}
use Rattle.mtree_node.specs.declared.shape.Shape.{Shape}
use Rattle.mtree_node.specs.declared.shape.Shape.TheVariants as shape
use Rattle.mtree_node.specs.Layer.{Layer}
use Rattle.mtree_node.specs.Tree.{leaves, IsFilled, IsNode, IsNodeIn, IsTree}
use Rattle.mtree_node.specs.Preorder.{size, inner_rows, shapes_below, shapes_in, shapes_from}
use Rattle.mtree_node.specs.Preorder.{preorder}
use Rattle.mtree_index.specs.Laws.{leaf_nodes, leaf_nodes_in, inner_nodes, inner_nodes_in}
use Rattle.mtree_index.proofs.Places.{all_weaker}
use Rattle.mtree_index.proofs.Small.{an_entry_for_each, few_leaves, few_inner_nodes}
use Rattle.tree_objects.specs.Sizes.{is_leaf, is_inner}

count_more : {A : Type 0} (test : A → Bool) (x : A) (xs : List A)
    → count_by test (x ∷ xs) ≡ cond (test x) 1 0 + count_by test xs
count_more test x xs = sum_by-cons (λ y. cond (test y) 1 0) x xs

count_both : {A : Type 0} (test : A → Bool) (xs ys : List A)
    → count_by test (xs ++ ys) ≡ count_by test xs + count_by test ys
count_both test xs ys = sum_by-append (λ x. cond (test x) 1 0) xs ys

-- ---- as many shapes of a kind as nodes

module _ (test : Shape → Bool) (nodes : ℕ → Node → ℕ) where
  -- the nodes below an entry
  abbrev below : ℕ → InnerEntry → ℕ
  below h e = nodes h (out-InnerEntry e).child

  -- on a level there are as many shapes that pass the test as nodes
  abbrev AreAt : ℕ → Type 0
  AreAt h = (at : ℕ) (n : Node) → count_by test (shapes_from h at n) ≡ nodes h n

  count_below : (h : ℕ) → AreAt h → (at : ℕ) (es : List InnerEntry)
      → count_by test (shapes_below (size h) (shapes_from h) at es) ≡ sum_by (below h) es
  count_below h ih at [] = refl
  count_below h ih at (e ∷ es) =
      let child = (out-InnerEntry e).child in
      let next = at + size h child in
      let rest = shapes_below (size h) (shapes_from h) next es in
      omega (
        arith,
        count_both test (shapes_from h at child) rest,
        ih at child,
        count_below h ih next es,
        sum_by-cons (below h) e es,
      )

leaf_layer : (h : ℕ) → AreAt is_leaf leaf_nodes h → (at : ℕ) (n : Layer)
    → count_by is_leaf (shapes_in (size h) (shapes_from h) at n) ≡ leaf_nodes_in (leaf_nodes h) n
leaf_layer h ih at (Node-F.Leaf tag es) = refl
leaf_layer h ih at (Node-F.Inner tag es) = count_below is_leaf leaf_nodes h ih (at + 1) es

-- a leaf's shape for each leaf
pub leaf_shapes : (h at : ℕ) (n : Node) → count_by is_leaf (shapes_from h at n) ≡ leaf_nodes h n
leaf_shapes zero at n = refl
leaf_shapes (suc h) at n = leaf_layer h (leaf_shapes h) at (out-Node n)

inner_layer : (h : ℕ) → AreAt is_inner inner_nodes h → (at : ℕ) (n : Layer)
    → count_by is_inner (shapes_in (size h) (shapes_from h) at n) ≡ inner_nodes_in (inner_nodes h) n
inner_layer h ih at (Node-F.Leaf tag es) = refl
inner_layer h ih at (Node-F.Inner tag es) =
    let here = shape.Inner tag (inner_rows (size h) (at + 1) es) in
    count_more is_inner here (shapes_below (size h) (shapes_from h) (at + 1) es)
    ∙ ap (λ (k : ℕ). 1 + k) (count_below is_inner inner_nodes h ih (at + 1) es)

-- an inner node's shape for each inner node
pub inner_shapes : (h at : ℕ) (n : Node) → count_by is_inner (shapes_from h at n) ≡ inner_nodes h n
inner_shapes zero at n = refl
inner_shapes (suc h) at n = inner_layer h (inner_shapes h) at (out-Node n)

-- each shape is of one of the two kinds
pub both_kinds : (shapes : List Shape)
    → count_by is_leaf shapes + count_by is_inner shapes ≡ length shapes
both_kinds [] = refl
both_kinds (shape.Leaf tag rows ∷ rest) =
    let here = shape.Leaf tag rows in
    omega (arith, both_kinds rest, count_more is_leaf here rest, count_more is_inner here rest)
both_kinds (shape.Inner tag rows ∷ rest) =
    let here = shape.Inner tag rows in
    omega (arith, both_kinds rest, count_more is_leaf here rest, count_more is_inner here rest)

module _ (dist : List ℕ → List ℕ → ℕ) (width greatest : ℕ) where
  some_filled : (over : Option (List ℕ)) (low n : ℕ) → 0 < low → IsFilled over low n → 0 < n
  some_filled None low n z fill = omega (arith, fill.0)
  some_filled (Some object) low n z fill = omega (arith, fill.0)

  some_first : (f : InnerEntry → ℕ) (es : List InnerEntry) → 0 < length es
      → AllByRecursion (λ e. 1 ≤ f e) es → 1 ≤ sum_by f es
  some_first f [] l a = absurd (omega (arith, l))
  some_first f (e ∷ es) l a = omega (arith, sum_by-cons f e es, a.0)

  -- a well-formed child
  abbrev IsChild : ℕ → List ℕ → Node → Type 0
  IsChild h object n = IsNode dist width greatest h (Some object) n

  -- a well-formed node on a level has a leaf
  abbrev HaveALeafAt : ℕ → Type 0
  HaveALeafAt h = (over : Option (List ℕ)) (n : Node) → IsNode dist width greatest h over n
      → 1 ≤ leaf_nodes h n

  some_layer : (h : ℕ) → HaveALeafAt h → (over : Option (List ℕ)) (n : Layer)
      → IsNodeIn dist width greatest h (IsChild h) (leaves h) over n
      → 1 ≤ leaf_nodes_in (leaf_nodes h) n
  some_layer h ih over (Node-F.Leaf tag es) s = omega arith
  some_layer h ih over (Node-F.Inner tag es) s =
      let leaf_below = λ (e : InnerEntry). leaf_nodes h (out-InnerEntry e).child in
      some_first leaf_below es (some_filled over 2 (length es) (omega arith) s.1)
      (all_weaker _ (λ (e : InnerEntry). 1 ≤ leaf_below e) es
      (λ e k. ih (Some (out-InnerEntry e).object) (out-InnerEntry e).child k.child) s.2)

  some_leaf : (h : ℕ) → HaveALeafAt h
  some_leaf zero over n s = absurd s
  some_leaf (suc h) over n s = some_layer h (some_leaf h) over (out-Node n) s

  module _ (h : ℕ) (n : Node) (t : IsTree dist width greatest h n) where
    pub few_leaf_shapes : count_by is_leaf (preorder h n) ≤ length (leaves h n) / 7 + 1
    few_leaf_shapes =
        let each = an_entry_for_each dist width greatest h n t in
        let few = subst (λ (k : ℕ). leaf_nodes h n ≤ k / 7 + 1) (sym each)
        (few_leaves dist width greatest h n t) in
        omega (arith, few, leaf_shapes h 0 n)

    pub few_inner_shapes : count_by is_inner (preorder h n) ≤ length (leaves h n) / 42 + 1
    few_inner_shapes =
        let each = an_entry_for_each dist width greatest h n t in
        let few = subst (λ (k : ℕ). inner_nodes h n ≤ k / 42 + 1) (sym each)
        (few_inner_nodes dist width greatest h n t) in
        omega (arith, few, inner_shapes h 0 n)

    pub a_leaf_shape : 1 ≤ count_by is_leaf (preorder h n)
    a_leaf_shape = omega (arith, some_leaf h None n t.node, leaf_shapes h 0 n)
