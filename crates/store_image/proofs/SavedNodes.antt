-- The nodes of a tree can be written: their entries are few, and what is in them has four bytes.
use Rattle.std.proofs.Common.{◌≡◌, inl, inr, ℕ, zero, suc, ◌+◌, ◌-◌, ◌<◌, ◌≤◌, ◌^◌, Bool, true, false, cond, ◌&&◌, List, [], ◌∷◌, length, map, Option, Some, None, refl, sym, ◌∙◌, ap, subst, arith, IsTrue}
use Rattle.std.specs.Prelude.{◌==◌, ◌≢◌, nat_le, sum_by, slice_get}
use Rattle.std.specs.List.{AllByRecursion, flat_map}
use Rattle.std.specs.Cmp.{nat_cmp_total}
use Rattle.std.specs.FinMap as finite
use Rattle.std.proofs.lemmas.Bool.{or_right, le-leb}
use Rattle.std.proofs.lemmas.List.{length-map}
use Rattle.std.proofs.lemmas.List.Sums.{sum_by-cons}
use Rattle.vec_record.specs.Held as held
use Rattle.vec_record.specs.Vectors.{IsVector}
use Rattle.vec_record.specs.Limits.{width_of}
use Rattle.vec_record.specs.Spelled.{is_spelled}
use Rattle.vec_record.specs.Distance.{greatest_of}
use Rattle.mtree_node.specs.declared.node.LeafEntry.{LeafEntry}
use Rattle.mtree_node.specs.declared.node.InnerEntry.{InnerEntry, out-InnerEntry}
use Rattle.mtree_node.specs.declared.node.Node.{Node, out-Node}
use Rattle.mtree_node.specs.declared.node.Node.TheOpen.{Node-F}
use Rattle.mtree_node.specs.declared.shape.Shape.{Shape}
use Rattle.mtree_node.specs.declared.shape.Shape.TheVariants as shape
use Rattle.mtree_node.specs.Layer.{Layer}
use Rattle.mtree_node.specs.Preorder.{InnerRow, leaf_row, size, size_in, inner_rows, shapes_below, shapes_in, shapes_from, preorder}
use Rattle.mtree_node.specs.Tree.{leaves, leaves_in, parent_distance, IsFilled, IsLeafEntry, IsInnerEntry, IsNode, IsNodeIn, IsTree}
use Rattle.mtree_node.proofs.Taken.{Taken}
use Rattle.mtree_node.proofs.Distinct.{ties, distinct_taken}
use Rattle.mtree_node.proofs.Sizes.{shapes_length}
use Rattle.mtree_index.proofs.Places.{all_append, all_get}
use Rattle.node_walks.proofs.Walks.{IsWideOver}
use Rattle.node_refs.specs.Laws.{referring}
use Rattle.tree_objects.specs.Objects.{ShapeHasAll}
use Rattle.tree_objects.specs.Laws.{Passes}
use Rattle.tree_objects.proofs.Lists.{all_front, all_back, get_all}
use Rattle.tree_layout.specs.Layouts.{node_at, leaf_rows, inner_rows as inner_rows_of, referred, leaf_for, inner_for}
use Rattle.page_layout.specs.Heads.{Values}
use Rattle.page_layout.specs.Leaves.{IsLeafRow, IsLeaf}
use Rattle.page_layout.specs.Inner.{is_inner_fill, IsInnerRow, AreInner}

-- what is to be known of an inner node's entries, whose children's places are below a limit
pub record IsGoodRow (width greatest limit : ℕ) (row : InnerRow) : Type 0 where
  pub place : row.0 < limit
  pub parent : row.1 < 2 ^ 32
  pub radius : row.2 ≤ greatest
  pub object : IsVector width row.3

pub record AreGoodRows (width greatest limit : ℕ) (rows : List InnerRow) : Type 0 where
  pub some : 2 ≤ length rows
  pub few : length rows ≤ 30
  pub each : AllByRecursion (IsGoodRow width greatest limit) rows

-- and of a node
abbrev pub IsGoodShape : ℕ → ℕ → ℕ → Shape → Type 0
IsGoodShape width greatest limit (shape.Leaf tag rows) = IsLeaf rows
IsGoodShape width greatest limit (shape.Inner tag rows) = AreGoodRows width greatest limit rows

-- a number that a leaf may have
pub record IsNumber (n : ℕ) : Type 0 where
  pub some : n ≢ 0
  pub small : n < 2 ^ 32

abbrev HasNumber : LeafEntry → Type 0
HasNumber e = IsNumber e.number

-- the numbers of leaf entries are those of their records
numbers_less : (rows : held.Rows) (k : ℕ) → ((q : ℕ) (x : List ℕ) → finite.get rows q ≡ Some x → IsNumber q) → (q : ℕ) (x : List ℕ) → finite.get (finite.remove rows k) q ≡ Some x → IsNumber q
numbers_less rows k each q x g =
    let less = finite.get-remove nat_cmp_total rows k q in
    elim (ties q k) [
      | inl t ↦ absurd (let none : None ≡ Some x = sym (rw t.0 at less) ∙ g in cc)
      | inr f ↦ each q x (sym (rw f.0 at less) ∙ g)
    ]

numbers_taken : (es : List LeafEntry) (left after : held.Rows) → Taken es left after → ((q : ℕ) (x : List ℕ) → finite.get left q ≡ Some x → IsNumber q) → AllByRecursion HasNumber es
numbers_taken [] left after t each = tt
numbers_taken (e ∷ es) left after t each =
    (each e.number e.vector t.0, numbers_taken es (finite.remove left e.number) after t.1 (numbers_less left e.number each))

module _ (dist : List ℕ → List ℕ → ℕ) (width greatest : ℕ) (small : (u x : List ℕ) → IsVector width u → IsVector width x → dist u x < 2 ^ 32) where
  abbrev Below : ℕ → List ℕ → Node → Type 0
  Below h object n = IsNode dist width greatest h (Some object) n

  abbrev IsEntry : ℕ → Option (List ℕ) → InnerEntry → Type 0
  IsEntry h over e = IsInnerEntry dist width greatest (Below h) (leaves h) over (out-InnerEntry e)

  abbrev size_below : ℕ → InnerEntry → ℕ
  size_below h e = size h (out-InnerEntry e).child

  abbrev leaves_below : ℕ → InnerEntry → List LeafEntry
  leaves_below h e = leaves h (out-InnerEntry e).child

  parent_small : (over : Option (List ℕ)) (x : List ℕ) → IsWideOver width over → IsVector width x → parent_distance dist over x < 2 ^ 32
  parent_small None x wide is = omega arith
  parent_small (Some object) x wide is = small object x wide is

  few_filled : (over : Option (List ℕ)) (low n : ℕ) → IsFilled over low n → n ≤ 30
  few_filled None low n is = is.1
  few_filled (Some object) low n is = is.1

  two_filled : (over : Option (List ℕ)) (n : ℕ) → IsFilled over 2 n → 2 ≤ n
  two_filled None n is = is.0
  two_filled (Some object) n is = omega (arith, is.0)

  -- a leaf's entries
  leaf_good : (over : Option (List ℕ)) (es : List LeafEntry) → IsWideOver width over → AllByRecursion (IsLeafEntry dist width greatest over) es → AllByRecursion HasNumber es → AllByRecursion IsLeafRow (map leaf_row es)
  leaf_good over [] wide each numbers = tt
  leaf_good over (e ∷ es) wide each numbers =
      let row : IsLeafRow (leaf_row e) = record {
        number = numbers.0.some;
        small = numbers.0.small;
        parent = subst (λ (n : ℕ). n < 2 ^ 32) (sym each.0.parent) (parent_small over e.vector wide each.0.vector);
      } in
      (row, leaf_good over es wide each.1 numbers.1)

  -- a node has a node
  some_layer : (h : ℕ) (over : Option (List ℕ)) (n : Layer) → IsNodeIn dist width greatest h (Below h) (leaves h) over n → 1 ≤ size_in (size h) n
  some_layer h over (Node-F.Leaf tag es) is = omega arith
  some_layer h over (Node-F.Inner tag es) is = omega arith

  some_node : (h : ℕ) (over : Option (List ℕ)) (n : Node) → IsNode dist width greatest h over n → 1 ≤ size h n
  some_node zero over n is = absurd is
  some_node (suc h) over n is = some_layer h over (out-Node n) is

  module _ (limit : ℕ) where
    abbrev Good : Shape → Type 0
    Good s = IsGoodShape width greatest limit s

    -- an inner node's entries
    inner_good : (h at : ℕ) (over : Option (List ℕ)) (es : List InnerEntry) → IsWideOver width over → AllByRecursion (IsEntry h over) es → at + sum_by (size_below h) es ≤ limit → AllByRecursion (IsGoodRow width greatest limit) (inner_rows (size h) at es)
    inner_good h at over [] wide each below = tt
    inner_good h at over (e ∷ es) wide each below =
        let total = sum_by-cons (size_below h) e es in
        let child = some_node h (Some (out-InnerEntry e).object) (out-InnerEntry e).child each.0.child in
        let row : IsGoodRow width greatest limit (at, (out-InnerEntry e).parent, (out-InnerEntry e).radius, (out-InnerEntry e).object) = record {
          place = omega (arith, below, total, child);
          parent = subst (λ (n : ℕ). n < 2 ^ 32) (sym each.0.parent) (parent_small over (out-InnerEntry e).object wide each.0.object);
          radius = each.0.radius;
          object = each.0.object;
        } in
        (row, inner_good h (at + size_below h e) over es wide each.1 (omega (arith, below, total)))

    length-inner_rows : (h at : ℕ) (es : List InnerEntry) → length (inner_rows (size h) at es) ≡ length es
    length-inner_rows h at [] = refl
    length-inner_rows h at (e ∷ es) = ap suc (length-inner_rows h (at + size_below h e) es)

    -- what is to be proved, at one height
    abbrev GoodAt : ℕ → Type 0
    GoodAt h = (at : ℕ) (over : Option (List ℕ)) (n : Node) → IsWideOver width over → IsNode dist width greatest h over n → AllByRecursion HasNumber (leaves h n) → at + size h n ≤ limit → AllByRecursion Good (shapes_from h at n)

    below_good : (h : ℕ) → GoodAt h → (at : ℕ) (over : Option (List ℕ)) (es : List InnerEntry) → AllByRecursion (IsEntry h over) es → AllByRecursion HasNumber (flat_map (leaves_below h) es) → at + sum_by (size_below h) es ≤ limit
        → AllByRecursion Good (shapes_below (size h) (shapes_from h) at es)
    below_good h ih at over [] each numbers below = tt
    below_good h ih at over (e ∷ es) each numbers below =
        let total = sum_by-cons (size_below h) e es in
        let child = (out-InnerEntry e).child in
        all_append Good (shapes_from h at child) (shapes_below (size h) (shapes_from h) (at + size h child) es)
        (ih at (Some (out-InnerEntry e).object) child each.0.object each.0.child (all_front HasNumber (leaves_below h e) (flat_map (leaves_below h) es) numbers) (omega (arith, below, total)))
        (below_good h ih (at + size h child) over es each.1 (all_back HasNumber (leaves_below h e) (flat_map (leaves_below h) es) numbers) (omega (arith, below, total)))

    layer_good : (h : ℕ) → GoodAt h → (at : ℕ) (over : Option (List ℕ)) (n : Layer) → IsWideOver width over → IsNodeIn dist width greatest h (Below h) (leaves h) over n → AllByRecursion HasNumber (leaves_in (leaves h) n) → at + size_in (size h) n ≤ limit
        → AllByRecursion Good (shapes_in (size h) (shapes_from h) at n)
    layer_good h ih at over (Node-F.Leaf tag es) wide is numbers below =
        let rows : IsLeaf (map leaf_row es) = record {
          few = omega (arith, length-map es leaf_row, few_filled over 1 (length es) is.1);
          each = leaf_good over es wide is.2 numbers;
        } in
        (rows, tt)
    layer_good h ih at over (Node-F.Inner tag es) wide is numbers below =
        let long = length-inner_rows h (at + 1) es in
        let rows : AreGoodRows width greatest limit (inner_rows (size h) (at + 1) es) = record {
          some = omega (arith, long, two_filled over (length es) is.1);
          few = omega (arith, long, few_filled over 2 (length es) is.1);
          each = inner_good h (at + 1) over es wide is.2 (omega (arith, below));
        } in
        (rows, below_good h ih (at + 1) over es is.2 numbers (omega (arith, below)))

    shapes_good : (h : ℕ) → GoodAt h
    shapes_good zero at over n wide is numbers below = tt
    shapes_good (suc h) at over n wide is numbers below = layer_good h (shapes_good h) at over (out-Node n) wide is numbers below

  -- the nodes of a tree
  pub nodes_good : (h : ℕ) (n : Node) (rows : held.Rows) → IsTree dist width greatest h n → finite.from_entries (map (λ (e : LeafEntry). (e.number, e.vector)) (leaves h n)) ≡ rows
      → ((q : ℕ) (x : List ℕ) → finite.get rows q ≡ Some x → IsNumber q) → AllByRecursion (IsGoodShape width greatest (length (preorder h n))) (preorder h n)
  nodes_good h n rows is same each =
      let taken = subst (λ (r : held.Rows). Taken (leaves h n) r finite.empty) same (distinct_taken (leaves h n) is.distinct) in
      shapes_good (length (preorder h n)) h 0 None n tt is.node (numbers_taken (leaves h n) rows finite.empty taken each) (omega (arith, shapes_length h 0 n))

-- references that a store may have: one for each node, none 0, and all in four bytes
pub record AreRefs (limit : ℕ) (refs : List ℕ) : Type 0 where
  pub long : length refs ≡ limit
  pub some : AllByRecursion (λ r. r ≢ 0) refs
  pub small : AllByRecursion (λ r. r < 2 ^ 32) refs

module _ (v : Values) (limit : ℕ) (refs : List ℕ) (are : AreRefs limit refs) where
  abbrev width : ℕ
  width = width_of v.metric v.dim

  abbrev greatest : ℕ
  greatest = greatest_of v.metric width

  abbrev is_good : List ℕ → Bool
  is_good object = is_spelled v.metric v.dim object

  rows_written : (rows : List InnerRow) → AllByRecursion (IsGoodRow width greatest limit) rows → AllByRecursion (λ (row : InnerRow). IsTrue (is_good row.3)) rows → AllByRecursion (IsInnerRow v) (map (referring refs) rows)
  rows_written [] each spelled = tt
  rows_written (row ∷ rows) each spelled =
      let at : row.0 < length refs = omega (arith, each.0.place, are.long) in
      let mine : IsInnerRow v (referring refs row) = record {
        child = get_all (λ r. r ≢ 0) refs row.0 0 are.some at;
        small = get_all (λ r. r < 2 ^ 32) refs row.0 0 are.small at;
        parent = each.0.parent;
        radius = each.0.radius;
        object = each.0.object;
        spelled = spelled.0;
      } in
      (mine, rows_written rows each.1 spelled.1)

  -- what a node is that can be written
  abbrev IsWritten : Shape → Type 0
  IsWritten (shape.Leaf tag rows) = IsLeaf rows
  IsWritten (shape.Inner tag rows) = AreInner v rows

  fill_is : (n : ℕ) → 2 ≤ n → n ≤ 30 → is_inner_fill n ≡ true
  fill_is n some few = or_right (n == 0) (nat_le 2 n && nat_le n 30) (ap (λ (b : Bool). b && nat_le n 30) (le-leb 2 n some) ∙ le-leb n 30 few)

  node_written : (s : Shape) → IsGoodShape width greatest limit s → ShapeHasAll (Passes is_good) s → IsWritten (referred refs s)
  node_written (shape.Leaf tag rows) good spelled = good
  node_written (shape.Inner tag rows) good spelled =
      let long = length-map rows (referring refs) in
      record {
        fill = fill_is (length (map (referring refs) rows)) (omega (arith, long, good.some)) (omega (arith, long, good.few));
        each = rows_written rows good.each spelled;
      }

  nodes_written : (shapes : List Shape) → AllByRecursion (IsGoodShape width greatest limit) shapes → AllByRecursion (ShapeHasAll (Passes is_good)) shapes → AllByRecursion IsWritten (map (referred refs) shapes)
  nodes_written [] good spelled = tt
  nodes_written (s ∷ shapes) good spelled = (node_written s good.0 spelled.0, nodes_written shapes good.1 spelled.1)

  -- what stands in a leaf slot, and in an inner page
  leaf_or_none : (o : Option Shape) → ((s : Shape) → o ≡ Some s → IsWritten s) → IsLeaf (leaf_rows o)
  leaf_or_none None each = record { few = omega arith; each = tt }
  leaf_or_none (Some (shape.Leaf tag rows)) each = each (shape.Leaf tag rows) refl
  leaf_or_none (Some (shape.Inner tag rows)) each = record { few = omega arith; each = tt }

  inner_or_none : (o : Option Shape) → ((s : Shape) → o ≡ Some s → IsWritten s) → AreInner v (inner_rows_of o)
  inner_or_none None each = record { fill = refl; each = tt }
  inner_or_none (Some (shape.Leaf tag rows)) each = record { fill = refl; each = tt }
  inner_or_none (Some (shape.Inner tag rows)) each = each (shape.Inner tag rows) refl

  node_or_none : (b : Bool) (nodes : List Shape) (i : ℕ) (s : Shape) → AllByRecursion IsWritten nodes → cond b None (slice_get nodes i) ≡ Some s → IsWritten s
  node_or_none true nodes i s each is = absurd (let away : None ≡ Some s = is in cc)
  node_or_none false nodes i s each is = all_get IsWritten nodes i s each is

  leaves_for : (nodes : List Shape) (slots : List ℕ) → AllByRecursion IsWritten nodes → AllByRecursion IsLeaf (map (leaf_for nodes) slots)
  leaves_for nodes [] each = tt
  leaves_for nodes (i ∷ slots) each = (leaf_or_none (node_at nodes i) (λ s is. node_or_none (i == 0) nodes (i - 1) s each is), leaves_for nodes slots each)

  inners_for : (nodes : List Shape) (slots : List ℕ) → AllByRecursion IsWritten nodes → AllByRecursion (AreInner v) (map (inner_for nodes) slots)
  inners_for nodes [] each = tt
  inners_for nodes (i ∷ slots) each = (inner_or_none (node_at nodes i) (λ s is. node_or_none (i == 0) nodes (i - 1) s each is), inners_for nodes slots each)

  module _ (shapes : List Shape) (good : AllByRecursion (IsGoodShape width greatest limit) shapes) (spelled : AllByRecursion (ShapeHasAll (Passes is_good)) shapes) where
    pub leaves_written : (slots : List ℕ) → AllByRecursion IsLeaf (map (leaf_for (map (referred refs) shapes)) slots)
    leaves_written slots = leaves_for (map (referred refs) shapes) slots (nodes_written shapes good spelled)

    pub inners_written : (slots : List ℕ) → AllByRecursion (AreInner v) (map (inner_for (map (referred refs) shapes)) slots)
    inners_written slots = inners_for (map (referred refs) shapes) slots (nodes_written shapes good spelled)
