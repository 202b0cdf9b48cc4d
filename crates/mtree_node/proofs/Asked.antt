-- The preorder of a tree has what a list of shapes needs to be asked whether it is one.
use Rattle.std.proofs.Common.{◌≡◌, ℕ, zero, suc, ◌+◌, ◌≤◌, true, List, [], ◌∷◌, ◌++◌, length, Option, Some, None, subst, arith, length-append, append-nil}
use Rattle.std.specs.List.{AllByRecursion, flat_map}
use Rattle.std.specs.FinMap as finite
use Rattle.mtree_node.specs.declared.node.InnerEntry.{InnerEntry, out-InnerEntry}
use Rattle.mtree_node.specs.declared.node.Node.{Node, out-Node}
use Rattle.mtree_node.specs.declared.node.Node.TheOpen.{Node-F}
use Rattle.mtree_node.specs.declared.shape.Shape.{Shape}
use Rattle.mtree_node.specs.Layer.{Layer}
use Rattle.mtree_node.specs.Tree.{leaves, leaves_in, records, IsNode, IsNodeIn, IsInnerEntry}
use Rattle.mtree_node.specs.Preorder.{InnerRow, size, inner_rows, shapes_below, shapes_in, shapes_from, preorder}
use Rattle.mtree_node.specs.Walk.{is_of_level, HasObjectsIn}
use Rattle.mtree_node.specs.Laws.{TreesCanBeBuilt}
use Rattle.mtree_node.proofs.Taken.{taken_len}
use Rattle.mtree_node.proofs.Distinct.{distinct_taken}
use Rattle.mtree_node.proofs.Whole.{seven_below}
use Rattle.mtree_node.proofs.Complete.{level}

all_append : {A : Type 0} (P : A → Type 0) (xs ys : List A) → AllByRecursion P xs → AllByRecursion P ys → AllByRecursion P (xs ++ ys)
all_append P [] ys p q = q
all_append P (x ∷ xs) ys p q = (p.0, all_append P xs ys p.1 q)

module _ (dist : List ℕ → List ℕ → ℕ) (width greatest : ℕ) where
  abbrev IsEntry : ℕ → Option (List ℕ) → InnerEntry → Type 0
  IsEntry h over e = IsInnerEntry dist width greatest (λ object m. IsNode dist width greatest h (Some object) m) (leaves h) over (out-InnerEntry e)

  abbrev IsLayer : ℕ → Option (List ℕ) → Layer → Type 0
  IsLayer h = IsNodeIn dist width greatest h (λ object m. IsNode dist width greatest h (Some object) m) (leaves h)

  rows_have : (h : ℕ) (over : Option (List ℕ)) (at : ℕ) (es : List InnerEntry) → AllByRecursion (IsEntry h over) es → AllByRecursion (λ (row : InnerRow). (length row.3 ≡ width) × (row.2 ≤ greatest)) (inner_rows (size h) at es)
  rows_have h over at [] all = tt
  rows_have h over at (e ∷ es) all = ((all.0.object.len, all.0.radius), rows_have h over (at + size h (out-InnerEntry e).child) es all.1)

  abbrev Have : ℕ → Type 0
  Have h = (over : Option (List ℕ)) (at : ℕ) (n : Node) → IsNode dist width greatest h over n → AllByRecursion (HasObjectsIn width greatest) (shapes_from h at n)

  below_have : (h : ℕ) → Have h → (over : Option (List ℕ)) (at : ℕ) (es : List InnerEntry) → AllByRecursion (IsEntry h over) es → AllByRecursion (HasObjectsIn width greatest) (shapes_below (size h) (shapes_from h) at es)
  below_have h ih over at [] all = tt
  below_have h ih over at (e ∷ es) all =
      all_append (HasObjectsIn width greatest) (shapes_from h at (out-InnerEntry e).child) (shapes_below (size h) (shapes_from h) (at + size h (out-InnerEntry e).child) es) (ih (Some (out-InnerEntry e).object) at (out-InnerEntry e).child all.0.child)
      (below_have h ih over (at + size h (out-InnerEntry e).child) es all.1)

  layer_has : (h : ℕ) → Have h → (over : Option (List ℕ)) (at : ℕ) (n : Layer) → IsLayer h over n → AllByRecursion (HasObjectsIn width greatest) (shapes_in (size h) (shapes_from h) at n)
  layer_has h ih over at (Node-F.Leaf tag es) s = (tt, tt)
  layer_has h ih over at (Node-F.Inner tag es) s = (rows_have h over (at + 1) es s.2, below_have h ih over (at + 1) es s.2)

  -- objects have the width, and no radius is above the greatest distance
  have : (h : ℕ) → Have h
  have zero over at n s = tt
  have (suc h) over at n s = layer_has h (have h) over at (out-Node n) s

  some_in : (h : ℕ) (n : Layer) → IsLayer h None n → 1 ≤ length (leaves_in (leaves h) n)
  some_in h (Node-F.Leaf tag es) s = s.1.0
  some_in h (Node-F.Inner tag []) s = absurd (omega (arith, s.1.0))
  some_in h (Node-F.Inner tag (e ∷ es)) s =
      omega (arith, seven_below dist width greatest h (out-InnerEntry e).object (out-InnerEntry e).child s.2.0.child, length-append (leaves h (out-InnerEntry e).child) (flat_map (λ (x : InnerEntry). leaves h (out-InnerEntry x).child) es))

  -- a tree has a record
  some_leaf : (h : ℕ) (n : Node) → IsNode dist width greatest h None n → 1 ≤ length (leaves h n)
  some_leaf zero n s = absurd s
  some_leaf (suc h) n s = some_in h (out-Node n) s

  some_level : (h : ℕ) (n : Node) → IsNode dist width greatest h None n → h ≡ 0 → ⊥
  some_level zero n s e = absurd s
  some_level (suc h) n s e = omega (arith, e)

not_empty : (h : ℕ) (shapes : List Shape) → is_of_level h shapes ≡ true → length shapes ≡ 0 → ⊥
not_empty h [] is e = cc
not_empty h (s ∷ shapes) is e = omega (arith, e)

pub trees_can_be_built : TreesCanBeBuilt
trees_can_be_built dist width greatest h n tree low few =
    let first : is_of_level h (preorder h n) ≡ true = subst (λ (ss : List Shape). is_of_level h ss ≡ true) (append-nil (preorder h n)) (level dist width greatest h 0 None n [] tree.node) in
    let records_are = taken_len (leaves h n) (records h n) finite.empty (distinct_taken (leaves h n) tree.distinct) in
    let none = some_level dist width greatest h n tree.node in
    let some = some_leaf dist width greatest h n tree.node in
    record {
      few = few;
      low = low;
      no_shapes = (λ e. absurd (none e), λ e. absurd (not_empty h (preorder h n) first e));
      no_records = (λ e. absurd (none e), λ e. absurd (omega (arith, records_are, e, some)));
      root = λ _. first;
      objects = have dist width greatest h None 0 n tree.node;
    }
