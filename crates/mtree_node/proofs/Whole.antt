-- What stands of a tree when a walk has built a node: of the whole tree at the end, and of the part below a node on the way.
use Rattle.std.proofs.Common.{◌≡◌, ℕ, zero, suc, ◌+◌, ◌≤◌, List, [], ◌∷◌, ◌++◌, length, true, Some, None, sym, ap, subst, ◌∙◌, arith, append-nil, length-append}
use Rattle.std.specs.List.{AllByRecursion, flat_map}
use Rattle.std.specs.FinMap as finite
use Rattle.vec_record.specs.Held.{Rows, HaveWidth}
use Rattle.mtree_node.specs.declared.node.InnerEntry.{InnerEntry, out-InnerEntry}
use Rattle.mtree_node.specs.declared.node.Node.{Node, out-Node}
use Rattle.mtree_node.specs.declared.node.Node.TheOpen.{Node-F}
use Rattle.mtree_node.specs.declared.shape.Shape.{Shape}
use Rattle.mtree_node.specs.Layer.{Layer}
use Rattle.mtree_node.specs.Tree.{leaves, leaves_in, IsInnerEntry, IsNode, IsNodeIn}
use Rattle.mtree_node.specs.Preorder.{shapes_from}
use Rattle.mtree_node.specs.Walk.{Standing, Builds, walk, start, is_of_level, IsTreeOf}
use Rattle.mtree_node.specs.Progress.{HasVectorsIn}
use Rattle.mtree_node.proofs.Taken.{Taken, taken_len, taken_records, taken_distinct}
use Rattle.mtree_node.proofs.Sound.{still_ready, sound}

module _ (dist : List ℕ → List ℕ → ℕ) (width greatest : ℕ) where
  -- the shapes are a tree over the rows, where the walk named each record and reached each shape
  pub whole_tree : (h : ℕ) (shapes : List Shape) (rows : Rows) (n : Node) (t : Standing) → HaveWidth width rows → AllByRecursion (HasVectorsIn width greatest) shapes → is_of_level h shapes ≡ true
      → walk dist h None (start shapes rows) ≡ Builds n t → finite.len t.left ≡ 0 → t.rest ≡ [] → IsTreeOf dist width greatest h shapes rows (Some n)
  whole_tree h shapes rows n t widths objects level is named reached =
      let k = sound dist width greatest h None (start shapes rows) n t widths objects level is in
      let all = subst (Taken (leaves h n) rows) (finite.empty_of_len t.left named) k.taken in (
        record { node = k.node; distinct = taken_distinct (leaves h n) rows t.left k.taken },
        sym (k.shapes ∙ ap (λ rest. shapes_from h 0 n ++ rest) reached ∙ append-nil (shapes_from h 0 n)),
        taken_records (leaves h n) rows all,
      )

  -- the first entry has leaf entries enough below it
  seven_of_first : (h : ℕ) → ((object : List ℕ) (n : Node) → IsNode dist width greatest h (Some object) n → 7 ≤ length (leaves h n))
      → (object : List ℕ) (es : List InnerEntry) → 7 ≤ length es
      → AllByRecursion (λ e. IsInnerEntry dist width greatest (λ object m. IsNode dist width greatest h (Some object) m) (leaves h) (Some object) (out-InnerEntry e)) es
      → 7 ≤ length (flat_map (λ e. leaves h (out-InnerEntry e).child) es)
  seven_of_first h ih object [] some all = absurd (omega (arith, some))
  seven_of_first h ih object (e ∷ es) some all =
      let x = out-InnerEntry e in
      omega (arith, ih x.object x.child all.0.child, length-append (leaves h x.child) (flat_map (λ e. leaves h (out-InnerEntry e).child) es))

  seven_in : (h : ℕ) → ((object : List ℕ) (n : Node) → IsNode dist width greatest h (Some object) n → 7 ≤ length (leaves h n))
      → (object : List ℕ) (n : Layer) → IsNodeIn dist width greatest h (λ object m. IsNode dist width greatest h (Some object) m) (leaves h) (Some object) n → 7 ≤ length (leaves_in (leaves h) n)
  seven_in h ih object (Node-F.Leaf tag es) k = k.1.0
  seven_in h ih object (Node-F.Inner tag es) k = seven_of_first h ih object es k.1.0 k.2

  -- each node below the root has 7 leaf entries or more below it
  pub seven_below : (h : ℕ) (object : List ℕ) (n : Node) → IsNode dist width greatest h (Some object) n → 7 ≤ length (leaves h n)
  seven_below zero object n k = absurd k
  seven_below (suc h) object n k = seven_in h (seven_below h) object (out-Node n) k

  -- what a walk below the root took, and what it left as it was
  pub part_of : (h : ℕ) (object : List ℕ) (s t : Standing) (n : Node) → HaveWidth width s.left → AllByRecursion (HasVectorsIn width greatest) s.rest → is_of_level h s.rest ≡ true
      → walk dist h (Some object) s ≡ Builds n t
      → (finite.len t.left + length (leaves h n) ≡ finite.len s.left) × (7 ≤ length (leaves h n)) × HaveWidth width t.left × AllByRecursion (HasVectorsIn width greatest) t.rest
  part_of h object s t n widths objects level is =
      let k = sound dist width greatest h (Some object) s n t widths objects level is in
      let ready = still_ready dist width greatest h s.next n s t (widths, objects) k.shapes k.taken in
      (taken_len (leaves h n) s.left t.left k.taken, seven_below h object n k.node, ready.0, ready.1)
