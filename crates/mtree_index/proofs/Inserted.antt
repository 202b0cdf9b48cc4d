-- An insertion keeps a tree lawful, and adds its pair to what the tree holds.
use Rattle.std.proofs.Common.{◌≡◌, ℕ, zero, suc, ◌+◌, ◌-◌, ◌<◌, ◌≤◌, true, false, List, [], ◌∷◌, ◌++◌, length, map, Option, Some, None, refl, sym, ap, subst, ◌∙◌, arith, inl, inr, add-one, Bool, cond}
use Rattle.std.specs.List.{AllByRecursion}
use Rattle.std.specs.Ordering.{nat_cmp, eq_by_cmp}
use Rattle.std.specs.Cmp.{nat_cmp_total, unsigned_tied}
use Rattle.std.proofs.lemmas.Bool.Decides.{eqb_tells}
use Rattle.std.specs.FinMap.{from_entries, insert, get, len, get-from_entries, len-insert, contains_key}
use Rattle.vec_record.specs.Vectors.{IsVector, IsWidth, AreBytes}
use Rattle.vec_record.specs.Held.{Rows}
use Rattle.mtree_node.specs.declared.node.LeafEntry.{LeafEntry}
use Rattle.mtree_node.specs.declared.node.InnerEntry.{out-InnerEntry}
use Rattle.mtree_node.specs.declared.node.Node.{Node}
use Rattle.mtree_node.specs.declared.node.Node.TheVariants as node
use Rattle.mtree_node.specs.Tree.{leaves, record_of, AreDistinct, IsTree}
use Rattle.mtree_node.proofs.Opened.{out_inner, out_leaf}
use Rattle.mtree_index.specs.Plain.{PlainTree}
use Rattle.mtree_index.specs.Insertion.{Outcome, Stays, Splits, new_entry, inserted}
use Rattle.mtree_index.specs.Tree.{leaves_of, contents, IsRoot, IsLawful, rooted, grown_from, after_insertion, IsInserted}
use Rattle.mtree_index.proofs.Distinct.{at, distinct_then, contents_then, len_is}
use Rattle.mtree_index.proofs.Height.{low_tree}
use Rattle.mtree_index.proofs.Kept.{IsKept, kept, vectors_below, leaves_leaf, leaves_inner}
use Rattle.mtree_index.proofs.Opened.{has_level}
use Rattle.mtree_index.proofs.Parted.{Lawful}
use Rattle.mtree_index.proofs.Totals.{total, total-cons, total-append}

module _ (dist : List ℕ → List ℕ → ℕ) (w greatest : ℕ) where
  -- what a root is, and what map its leaves make
  abbrev Made : ℕ → List ℕ → List LeafEntry → PlainTree → Type 0
  Made number v old t =
      IsRoot dist w greatest t.height t.root × (from_entries {R = nat_cmp} (map record_of (leaves_of t.height t.root)) ≡ insert (from_entries (map record_of old)) number v)

  root_vectors : (laws : Lawful dist w greatest) (h : ℕ) (root : Option Node) → IsRoot dist w greatest h root → AllByRecursion (λ l. IsVector w l.vector) (leaves_of h root)
  root_vectors laws h None r = tt
  root_vectors laws h (Some n) r = vectors_below dist w greatest laws h None n r.node

  pub root_distinct : (h : ℕ) (root : Option Node) → IsRoot dist w greatest h root → AreDistinct (leaves_of h root)
  root_distinct h None r = λ q. omega arith
  root_distinct h (Some n) r = r.distinct

  vector_there : (q : ℕ) (v : List ℕ) (es : List LeafEntry) → AllByRecursion (λ l. IsVector w l.vector) es → at q es ≡ Some v → IsVector w v
  vector_there q v [] a e = absurd (let x : None ≡ Some v = e in cc)
  vector_there q v (l ∷ es) a e =
      elim (eqb_tells q l.number) [
        | inl t ↦
            let tied : eq_by_cmp nat_cmp q l.number ≡ true = unsigned_tied q l.number ∙ t.0 in
            let is : Some l.vector ≡ Some v = rw tied at e in
            let same : l.vector ≡ v = cc in subst (IsVector w) same a.0
        | inr f ↦
            let tied : eq_by_cmp nat_cmp q l.number ≡ false = unsigned_tied q l.number ∙ f.0 in
            let rest : at q es ≡ Some v = rw tied at e in vector_there q v es a.1 rest
      ]

  -- each vector of a tree has the width
  pub held_vectors : (laws : Lawful dist w greatest) (h : ℕ) (root : Option Node) → IsRoot dist w greatest h root → (q : ℕ) (v : List ℕ) → get (from_entries {R = nat_cmp} (map record_of (leaves_of h root))) q ≡ Some v → IsVector w v
  held_vectors laws h root r q v e = vector_there q v (leaves_of h root) (root_vectors laws h root r) (sym (get-from_entries nat_cmp_total (map record_of (leaves_of h root)) q) ∙ e)

  -- a tree of few vectors is low
  low_root : (h : ℕ) (root : Option Node) → IsRoot dist w greatest h root → length (leaves_of h root) ≤ 200000 → h ≤ 6
  low_root h None r few = omega (arith, r)
  low_root h (Some n) r few = low_tree dist w greatest h n r.node few

  module _ (laws : Lawful dist w greatest) (number : ℕ) (v : List ℕ) (iv : IsVector w v) where
    rooted_made : (h : ℕ) (n : Node) (tree : IsTree dist w greatest h n) → at number (leaves h n) ≡ None → (o : Outcome) → IsKept dist w greatest laws number v iv h None (leaves h n) o → Made number v (leaves h n) (rooted w h o)
    rooted_made h n tree absent (Stays m) k = (
      record { node = k.0; distinct = distinct_then number v (leaves h n) (leaves h m) k.1 tree.distinct absent },
      contents_then number v (leaves h n) (leaves h m) k.1 tree.distinct absent,
    )
    rooted_made h n tree absent (Splits l r) k =
        let root = node.Inner 0 (l ∷ r ∷ []) in
        let level : h ≡ suc (h - 1) = has_level dist w greatest h (Some (out-InnerEntry l).object) (out-InnerEntry l).child k.0.child in
        let below : leaves (suc h) root ≡ leaves h (out-InnerEntry l).child ++ (leaves h (out-InnerEntry r).child ++ []) = leaves_inner dist w greatest laws h 0 (l ∷ r ∷ []) in
        let adds : (f : ℕ → List ℕ → ℕ) → total f (leaves (suc h) root) ≡ f number v + total f (leaves h n) = λ f.
        ap (total f) below ∙ (total-append f (leaves h (out-InnerEntry l).child) (leaves h (out-InnerEntry r).child ++ []) ∙ omega (arith, total-append f (leaves h (out-InnerEntry r).child) [], k.2 f)) in
        rw add-one (
          record { node = rw out_inner (omega (arith, level), (omega arith, omega arith), (k.0, (k.1, tt))); distinct = distinct_then number v (leaves h n) (leaves (suc h) root) adds tree.distinct absent },
          contents_then number v (leaves h n) (leaves (suc h) root) adds tree.distinct absent,
        )

    grown_made : (h : ℕ) (root : Option Node) → IsRoot dist w greatest h root → at number (leaves_of h root) ≡ None → Made number v (leaves_of h root) (grown_from dist greatest number v w h root)
    grown_made h None r absent =
        let e : LeafEntry = new_entry dist greatest number v None in
        let below : leaves (suc zero) (node.Leaf 0 (e ∷ [])) ≡ e ∷ [] = leaves_leaf dist w greatest laws 0 0 (e ∷ []) in
        let adds : (f : ℕ → List ℕ → ℕ) → total f (leaves (suc zero) (node.Leaf 0 (e ∷ []))) ≡ f number v + total f [] = λ f. ap (total f) below ∙ total-cons f e [] in (
          record { node = rw out_leaf (refl, (omega arith, omega arith), (record { vector = iv; parent = refl }, tt)); distinct = distinct_then number v [] (leaves (suc zero) (node.Leaf 0 (e ∷ []))) adds (λ q. omega arith) refl },
          contents_then number v [] (leaves (suc zero) (node.Leaf 0 (e ∷ []))) adds (λ q. omega arith) refl,
        )
    grown_made h (Some n) r absent = rooted_made h n r absent (inserted dist greatest number v h None n) (kept dist w greatest laws number v iv h None n r.node)

    pub grown_root : (h : ℕ) (root : Option Node) → IsRoot dist w greatest h root → get (from_entries {R = nat_cmp} (map record_of (leaves_of h root))) number ≡ None → Made number v (leaves_of h root) (grown_from dist greatest number v w h root)
    grown_root h root r absent = grown_made h root r (sym (get-from_entries nat_cmp_total (map record_of (leaves_of h root)) number) ∙ absent)

rooted_width : (w h : ℕ) (o : Outcome) → (rooted w h o).width ≡ w
rooted_width w h (Stays n) = refl
rooted_width w h (Splits l r) = refl

width_stays : (dist : List ℕ → List ℕ → ℕ) (greatest number : ℕ) (v : List ℕ) (w h : ℕ) (root : Option Node) → (grown_from dist greatest number v w h root).width ≡ w
width_stays dist greatest number v w h None = refl
width_stays dist greatest number v w h (Some n) = rooted_width w h (inserted dist greatest number v h None n)

with_one : (b : Bool) (n : ℕ) → cond b n (n + 1) ≤ n + 1
with_one true n = omega arith
with_one false n = omega arith

-- one pair more is held, at most
one_more : (new : List LeafEntry) (old : Rows) (number : ℕ) (v : List ℕ) → AreDistinct new → from_entries {R = nat_cmp} (map record_of new) ≡ insert old number v → len old < 200000 → length new ≤ 200000
one_more new old number v distinct is room =
    omega (arith, len_is new distinct, ap len is, len-insert nat_cmp_total old number v, with_one (contains_key old number) (len old), room)

-- the tree after an insertion, whose type keeps it as before
pub insert_keeps : (dist : List ℕ → List ℕ → ℕ) (most : ℕ → ℕ) (t : PlainTree) → IsLawful dist most t → Lawful dist t.width (most t.width) → (number : ℕ) (v : List ℕ) → IsVector t.width v → get (contents t) number ≡ None → len (contents t) < 200000
    → (after : PlainTree) → after ≡ after_insertion dist most number v t → IsLawful dist most after × IsInserted dist most t after number v
insert_keeps dist most t lawful laws number v iv absent room after is =
    let new = after_insertion dist most number v t in
    let width : new.width ≡ t.width = width_stays dist (most t.width) number v t.width t.height t.root in
    let made = grown_root dist t.width (most t.width) laws number v iv t.height t.root lawful.root absent in
    let whole : IsLawful dist most new = record {
      width = subst IsWidth (sym width) lawful.width;
      root = subst (λ (w : ℕ). IsRoot dist w (most w) new.height new.root) (sym width) made.0;
      low = low_root dist new.width (most new.width) new.height new.root (subst (λ (w : ℕ). IsRoot dist w (most w) new.height new.root) (sym width) made.0) (one_more (leaves_of new.height new.root) (contents t) number v (root_distinct dist t.width (most t.width) new.height new.root made.0) made.1 room);
    } in (
      subst (IsLawful dist most) (sym is) whole,
      record { tree = is; width = ap (λ (x : PlainTree). x.width) is ∙ width; contents = ap contents is ∙ made.1 },
    )

abbrev tree_of : ℕ → ℕ → Node → PlainTree
tree_of w h n = record { width = w; height = h; root = Some n }

-- the same for a call that took the root out of its tree
pub call_keeps : (dist : List ℕ → List ℕ → ℕ) (most : ℕ → ℕ) (t now : PlainTree) → t ≡ now → IsLawful dist most t → (number : ℕ) (v : List ℕ) → length v ≡ now.width → AreBytes v
    → (IsVector t.width v → Lawful dist t.width (most t.width)) → get (contents now) number ≡ None → len (contents now) < 200000 → (root : Option Node) → root ≡ t.root
    → (h : ℕ) (n : Node) → tree_of (length v) h n ≡ grown_from dist (most (length v)) number v (length v) t.height root
    → IsLawful dist most (tree_of t.width h n) × IsInserted dist most now (tree_of t.width h n) number v
call_keeps dist most t now same lawful number v width bytes laws absent room root taken h n made =
    let wide : length v ≡ t.width = width ∙ sym (ap (λ (x : PlainTree). x.width) same) in
    let iv : IsVector t.width v = record { len = wide; bytes = bytes } in
    let after : tree_of (length v) h n ≡ grown_from dist (most (length v)) number v (length v) t.height t.root = made ∙ ap (grown_from dist (most (length v)) number v (length v) t.height) taken in
    let is = subst (λ (w : ℕ). tree_of w h n ≡ grown_from dist (most w) number v w t.height t.root) wide after in
    let keeps = insert_keeps dist most t lawful (laws iv) number v iv (subst (λ (x : PlainTree). get (contents x) number ≡ None) (sym same) absent) (subst (λ (x : PlainTree). len (contents x) < 200000) (sym same) room) (tree_of t.width h n) is in
    (keeps.0, subst (λ (x : PlainTree). IsInserted dist most x (tree_of t.width h n) number v) same keeps.1)
