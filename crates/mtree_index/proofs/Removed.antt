-- A removal keeps a tree lawful, and takes its pair from what the tree holds.
use Rattle.std.proofs.Common.{◌≡◌, ℕ, zero, suc, ◌+◌, ◌-◌, ◌≤◌, Bool, true, false, cond, List, [], ◌∷◌, ◌++◌, length, map, Option, Some, None, refl, sym, ap, subst, ◌∙◌, arith, inl, inr, append-nil}
use Rattle.std.specs.Prelude.{◌↔◌, IsTrue}
use Rattle.std.specs.List.{AllByRecursion}
use Rattle.std.specs.Ordering.{nat_cmp, eq_by_cmp}
use Rattle.std.specs.Cmp.{nat_cmp_total}
use Rattle.std.specs.FinMap.{from_entries, remove, get, get-from_entries, get-remove, same_map, nat_cmp-IsAntisymmetric}
use Rattle.std.proofs.lemmas.List.{length-map}
use Rattle.std.proofs.lemmas.Bool.Decides.{eqb_tells}
use Rattle.vec_record.specs.Vectors.{IsVector, IsWidth, AreBytes}
use Rattle.mtree_node.specs.declared.node.LeafEntry.{LeafEntry}
use Rattle.mtree_node.specs.declared.node.InnerEntry.{InnerEntry, out-InnerEntry}
use Rattle.mtree_node.specs.declared.node.Node.{Node, out-Node}
use Rattle.mtree_node.specs.declared.node.Node.TheOpen.{Node-F}
use Rattle.mtree_node.specs.Layer.{Layer}
use Rattle.mtree_node.specs.Tree.{leaves, leaves_in, record_of, AreDistinct, IsLeafEntry, IsNode, IsNodeIn, IsTree}
use Rattle.mtree_node.proofs.Opened.{out_inner, out_leaf}
use Rattle.mtree_index.specs.Entries.{leaf_with_parent, inner_with_parent}
use Rattle.mtree_index.specs.Plain.{PlainTree}
use Rattle.mtree_index.specs.Tree.{leaves_of, contents, IsRoot, IsLawful}
use Rattle.mtree_index.specs.Removal.{removed}
use Rattle.mtree_index.specs.Joinable.{given}
use Rattle.mtree_index.specs.Shrinking.{as_root, as_root_in, lowered, lowered_in, lowered_from, shrunk_from, after_removal, IsRemoved}
use Rattle.mtree_node.proofs.Distinct.{ties}
use Rattle.mtree_index.proofs.Distinct.{under, one, at, here, other, none_total, total_none, some_total, none_or_some, same_by_all}
use Rattle.mtree_index.proofs.Joins.{IsLoose, IsLooseIn, leaf_total, inner_leaves}
use Rattle.mtree_index.proofs.Kept.{IsEntry, leaves_leaf, leaves_inner}
use Rattle.mtree_index.proofs.Lost.{Telling, IsLost, same, lost}
use Rattle.mtree_index.proofs.Parted.{Lawful}
use Rattle.mtree_index.proofs.Totals.{total, total-cons}

-- ---- what is held after one record is gone

module _ (number : ℕ) (v : List ℕ) (old new : List LeafEntry) (loses : (f : ℕ → List ℕ → ℕ) → total f old ≡ f number v + total f new) (distinct : AreDistinct old) where
  -- the numbers stay distinct
  pub distinct_after : AreDistinct new
  distinct_after q = omega (arith, loses (under q one), distinct q)

  gone : at number new ≡ None
  gone = total_none number new (omega (arith, loses (under number one), here number one number v refl, distinct number))

  -- the pair was there
  pub held_before : at number old ≡ Some v
  held_before =
      let sum : (g : List ℕ → ℕ) → total (under number g) old ≡ g v = λ g. omega (arith, loses (under number g), here number g number v refl, none_total number g new gone) in
      elim (none_or_some number old) [
        | inl nothing ↦ absurd (omega (arith, none_total number one old nothing, sum one))
        | inr u ↦ u.1 ∙ ap Some (same_by_all u.0 v (λ g. sym (some_total number g old u.0 (distinct number) u.1) ∙ sum g))
      ]

  found_after : (q : ℕ) → at q new ≡ cond (eq_by_cmp nat_cmp q number) None (at q old)
  found_after q =
      elim (ties q number) [
        | inl t ↦ rw t.0 (subst (λ k. at k new ≡ None) (sym t.1) gone)
        | inr f ↦
            let sum : (g : List ℕ → ℕ) → total (under q g) old ≡ total (under q g) new = λ g. omega (arith, loses (under q g), other q g number v f.1) in
            rw f.0 (elim (none_or_some q old) [
              | inl nothing ↦ total_none q new (omega (arith, sum one, none_total q one old nothing)) ∙ sym nothing
              | inr w ↦ elim (none_or_some q new) [
                | inl nothing ↦ absurd (omega (arith, none_total q one new nothing, sum one, some_total q one old w.0 (distinct q) w.1))
                | inr u ↦ u.1 ∙ (ap Some (same_by_all u.0 w.0 (λ g. sym (some_total q g new u.0 (distinct_after q) u.1) ∙ (sym (sum g) ∙ some_total q g old w.0 (distinct q) w.1))) ∙ sym w.1)
              ]
            ])
      ]

  -- the map has the pairs that it had without this one
  pub contents_after : from_entries {R = nat_cmp} (map record_of new) ≡ remove (from_entries (map record_of old)) number
  contents_after =
      same_map nat_cmp_total nat_cmp-IsAntisymmetric _ _ (λ q.
      get-from_entries nat_cmp_total (map record_of new) q
      ∙ (found_after q
      ∙ (ap (cond (eq_by_cmp nat_cmp q number) None) (sym (get-from_entries nat_cmp_total (map record_of old) q))
      ∙ sym (get-remove nat_cmp_total (from_entries (map record_of old)) number q))))

pub total_count : (es : List LeafEntry) → total (λ n v. 1) es ≡ length es
total_count [] = refl
total_count (e ∷ es) = omega (arith, total-cons (λ n v. 1) e es, total_count es)

-- ---- the root's own rules

module _ (dist : List ℕ → List ℕ → ℕ) (w greatest : ℕ) (laws : Lawful dist w greatest) where
  leaf_cleared : (o : List ℕ) (es : List LeafEntry) → AllByRecursion (IsLeafEntry dist w greatest (Some o)) es → AllByRecursion (IsLeafEntry dist w greatest None) (map (leaf_with_parent 0) es)
  leaf_cleared o [] a = tt
  leaf_cleared o (e ∷ es) a = (record { vector = a.0.vector; parent = refl }, leaf_cleared o es a.1)

  inner_cleared : (h : ℕ) (o : List ℕ) (es : List InnerEntry) → AllByRecursion (IsEntry dist w greatest laws h (Some o)) es → AllByRecursion (IsEntry dist w greatest laws h None) (map (inner_with_parent 0) es)
  inner_cleared h o [] a = tt
  inner_cleared h o (e ∷ es) a = (record { object = a.0.object; parent = refl; radius = a.0.radius; covers = a.0.covers; child = a.0.child }, inner_cleared h o es a.1)

  child_root_in : (h : ℕ) (o : List ℕ) (n : Layer) → IsNodeIn dist w greatest h (λ object m. IsNode dist w greatest h (Some object) m) (leaves h) (Some o) n
      → IsNode dist w greatest (suc h) None (as_root_in n) × ((f : ℕ → List ℕ → ℕ) → total f (leaves (suc h) (as_root_in n)) ≡ total f (leaves_in (leaves h) n))
  child_root_in h o (Node-F.Leaf tag es) s =
      let many = length-map es (leaf_with_parent 0) in (
        rw out_leaf (s.0, (omega (arith, many, s.1.0), omega (arith, many, s.1.1)), leaf_cleared o es s.2),
        λ f. ap (total f) (leaves_leaf dist w greatest laws h tag (map (leaf_with_parent 0) es)) ∙ leaf_total dist w greatest laws f (λ (e : LeafEntry). 0) es,
      )
  child_root_in h o (Node-F.Inner tag es) s =
      let many = length-map es (inner_with_parent 0) in (
        rw out_inner (s.0, (omega (arith, many, s.1.0), omega (arith, many, s.1.1)), inner_cleared h o es s.2),
        λ f. ap (total f) (leaves_inner dist w greatest laws h tag (map (inner_with_parent 0) es) ∙ inner_leaves dist w greatest laws h (λ (e : InnerEntry). 0) es),
      )

  -- a node as a root
  child_root : (h : ℕ) (o : List ℕ) (n : Node) → IsNode dist w greatest h (Some o) n → IsNode dist w greatest h None (as_root n) × ((f : ℕ → List ℕ → ℕ) → total f (leaves h (as_root n)) ≡ total f (leaves h n))
  child_root zero o n s = absurd s
  child_root (suc h) o n s = child_root_in h o (out-Node n) s

  abbrev IsBare : ℕ → Option Node → Type 0
  IsBare h None = h ≡ 0
  IsBare h (Some n) = IsNode dist w greatest h None n

  -- a root that holds what these entries say
  abbrev Holds : ℕ → Option Node → List LeafEntry → Type 0
  Holds h root es = IsBare h root × ((f : ℕ → List ℕ → ℕ) → total f (leaves_of h root) ≡ total f es)

  abbrev HoldsTree : PlainTree → List LeafEntry → Type 0
  HoldsTree t es = Holds t.height t.root es

  stays : (h : ℕ) (n : Node) (layer : Layer) → out-Node n ≡ layer → IsNodeIn dist w greatest h (λ object m. IsNode dist w greatest h (Some object) m) (leaves h) None layer → Holds (suc h) (Some n) (leaves_in (leaves h) layer)
  stays h n layer is s = (subst (IsNodeIn dist w greatest h (λ object m. IsNode dist w greatest h (Some object) m) (leaves h) None) (sym is) s, λ f. ap (λ x. total f (leaves_in (leaves h) x)) is)

  lowered_in_well : (h : ℕ) (n : Node) (layer : Layer) → out-Node n ≡ layer → IsLooseIn dist w greatest laws h None layer → HoldsTree (lowered_in w (suc h) n layer) (leaves_in (leaves h) layer)
  lowered_in_well h n (Node-F.Leaf tag []) is s = (refl, λ f. refl)
  lowered_in_well h n (Node-F.Leaf tag (e ∷ es)) is s = stays h n (Node-F.Leaf tag (e ∷ es)) is (s.0, (omega arith, s.1.1), s.2)
  lowered_in_well h n (Node-F.Inner tag []) is s = absurd (omega (arith, s.1.0))
  lowered_in_well h n (Node-F.Inner tag (e ∷ [])) is s =
      let child = (out-InnerEntry e).child in
      let c = child_root h (out-InnerEntry e).object child s.2.0.child in
      let level : suc h - 1 ≡ h = omega arith in
      subst (λ j. Holds j (Some (as_root child)) (leaves h child ++ [])) (sym level) (c.0, λ f. c.1 f ∙ sym (ap (total f) (append-nil (leaves h child))))
  lowered_in_well h n (Node-F.Inner tag (e ∷ g ∷ es)) is s = stays h n (Node-F.Inner tag (e ∷ g ∷ es)) is (s.0, (omega arith, s.1.1), s.2)

  lowered_well : (h : ℕ) (n : Node) → IsLoose dist w greatest laws h None n → HoldsTree (lowered w h n) (leaves h n)
  lowered_well zero n s = absurd s
  lowered_well (suc h) n s = lowered_in_well h n (out-Node n) refl s

  with_distinct : (h : ℕ) (root : Option Node) → IsBare h root → AreDistinct (leaves_of h root) → IsRoot dist w greatest h root
  with_distinct h None b d = b
  with_distinct h (Some n) b d = record { node = b; distinct = d }

  module _ (tells : Telling dist w) (number : ℕ) (v : List ℕ) (iv : IsVector w v) where
    none_is_some : (o : List ℕ) → None ≡ Some o → ⊥
    none_is_some o e = cc

    -- what a removal says and leaves: none where the pair is absent, else a lawful root that holds one record fewer
    abbrev pub Shrinks : ℕ → Option Node → Option PlainTree → Type 0
    Shrinks h root None = at number (leaves_of h root) ≡ Some v → ⊥
    Shrinks h root (Some t) =
        (at number (leaves_of h root) ≡ Some v) × IsRoot dist w greatest t.height t.root × (from_entries {R = nat_cmp} (map record_of (leaves_of t.height t.root)) ≡ remove (from_entries (map record_of (leaves_of h root))) number)

    hit : same dist w greatest laws tells number v iv v ≡ 1
    hit = elim (eqb_tells (dist v v) 0) [ inl t ↦ rw t.0 refl | inr f ↦ absurd (f.1 ((tells.identity v v iv iv).1 refl)) ]

    lost_shrinks : (h : ℕ) (n : Node) → IsTree dist w greatest h n → (o : Option Node) → IsLost dist w greatest laws tells number v iv h None (leaves h n) o → Shrinks h (Some n) (lowered_from w h o)
    lost_shrinks h n tree None l = λ there. omega (arith, l, some_total number (same dist w greatest laws tells number v iv) (leaves h n) v (tree.distinct number) there, hit)
    lost_shrinks h n tree (Some m) l =
        let t = lowered w h m in
        let well = lowered_well h m l.0 in
        let new = leaves_of t.height t.root in
        let loses : (f : ℕ → List ℕ → ℕ) → total f (leaves h n) ≡ f number v + total f new = λ f. omega (arith, l.1 f, well.1 f) in (
          held_before number v (leaves h n) new loses tree.distinct,
          with_distinct t.height t.root well.0 (distinct_after number v (leaves h n) new loses tree.distinct),
          contents_after number v (leaves h n) new loses tree.distinct,
        )

    pub shrunk_root : (h : ℕ) (root : Option Node) → IsRoot dist w greatest h root → Shrinks h root (shrunk_from dist greatest number v w h root)
    shrunk_root h None r = λ there. cc
    shrunk_root h (Some n) r = lost_shrinks h n r (removed dist greatest number v h None n) (lost dist w greatest laws tells number v iv h None n (λ o e. absurd (none_is_some o e)) r.node)

-- ---- the tree

lowered_in_width : (w h : ℕ) (n : Node) (layer : Layer) → (lowered_in w h n layer).width ≡ w
lowered_in_width w h n (Node-F.Leaf tag []) = refl
lowered_in_width w h n (Node-F.Leaf tag (e ∷ es)) = refl
lowered_in_width w h n (Node-F.Inner tag []) = refl
lowered_in_width w h n (Node-F.Inner tag (e ∷ [])) = refl
lowered_in_width w h n (Node-F.Inner tag (e ∷ g ∷ es)) = refl

lowered_width : (w h : ℕ) (o : Option Node) (after : PlainTree) → Some after ≡ lowered_from w h o → after.width ≡ w
lowered_width w h None after is = cc
lowered_width w h (Some n) after is =
    let same : after ≡ lowered w h n = cc in ap (λ (t : PlainTree). t.width) same ∙ lowered_in_width w h n (out-Node n)

shrunk_width : (dist : List ℕ → List ℕ → ℕ) (greatest number : ℕ) (v : List ℕ) (w h : ℕ) (root : Option Node) (after : PlainTree) → Some after ≡ shrunk_from dist greatest number v w h root → after.width ≡ w
shrunk_width dist greatest number v w h None after is = cc
shrunk_width dist greatest number v w h (Some n) after is = lowered_width w h (removed dist greatest number v h None n) after is

lowered_in_height : (w h : ℕ) (n : Node) (layer : Layer) → (lowered_in w h n layer).height ≤ h
lowered_in_height w h n (Node-F.Leaf tag []) = omega arith
lowered_in_height w h n (Node-F.Leaf tag (e ∷ es)) = omega arith
lowered_in_height w h n (Node-F.Inner tag []) = omega arith
lowered_in_height w h n (Node-F.Inner tag (e ∷ [])) = omega arith
lowered_in_height w h n (Node-F.Inner tag (e ∷ g ∷ es)) = omega arith

lowered_height : (w h : ℕ) (o : Option Node) (after : PlainTree) → Some after ≡ lowered_from w h o → after.height ≤ h
lowered_height w h None after is = cc
lowered_height w h (Some n) after is =
    let same : after ≡ lowered w h n = cc in omega (arith, ap (λ (t : PlainTree). t.height) same, lowered_in_height w h n (out-Node n))

-- a removal makes no tree higher
shrunk_height : (dist : List ℕ → List ℕ → ℕ) (greatest number : ℕ) (v : List ℕ) (w h : ℕ) (root : Option Node) (after : PlainTree) → Some after ≡ shrunk_from dist greatest number v w h root → after.height ≤ h
shrunk_height dist greatest number v w h None after is = cc
shrunk_height dist greatest number v w h (Some n) after is = lowered_height w h (removed dist greatest number v h None n) after is

module _ (dist : List ℕ → List ℕ → ℕ) (most : ℕ → ℕ) (t : PlainTree) (lawful : IsLawful dist most t) (number : ℕ) (v : List ℕ) (iv : IsVector t.width v) (laws : Lawful dist t.width (most t.width)) (tells : Telling dist t.width) where
  abbrev Means : Option PlainTree → Type 0
  Means o = Shrinks dist t.width (most t.width) laws tells number v iv t.height t.root o

  means : Means (after_removal dist most number v t)
  means = shrunk_root dist t.width (most t.width) laws tells number v iv t.height t.root lawful.root

  held_at : get (contents t) number ≡ at number (leaves_of t.height t.root)
  held_at = get-from_entries nat_cmp_total (map record_of (leaves_of t.height t.root)) number

  -- where the tree holds the pair, something is left
  pub none_absent : after_removal dist most number v t ≡ None → get (contents t) number ≡ Some v → ⊥
  none_absent none there = let absent : Means None = subst Means none means in absent (sym held_at ∙ there)

  pub some_held : (after : PlainTree) → Some after ≡ after_removal dist most number v t → (get (contents t) number ≡ Some v) × IsLawful dist most after × IsRemoved dist most t after number v
  some_held after is =
      let here : Means (Some after) = subst Means (sym is) means in
      let width : after.width ≡ t.width = shrunk_width dist (most t.width) number v t.width t.height t.root after is in (
        held_at ∙ here.0,
        record {
          width = subst IsWidth (sym width) lawful.width;
          root = subst (λ (w : ℕ). IsRoot dist w (most w) after.height after.root) (sym width) here.1;
          low = omega (arith, shrunk_height dist (most t.width) number v t.width t.height t.root after is, lawful.low);
        },
        record { tree = is; width = width; contents = here.2 },
      )

  abbrev pub tree_of : ℕ → Option Node → PlainTree
  tree_of h root = record { width = t.width; height = h; root = root }

  -- what a call that gave this answer and this root did
  pub record IsDone (found : Bool) (h : ℕ) (root : Option Node) : Type 0 where
    pub lawful_then : IsLawful dist most (tree_of h root)
    pub present : IsTrue found ↔ (get (contents t) number ≡ Some v)
    pub shrunk : found ≡ true → IsRemoved dist most t (tree_of h root) number v

  pub done : (found : Bool) (h : ℕ) (root : Option Node) → given found (tree_of h root) ≡ after_removal dist most number v t → (after_removal dist most number v t ≡ None → (h ≡ t.height) × (root ≡ t.root)) → IsDone found h root
  done true h root is stays =
      let held = some_held (tree_of h root) is in
      record { lawful_then = held.1; present = (λ _. held.0, λ _. refl); shrunk = λ _. held.2 }
  done false h root is stays =
      let same = stays (sym is) in
      record {
        lawful_then = subst (λ (j : ℕ). IsLawful dist most (tree_of j root)) (sym same.0) (subst (λ (r : Option Node). IsLawful dist most (tree_of t.height r)) (sym same.1) lawful);
        present = (λ y. cc, λ there. absurd (none_absent (sym is) there));
        shrunk = λ y. cc;
      }

-- ---- a call that took the root out of its tree

abbrev pub whole : ℕ → ℕ → Option Node → PlainTree
whole width h root = record { width = width; height = h; root = root }

module _ (dist : List ℕ → List ℕ → ℕ) (most : ℕ → ℕ) (t now : PlainTree) (same_tree : t ≡ now) (lawful : IsLawful dist most t) (number : ℕ) (v : List ℕ) (width : length v ≡ now.width) (bytes : AreBytes v)
    (laws : IsVector t.width v → Lawful dist t.width (most t.width)) (tells : IsVector t.width v → Telling dist t.width) (root : Option Node) (taken : root ≡ t.root) where
  wide : length v ≡ t.width
  wide = width ∙ sym (ap (λ (x : PlainTree). x.width) same_tree)

  pub of_width : IsVector t.width v
  of_width = record { len = wide; bytes = bytes }

  called : shrunk_from dist (most (length v)) number v (length v) t.height root ≡ after_removal dist most number v t
  called = ap (shrunk_from dist (most (length v)) number v (length v) t.height) taken ∙ ap (λ (w : ℕ). shrunk_from dist (most w) number v w t.height t.root) wide

  absent_in : (o : Option PlainTree) → o ≡ after_removal dist most number v t → (get (contents now) number ≡ Some v → ⊥) → o ≡ None
  absent_in None is absent = refl
  absent_in (Some after) is absent = absurd (absent (ap (λ (x : PlainTree). get (contents x) number) (sym same_tree) ∙ (some_held dist most t lawful number v of_width (laws of_width) (tells of_width) after is).0))

  -- where the pair is absent nothing is found
  pub call_absent : (get (contents now) number ≡ Some v → ⊥) → shrunk_from dist (most (length v)) number v (length v) t.height root ≡ None
  call_absent absent = absent_in (shrunk_from dist (most (length v)) number v (length v) t.height root) called absent

  -- what the call did, by its answer
  pub call_done : (found : Bool) (h : ℕ) (r : Option Node) → given found (whole (length v) h r) ≡ shrunk_from dist (most (length v)) number v (length v) t.height root
      → (shrunk_from dist (most (length v)) number v (length v) t.height root ≡ None → (h ≡ t.height) × (r ≡ root)) → IsDone dist most t lawful number v of_width (laws of_width) (tells of_width) found h r
  call_done found h r is stays =
      done dist most t lawful number v of_width (laws of_width) (tells of_width) found h r
      (ap (λ (w : ℕ). given found (whole w h r)) (sym wide) ∙ (is ∙ called))
      (λ none. let s = stays (called ∙ none) in (s.0, s.1 ∙ taken))
