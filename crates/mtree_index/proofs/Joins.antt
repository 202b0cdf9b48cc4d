-- Two neighbours that are joined: the entries that take their place are lawful, and hold what was there.
use Rattle.std.proofs.Common.{◌≡◌, ℕ, zero, suc, ◌+◌, ◌<◌, ◌≤◌, min, List, [], ◌∷◌, ◌++◌, length, map, sum_by, Option, Some, None, refl, sym, ap, ◌∙◌, arith, inl, inr, length-append, append_assoc}
use Rattle.std.specs.List.{AllByRecursion, flat_map}
use Rattle.std.proofs.lemmas.Bool.Decides.{leb_tells}
use Rattle.std.proofs.lemmas.List.{length-map}
use Rattle.std.proofs.lemmas.List.Sums.{sum_by-cons}
use Rattle.vec_record.specs.Vectors.{IsVector}
use Rattle.mtree_node.specs.declared.node.LeafEntry.{LeafEntry}
use Rattle.mtree_node.specs.declared.node.InnerEntry.{InnerEntry, out-InnerEntry}
use Rattle.mtree_node.specs.declared.node.Node.{Node, out-Node}
use Rattle.mtree_node.specs.declared.node.Node.TheOpen.{Node-F}
use Rattle.mtree_node.specs.declared.node.Node.TheVariants as node
use Rattle.mtree_node.specs.Layer.{Layer, EntryLayer}
use Rattle.mtree_node.specs.Tree.{leaves, leaves_in, parent_distance, IsLeafEntry, IsInnerEntry, IsNode, IsNodeIn}
use Rattle.mtree_node.proofs.Opened.{out_inner, out_leaf}
use Rattle.mtree_index.specs.Entries.{leaf_with_parent, inner_with_parent}
use Rattle.mtree_index.specs.Split.{left_half, right_half}
use Rattle.mtree_index.specs.Insertion.{entry_of, placed_under, settled_leaf, settled_inner}
use Rattle.mtree_index.specs.Removal.{size, size_in, farthest, all_under, leaf_over, inner_over, joined_as, joined_nodes, joined}
use Rattle.mtree_index.proofs.Parted.{Lawful}
use Rattle.mtree_index.proofs.Places.{all_append, all_weaker}
use Rattle.mtree_index.proofs.Totals.{total, total-cons, total-append}
use Rattle.mtree_index.proofs.Kept.{IsEntry, IsAnyEntry, leaf_parts, inner_parts, near_below, leaf_entry, inner_entry, flat_single, leaves_leaf, leaves_inner, plus}

module _ (dist : List ℕ → List ℕ → ℕ) (w greatest : ℕ) (laws : Lawful dist w greatest) where
  -- a node's entries are enough, or one too few
  abbrev pub IsAlmostFilled : Option (List ℕ) → ℕ → ℕ → Type 0
  IsAlmostFilled None low n = (low ≤ n + 1) × (n ≤ 30)
  IsAlmostFilled (Some o) low n = (6 ≤ n) × (n ≤ 30)

  abbrev pub IsLooseIn : ℕ → Option (List ℕ) → Layer → Type 0
  IsLooseIn h over (Node-F.Leaf tag es) = (h ≡ 0) × IsAlmostFilled over 1 (length es) × AllByRecursion (IsLeafEntry dist w greatest over) es
  IsLooseIn h over (Node-F.Inner tag es) = (0 < h) × IsAlmostFilled over 2 (length es) × AllByRecursion (IsEntry dist w greatest laws h over) es

  -- a node that may lack one entry
  abbrev pub IsLoose : ℕ → Option (List ℕ) → Node → Type 0
  IsLoose zero over n = ⊥
  IsLoose (suc h) over n = IsLooseIn h over (out-Node n)

  -- an entry whose child may lack one entry
  abbrev pub IsLooseEntry : ℕ → Option (List ℕ) → InnerEntry → Type 0
  IsLooseEntry h over e = IsInnerEntry dist w greatest (λ object m. IsLoose h (Some object) m) (leaves h) over (out-InnerEntry e)

  loose_in : (h : ℕ) (o : List ℕ) (n : Layer) → IsNodeIn dist w greatest h (λ object m. IsNode dist w greatest h (Some object) m) (leaves h) (Some o) n → IsLooseIn h (Some o) n × (7 ≤ size_in n)
  loose_in h o (Node-F.Leaf tag es) s = ((s.0, (omega (arith, s.1.0), s.1.1), s.2), s.1.0)
  loose_in h o (Node-F.Inner tag es) s = ((s.0, (omega (arith, s.1.0), s.1.1), s.2), s.1.0)

  -- a well-formed node lacks nothing
  pub loose_of : (h : ℕ) (o : List ℕ) (n : Node) → IsNode dist w greatest h (Some o) n → IsLoose h (Some o) n × (7 ≤ size n)
  loose_of zero o n s = absurd s
  loose_of (suc h) o n s = loose_in h o (out-Node n) s

  pub loose_entry : (h : ℕ) (over : Option (List ℕ)) (e : InnerEntry) → IsEntry dist w greatest laws h over e → IsLooseEntry h over e
  loose_entry h over e k = record { object = k.object; parent = k.parent; radius = k.radius; covers = k.covers; child = (loose_of h (out-InnerEntry e).object (out-InnerEntry e).child k.child).0 }

  tight_in : (h : ℕ) (o : List ℕ) (n : Layer) → IsLooseIn h (Some o) n → 7 ≤ size_in n → IsNodeIn dist w greatest h (λ object m. IsNode dist w greatest h (Some object) m) (leaves h) (Some o) n
  tight_in h o (Node-F.Leaf tag es) s l = (s.0, (l, s.1.1), s.2)
  tight_in h o (Node-F.Inner tag es) s l = (s.0, (l, s.1.1), s.2)

  tight_of : (h : ℕ) (o : List ℕ) (n : Node) → IsLoose h (Some o) n → 7 ≤ size n → IsNode dist w greatest h (Some o) n
  tight_of zero o n s l = absurd s
  tight_of (suc h) o n s l = tight_in h o (out-Node n) s l

  -- a node that lacks no entry is well formed
  pub tight_entry : (h : ℕ) (over : Option (List ℕ)) (e : InnerEntry) → IsLooseEntry h over e → 7 ≤ size (out-InnerEntry e).child → IsEntry dist w greatest laws h over e
  tight_entry h over e k l = record { object = k.object; parent = k.parent; radius = k.radius; covers = k.covers; child = tight_of h (out-InnerEntry e).object (out-InnerEntry e).child k.child l }

  sizes_in : (h : ℕ) (o : List ℕ) (n : Layer) → IsLooseIn h (Some o) n → (6 ≤ size_in n) × (size_in n ≤ 30)
  sizes_in h o (Node-F.Leaf tag es) s = s.1
  sizes_in h o (Node-F.Inner tag es) s = s.1

  pub sizes_of : (h : ℕ) (o : List ℕ) (n : Node) → IsLoose h (Some o) n → (6 ≤ size n) × (size n ≤ 30)
  sizes_of zero o n s = absurd s
  sizes_of (suc h) o n s = sizes_in h o (out-Node n) s

  pub size_of_entry : (h : ℕ) (over : Option (List ℕ)) (e : InnerEntry) → IsEntry dist w greatest laws h over e → 7 ≤ size (out-InnerEntry e).child
  size_of_entry h over e k = (loose_of h (out-InnerEntry e).object (out-InnerEntry e).child k.child).1

  -- ---- one node over all entries

  leaf_covers : (o : List ℕ) (es : List LeafEntry) (r : ℕ) → IsVector w o → AllByRecursion (λ e. IsVector w e.vector) es → min (farthest dist (λ (x : LeafEntry). x.vector) (λ x. 0) o es) greatest ≤ r
      → AllByRecursion (λ l. dist o l.vector ≤ r) (all_under dist (λ (x : LeafEntry). x.vector) leaf_with_parent o es)
  leaf_covers o [] r i a l = tt
  leaf_covers o (e ∷ es) r i a l = (omega (arith, l, laws.bound o e.vector i a.0), leaf_covers o es r i a.1 (omega (arith, l)))

  leaf_moves : (o : List ℕ) (es : List LeafEntry) → AllByRecursion (λ e. IsVector w e.vector) es → AllByRecursion (IsLeafEntry dist w greatest (Some o)) (all_under dist (λ (x : LeafEntry). x.vector) leaf_with_parent o es)
  leaf_moves o [] a = tt
  leaf_moves o (e ∷ es) a = (record { vector = a.0; parent = refl }, leaf_moves o es a.1)

  pub leaf_total : (f : ℕ → List ℕ → ℕ) (g : LeafEntry → ℕ) (es : List LeafEntry) → total f (map (λ e. leaf_with_parent (g e) e) es) ≡ total f es
  leaf_total f g [] = refl
  leaf_total f g (e ∷ es) = omega (arith, total-cons f e es, total-cons f (leaf_with_parent (g e) e) (map (λ e. leaf_with_parent (g e) e) es), leaf_total f g es)

  inner_covers : (h : ℕ) (o : List ℕ) (es : List InnerEntry) (r : ℕ) → IsVector w o → AllByRecursion (IsAnyEntry dist w greatest laws h) es → min (farthest dist (λ (x : InnerEntry). (out-InnerEntry x).object) (λ x. (out-InnerEntry x).radius) o es) greatest ≤ r
      → AllByRecursion (λ l. dist o l.vector ≤ r) (flat_map (λ (e : InnerEntry). leaves h (out-InnerEntry e).child) (all_under dist (λ (x : InnerEntry). (out-InnerEntry x).object) inner_with_parent o es))
  inner_covers h o [] r i a l = tt
  inner_covers h o (e ∷ es) r i a l =
      all_append (λ (x : LeafEntry). dist o x.vector ≤ r) (leaves h (out-InnerEntry e).child) _
      (all_weaker _ (λ (x : LeafEntry). dist o x.vector ≤ r) (leaves h (out-InnerEntry e).child) (λ x b. omega (arith, b, l)) (near_below dist w greatest laws h a.0.0 e a.0.1 o i))
      (inner_covers h o es r i a.1 (omega (arith, l)))

  inner_moves : (h : ℕ) (o : List ℕ) (es : List InnerEntry) → AllByRecursion (IsAnyEntry dist w greatest laws h) es → AllByRecursion (IsEntry dist w greatest laws h (Some o)) (all_under dist (λ (x : InnerEntry). (out-InnerEntry x).object) inner_with_parent o es)
  inner_moves h o [] a = tt
  inner_moves h o (e ∷ es) a = (record { object = a.0.1.object; parent = refl; radius = a.0.1.radius; covers = a.0.1.covers; child = a.0.1.child }, inner_moves h o es a.1)

  pub inner_leaves : (h : ℕ) (g : InnerEntry → ℕ) (es : List InnerEntry) → flat_map (λ (e : InnerEntry). leaves h (out-InnerEntry e).child) (map (λ e. inner_with_parent (g e) e) es) ≡ flat_map (λ (e : InnerEntry). leaves h (out-InnerEntry e).child) es
  inner_leaves h g [] = refl
  inner_leaves h g (e ∷ es) = ap (λ xs. leaves h (out-InnerEntry e).child ++ xs) (inner_leaves h g es)

  -- what is below an entry
  abbrev pub below : (ℕ → List ℕ → ℕ) → ℕ → InnerEntry → ℕ
  below f h e = total f (leaves h (out-InnerEntry e).child)

  -- what stands for two neighbours: one or two lawful entries, which hold what was there
  pub record AreJoined (h : ℕ) (over : Option (List ℕ)) (whole : (ℕ → List ℕ → ℕ) → ℕ) (es : List InnerEntry) : Type 0 where
    pub all : AllByRecursion (IsEntry dist w greatest laws h over) es
    pub some : 1 ≤ length es
    pub few : length es ≤ 2
    pub sums : (f : ℕ → List ℕ → ℕ) → sum_by (below f h) es ≡ whole f

  pair_joined : (h : ℕ) (over : Option (List ℕ)) (whole : (ℕ → List ℕ → ℕ) → ℕ) (l r : InnerEntry) → IsEntry dist w greatest laws h None l → IsEntry dist w greatest laws h None r
      → ((f : ℕ → List ℕ → ℕ) → below f h l + below f h r ≡ whole f) → AreJoined h over whole (placed_under dist over l ∷ placed_under dist over r ∷ [])
  pair_joined h over whole l r a b sums = record {
    all = (record { object = a.object; parent = refl; radius = a.radius; covers = a.covers; child = a.child }, (record { object = b.object; parent = refl; radius = b.radius; covers = b.covers; child = b.child }, tt));
    some = omega arith;
    few = omega arith;
    sums = λ f.
        sum_by-cons (below f h) (placed_under dist over l) (placed_under dist over r ∷ []) ∙ omega (arith, sum_by-cons (below f h) (placed_under dist over r) [], sums f);
  }

  one_joined : (h : ℕ) (over : Option (List ℕ)) (whole : (ℕ → List ℕ → ℕ) → ℕ) (e : InnerEntry) → IsEntry dist w greatest laws h over e → ((f : ℕ → List ℕ → ℕ) → below f h e ≡ whole f) → AreJoined h over whole (e ∷ [])
  one_joined h over whole e k sums = record { all = (k, tt); some = omega arith; few = omega arith; sums = λ f. sum_by-cons (below f h) e [] ∙ omega (arith, sums f) }

  leaves_joined : (h : ℕ) (over : Option (List ℕ)) (e : EntryLayer) (tag right : ℕ) (es : List LeafEntry) → h ≡ 0 → IsVector w e.object → e.parent ≡ parent_distance dist over e.object
      → 7 ≤ length es → length es ≤ 36 → AllByRecursion (λ x. IsVector w x.vector) es
      → AreJoined (suc h) over (λ f. total f es) (joined_as dist greatest over (leaf_over dist greatest e tag es) (settled_leaf dist greatest tag right es))
  leaves_joined h over e tag right es z i p low high a =
      let whole = (λ (f : ℕ → List ℕ → ℕ). total f es) in
      let o = e.object in
      elim (leb_tells 31 (length es)) [
        | inl t ↦
            let parts = leaf_parts dist w greatest laws es t.1 high a in
            let l = left_half dist greatest (λ (x : LeafEntry). x.vector) (λ x. 0) leaf_with_parent es in
            let r = right_half dist greatest (λ (x : LeafEntry). x.vector) (λ x. 0) leaf_with_parent es in
            rw t.0 (pair_joined (suc h) over whole (entry_of l (node.Leaf tag l.entries)) (entry_of r (node.Leaf right r.entries))
            (leaf_entry dist w greatest laws h tag l z parts.left.object parts.left.radius parts.left.low parts.left.high parts.left.covers parts.left.entries)
            (leaf_entry dist w greatest laws h right r z parts.right.object parts.right.radius parts.right.low parts.right.high parts.right.covers parts.right.entries)
            (λ f. plus dist w greatest laws (ap (total f) (leaves_leaf dist w greatest laws h tag l.entries)) (ap (total f) (leaves_leaf dist w greatest laws h right r.entries))
            ∙ omega (arith, flat_single dist w greatest laws f l.entries, flat_single dist w greatest laws f r.entries, flat_single dist w greatest laws f es, parts.sums f)))
        | inr n ↦
            let moved = all_under dist (λ (x : LeafEntry). x.vector) leaf_with_parent o es in
            let many = length-map es (λ (x : LeafEntry). leaf_with_parent (dist o x.vector) x) in
            rw n.0 (one_joined (suc h) over whole (leaf_over dist greatest e tag es)
            (record {
              object = i;
              parent = p;
              radius = omega arith;
              covers = rw out_leaf (leaf_covers o es (min (farthest dist (λ (x : LeafEntry). x.vector) (λ x. 0) o es) greatest) i a (omega arith));
              child = rw out_leaf (z, (omega (arith, many, low), omega (arith, many, n.1)), leaf_moves o es a);
            })
            (λ f. ap (total f) (leaves_leaf dist w greatest laws h tag moved) ∙ leaf_total f (λ (x : LeafEntry). dist o x.vector) es))
      ]

  inners_joined : (h : ℕ) (over : Option (List ℕ)) (e : EntryLayer) (tag right : ℕ) (es : List InnerEntry) → 0 < h → IsVector w e.object → e.parent ≡ parent_distance dist over e.object
      → 7 ≤ length es → length es ≤ 36 → AllByRecursion (IsAnyEntry dist w greatest laws h) es
      → AreJoined (suc h) over (λ f. total f (flat_map (λ (x : InnerEntry). leaves h (out-InnerEntry x).child) es)) (joined_as dist greatest over (inner_over dist greatest e tag es) (settled_inner dist greatest tag right es))
  inners_joined h over e tag right es z i p low high a =
      let whole = (λ (f : ℕ → List ℕ → ℕ). total f (flat_map (λ (x : InnerEntry). leaves h (out-InnerEntry x).child) es)) in
      let o = e.object in
      elim (leb_tells 31 (length es)) [
        | inl t ↦
            let parts = inner_parts dist w greatest laws h es t.1 high a in
            let l = left_half dist greatest (λ (x : InnerEntry). (out-InnerEntry x).object) (λ x. (out-InnerEntry x).radius) inner_with_parent es in
            let r = right_half dist greatest (λ (x : InnerEntry). (out-InnerEntry x).object) (λ x. (out-InnerEntry x).radius) inner_with_parent es in
            rw t.0 (pair_joined (suc h) over whole (entry_of l (node.Inner tag l.entries)) (entry_of r (node.Inner right r.entries))
            (inner_entry dist w greatest laws h tag l z parts.left.object parts.left.radius parts.left.low parts.left.high parts.left.covers parts.left.entries)
            (inner_entry dist w greatest laws h right r z parts.right.object parts.right.radius parts.right.low parts.right.high parts.right.covers parts.right.entries)
            (λ f. plus dist w greatest laws (ap (total f) (leaves_inner dist w greatest laws h tag l.entries)) (ap (total f) (leaves_inner dist w greatest laws h right r.entries)) ∙ parts.sums f))
        | inr n ↦
            let moved = all_under dist (λ (x : InnerEntry). (out-InnerEntry x).object) inner_with_parent o es in
            let many = length-map es (λ (x : InnerEntry). inner_with_parent (dist o (out-InnerEntry x).object) x) in
            rw n.0 (one_joined (suc h) over whole (inner_over dist greatest e tag es)
            (record {
              object = i;
              parent = p;
              radius = omega arith;
              covers = rw out_inner (inner_covers h o es (min (farthest dist (λ (x : InnerEntry). (out-InnerEntry x).object) (λ x. (out-InnerEntry x).radius) o es) greatest) i a (omega arith));
              child = rw out_inner (z, (omega (arith, many, low), omega (arith, many, n.1)), inner_moves h o es a);
            })
            (λ f. ap (total f) (leaves_inner dist w greatest laws h tag moved ∙ inner_leaves h (λ (x : InnerEntry). dist o (out-InnerEntry x).object) es)))
      ]

  flat_append : {A B : Type 0} (L : A → List B) (xs ys : List A) → flat_map L (xs ++ ys) ≡ flat_map L xs ++ flat_map L ys
  flat_append L [] ys = refl
  flat_append L (x ∷ xs) ys = ap (λ zs. L x ++ zs) (flat_append L xs ys) ∙ sym (append_assoc (L x) (flat_map L xs) (flat_map L ys))

  joined_in : (h : ℕ) (over : Option (List ℕ)) (e : EntryLayer) (o : List ℕ) (m n : Layer) → IsVector w e.object → e.parent ≡ parent_distance dist over e.object → IsLooseIn h (Some e.object) m → IsLooseIn h (Some o) n
      → size_in m + size_in n ≤ 36 → AreJoined (suc h) over (λ f. total f (leaves_in (leaves h) m) + total f (leaves_in (leaves h) n)) (joined_nodes dist greatest over e m n)
  joined_in h over e o (Node-F.Leaf tag es) (Node-F.Leaf right fs) i p k l high =
      let joins = leaves_joined h over e tag right (es ++ fs) k.0 i p (omega (arith, k.1.0, length-append es fs)) (omega (arith, high, length-append es fs))
      (all_append (λ (x : LeafEntry). IsVector w x.vector) es fs (all_weaker (IsLeafEntry dist w greatest (Some e.object)) _ es (λ x q. q.vector) k.2) (all_weaker (IsLeafEntry dist w greatest (Some o)) _ fs (λ x q. q.vector) l.2)) in
      record { all = joins.all; some = joins.some; few = joins.few; sums = λ f. joins.sums f ∙ total-append f es fs }
  joined_in h over e o (Node-F.Inner tag es) (Node-F.Inner right fs) i p k l high =
      let L = (λ (x : InnerEntry). leaves h (out-InnerEntry x).child) in
      let joins = inners_joined h over e tag right (es ++ fs) k.0 i p (omega (arith, k.1.0, length-append es fs, l.1.0)) (omega (arith, high, length-append es fs))
      (all_append (IsAnyEntry dist w greatest laws h) es fs (all_weaker (IsEntry dist w greatest laws h (Some e.object)) _ es (λ x q. (Some e.object, q)) k.2) (all_weaker (IsEntry dist w greatest laws h (Some o)) _ fs (λ x q. (Some o, q)) l.2)) in
      record { all = joins.all; some = joins.some; few = joins.few; sums = λ f. joins.sums f ∙ (ap (total f) (flat_append L es fs) ∙ total-append f (flat_map L es) (flat_map L fs)) }
  joined_in h over e o (Node-F.Leaf tag es) (Node-F.Inner right fs) i p k l high = absurd (omega (arith, k.0, l.0))
  joined_in h over e o (Node-F.Inner tag es) (Node-F.Leaf right fs) i p k l high = absurd (omega (arith, k.0, l.0))

  -- neighbours with at most 36 entries together are joined well
  pub joins : (h : ℕ) (over : Option (List ℕ)) (l r : InnerEntry) → IsLooseEntry h over l → IsLooseEntry h over r → size (out-InnerEntry l).child + size (out-InnerEntry r).child ≤ 36
      → AreJoined h over (λ f. below f h l + below f h r) (joined dist greatest over l r)
  joins zero over l r a b high = absurd a.child
  joins (suc h) over l r a b high = joined_in h over (out-InnerEntry l) (out-InnerEntry r).object (out-Node (out-InnerEntry l).child) (out-Node (out-InnerEntry r).child) a.object a.parent a.child b.child high
