-- An insertion keeps nodes well formed, and adds one record.
use Rattle.std.proofs.Common.{◌≡◌, ℕ, zero, suc, ◌+◌, ◌<◌, ◌≤◌, max, min, List, [], ◌∷◌, ◌++◌, length, map, slice_index, sum_by, Option, Some, None, refl, sym, ap, ◌∙◌, arith, inl, inr, length-append}
use Rattle.std.specs.List.{AllByRecursion, flat_map}
use Rattle.std.proofs.lemmas.Bool.Decides.{leb_tells}
use Rattle.std.proofs.lemmas.List.Sums.{sum_by-cons, sum_by-append}
use Rattle.vec_record.specs.Vectors.{IsVector}
use Rattle.mtree_split.proofs.Firsts.{first_inside}
use Rattle.mtree_node.specs.declared.node.LeafEntry.{LeafEntry}
use Rattle.mtree_node.specs.declared.node.InnerEntry.{InnerEntry, out-InnerEntry}
use Rattle.mtree_node.specs.declared.node.Node.{Node, out-Node}
use Rattle.mtree_node.specs.declared.node.Node.TheOpen.{Node-F}
use Rattle.mtree_node.specs.declared.node.Node.TheVariants as node
use Rattle.mtree_node.specs.Layer.{Layer, EntryLayer}
use Rattle.mtree_node.specs.Tree.{leaves, leaves_in, IsFilled, IsLeafEntry, IsInnerEntry, IsNode, IsNodeIn}
use Rattle.mtree_node.proofs.Opened.{out_inner, out_leaf}
use Rattle.mtree_index.specs.declared.split.Half.{Half}
use Rattle.mtree_index.specs.Entries.{leaf_with_parent, inner_with_parent}
use Rattle.mtree_index.specs.Split.{left_half, right_half}
use Rattle.mtree_index.specs.Insertion.{Outcome, Stays, Splits, replaced_at, entry_of, settled_leaf, settled_inner, new_entry, placed_under, raised, after_child, renewed, entry_distance, entry_rank, chosen, inserted, inserted_in}
use Rattle.mtree_index.proofs.Parted.{Lawful, AreHalves, halves}
use Rattle.mtree_index.proofs.Places.{all_append, all_weaker}
use Rattle.mtree_index.proofs.Totals.{total, total-cons, total-append, total-flat_map, total-one_each, far, none_far, all_within}

module _ {A : Type 0} where
  pub all_both : (P Q R : A → Type 0) (xs : List A) → ((x : A) → P x → Q x → R x) → AllByRecursion P xs → AllByRecursion Q xs → AllByRecursion R xs
  all_both P Q R [] k p q = tt
  all_both P Q R (x ∷ xs) k p q = (k x p.0 q.0, all_both P Q R xs k p.1 q.1)

  pub all_flat : {B : Type 0} (P : B → Type 0) (L : A → List B) (xs : List A) → AllByRecursion (λ x. AllByRecursion P (L x)) xs → AllByRecursion P (flat_map L xs)
  all_flat P L [] a = tt
  all_flat P L (x ∷ xs) a = all_append P (L x) (flat_map L xs) a.0 (all_flat P L xs a.1)

  -- the sum after an element gave way to others
  sum_replaced : (P : A → Type 0) (g : A → ℕ) (F : A → List A) (c : ℕ) → ((x : A) → P x → sum_by g (F x) ≡ c + g x)
      → (at : ℕ) (xs : List A) → at < length xs → AllByRecursion P xs → sum_by g (replaced_at at F xs) ≡ c + sum_by g xs
  sum_replaced P g F c k at [] l a = absurd (omega (arith, l))
  sum_replaced P g F c k zero (x ∷ xs) l a = omega (arith, sum_by-append g (F x) xs, k x a.0, sum_by-cons g x xs)
  sum_replaced P g F c k (suc at) (x ∷ xs) l a =
      omega (arith, sum_replaced P g F c k at xs (omega arith) a.1, sum_by-cons g x xs, sum_by-cons g x (replaced_at at F xs))

  -- one element gives way to one or two
  length_between : (P : A → Type 0) (F : A → List A) → ((x : A) → P x → (1 ≤ length (F x)) × (length (F x) ≤ 2)) → (at : ℕ) (xs : List A) → AllByRecursion P xs
      → (length xs ≤ length (replaced_at at F xs)) × (length (replaced_at at F xs) ≤ length xs + 1)
  length_between P F k at [] a = (omega arith, omega arith)
  length_between P F k zero (x ∷ xs) a = let h = k x a.0 in (omega (arith, h.0, length-append (F x) xs), omega (arith, h.1, length-append (F x) xs))
  length_between P F k (suc at) (x ∷ xs) a = let h = length_between P F k at xs a.1 in (omega (arith, h.0), omega (arith, h.1))

  all_same_place : (P : A → Type 0) (F : A → List A) (at : ℕ) (xs : List A) → AllByRecursion P xs → ((x : A) → P x → AllByRecursion P (F x)) → AllByRecursion P (replaced_at at F xs)
  all_same_place P F at [] a k = tt
  all_same_place P F zero (x ∷ xs) a k = all_append P (F x) xs (k x a.0) a.1
  all_same_place P F (suc at) (x ∷ xs) a k = (a.0, all_same_place P F at xs a.1 k)

module _ (dist : List ℕ → List ℕ → ℕ) (w greatest : ℕ) (laws : Lawful dist w greatest) where
  -- an inner entry over children of this height
  abbrev pub IsEntry : ℕ → Option (List ℕ) → InnerEntry → Type 0
  IsEntry h over e = IsInnerEntry dist w greatest (λ object m. IsNode dist w greatest h (Some object) m) (leaves h) over (out-InnerEntry e)

  vectors_in : (h : ℕ) → ((over : Option (List ℕ)) (n : Node) → IsNode dist w greatest h over n → AllByRecursion (λ l. IsVector w l.vector) (leaves h n))
      → (over : Option (List ℕ)) (n : Layer) → IsNodeIn dist w greatest h (λ object m. IsNode dist w greatest h (Some object) m) (leaves h) over n → AllByRecursion (λ l. IsVector w l.vector) (leaves_in (leaves h) n)
  vectors_in h ih over (Node-F.Leaf tag es) s = all_weaker (IsLeafEntry dist w greatest over) _ es (λ e k. k.vector) s.2
  vectors_in h ih over (Node-F.Inner tag es) s =
      all_flat _ (λ e. leaves h (out-InnerEntry e).child) es (all_weaker (IsEntry h over) _ es (λ e k. ih (Some (out-InnerEntry e).object) (out-InnerEntry e).child k.child) s.2)

  -- each vector below a node has the width
  pub vectors_below : (h : ℕ) (over : Option (List ℕ)) (n : Node) → IsNode dist w greatest h over n → AllByRecursion (λ l. IsVector w l.vector) (leaves h n)
  vectors_below zero over n s = tt
  vectors_below (suc h) over n s = vectors_in h (vectors_below h) over (out-Node n) s

  -- the halves of a leaf
  pub leaf_parts : (es : List LeafEntry) → 31 ≤ length es → length es ≤ 36 → AllByRecursion (λ e. IsVector w e.vector) es
      → AreHalves dist w greatest laws (λ e. e.vector) (λ e. 0) leaf_with_parent (λ e. e ∷ []) (λ f d e. refl) (λ e. IsVector w e.vector) (λ o e. IsLeafEntry dist w greatest (Some o) e) (λ e k. k)
      (λ e k o i. (omega (arith, laws.bound o e.vector i k), tt)) (λ e k o i. record { vector = k; parent = refl }) es
  leaf_parts es many few a = halves dist w greatest laws (λ e. e.vector) (λ e. 0) leaf_with_parent (λ e. e ∷ []) (λ f d e. refl) (λ e. IsVector w e.vector) (λ o e. IsLeafEntry dist w greatest (Some o) e) (λ e k. k)
      (λ e k o i. (omega (arith, laws.bound o e.vector i k), tt)) (λ e k o i. record { vector = k; parent = refl }) es many few a

  pub near_below : (h : ℕ) (over : Option (List ℕ)) (e : InnerEntry) → IsEntry h over e → (o : List ℕ) → IsVector w o
      → AllByRecursion (λ l. dist o l.vector ≤ min (dist o (out-InnerEntry e).object + (out-InnerEntry e).radius) greatest) (leaves h (out-InnerEntry e).child)
  near_below h over e k o i =
      all_both (λ l. dist (out-InnerEntry e).object l.vector ≤ (out-InnerEntry e).radius) (λ l. IsVector w l.vector) _ (leaves h (out-InnerEntry e).child)
      (λ l c v. omega (arith, c, laws.triangle o (out-InnerEntry e).object l.vector i k.object v, laws.bound o l.vector i v)) k.covers (vectors_below h (Some (out-InnerEntry e).object) (out-InnerEntry e).child k.child)

  -- an inner entry that stands in some node
  abbrev pub IsAnyEntry : ℕ → InnerEntry → Type 0
  IsAnyEntry h e = (over : Option (List ℕ)) × IsEntry h over e

  -- the halves of an inner node
  pub inner_parts : (h : ℕ) (es : List InnerEntry) → 31 ≤ length es → length es ≤ 36 → AllByRecursion (IsAnyEntry h) es
      → AreHalves dist w greatest laws (λ e. (out-InnerEntry e).object) (λ e. (out-InnerEntry e).radius) inner_with_parent (λ e. leaves h (out-InnerEntry e).child) (λ f d e. refl) (IsAnyEntry h) (λ o e. IsEntry h (Some o) e)
      (λ e k. k.1.object) (λ e k. near_below h k.0 e k.1) (λ e k o i. record { object = k.1.object; parent = refl; radius = k.1.radius; covers = k.1.covers; child = k.1.child }) es
  inner_parts h es many few a = halves dist w greatest laws (λ e. (out-InnerEntry e).object) (λ e. (out-InnerEntry e).radius) inner_with_parent (λ e. leaves h (out-InnerEntry e).child) (λ f d e. refl) (IsAnyEntry h) (λ o e. IsEntry h (Some o) e)
      (λ e k. k.1.object) (λ e k. near_below h k.0 e k.1) (λ e k o i. record { object = k.1.object; parent = refl; radius = k.1.radius; covers = k.1.covers; child = k.1.child }) es many few a

  pub plus : {a b c d : ℕ} → a ≡ b → c ≡ d → a + c ≡ b + d
  plus {a} {b} {c} {d} e g = ap (λ n. n + c) e ∙ ap (λ n. b + n) g

  pub leaves_leaf : (h tag : ℕ) (es : List LeafEntry) → leaves (suc h) (node.Leaf tag es) ≡ es
  leaves_leaf h tag es = rw out_leaf refl

  pub leaves_inner : (h tag : ℕ) (es : List InnerEntry) → leaves (suc h) (node.Inner tag es) ≡ flat_map (λ e. leaves h (out-InnerEntry e).child) es
  leaves_inner h tag es = rw out_inner refl

  pub flat_single : (f : ℕ → List ℕ → ℕ) (es : List LeafEntry) → total f (flat_map (λ e. e ∷ []) es) ≡ total f es
  flat_single f es = total-flat_map f (λ (e : LeafEntry). e ∷ []) es ∙ total-one_each f es

  most : (over : Option (List ℕ)) (low n : ℕ) → IsFilled over low n → n ≤ 30
  most None low n fill = fill.1
  most (Some o) low n fill = fill.1

  -- a node with more entries is filled if there aren't too many
  more_filled : (over : Option (List ℕ)) (low n k : ℕ) → IsFilled over low n → n ≤ k → k ≤ 30 → IsFilled over low k
  more_filled None low n k fill more room = (omega (arith, fill.0), room)
  more_filled (Some o) low n k fill more room = (omega (arith, fill.0), room)

  some_filled : (over : Option (List ℕ)) (low n : ℕ) → 0 < low → IsFilled over low n → 0 < n
  some_filled None low n z fill = omega (arith, fill.0)
  some_filled (Some o) low n z fill = omega (arith, fill.0)

  filled_half : (n low : ℕ) (o : List ℕ) → 15 ≤ n → n ≤ 18 → IsFilled (Some o) low n
  filled_half n low o a b = (omega arith, omega arith)

  -- the entry of a half of a leaf
  pub leaf_entry : (h tag : ℕ) (s : Half LeafEntry) → h ≡ 0 → IsVector w s.object → s.radius ≤ greatest → 15 ≤ length s.entries → length s.entries ≤ 18
      → total (far dist s.object s.radius) (flat_map (λ e. e ∷ []) s.entries) ≡ 0 → AllByRecursion (IsLeafEntry dist w greatest (Some s.object)) s.entries
      → IsEntry (suc h) None (entry_of s (node.Leaf tag s.entries))
  leaf_entry h tag s z i r low high c es = record {
    object = i;
    parent = refl;
    radius = r;
    covers = rw out_leaf (all_within dist s.object s.radius s.entries (sym (flat_single (far dist s.object s.radius) s.entries) ∙ c));
    child = rw out_leaf (z, filled_half (length s.entries) 1 s.object low high, es);
  }

  -- the entry of a half of an inner node
  pub inner_entry : (h tag : ℕ) (s : Half InnerEntry) → 0 < h → IsVector w s.object → s.radius ≤ greatest → 15 ≤ length s.entries → length s.entries ≤ 18
      → total (far dist s.object s.radius) (flat_map (λ e. leaves h (out-InnerEntry e).child) s.entries) ≡ 0 → AllByRecursion (IsEntry h (Some s.object)) s.entries
      → IsEntry (suc h) None (entry_of s (node.Inner tag s.entries))
  inner_entry h tag s z i r low high c es = record {
    object = i;
    parent = refl;
    radius = r;
    covers = rw out_inner (all_within dist s.object s.radius (flat_map (λ e. leaves h (out-InnerEntry e).child) s.entries) c);
    child = rw out_inner (z, filled_half (length s.entries) 2 s.object low high, es);
  }

  module _ (number : ℕ) (v : List ℕ) (iv : IsVector w v) where
    -- what an outcome keeps: nodes stay well formed at their height, and one record comes to those that were there
    abbrev pub IsKept : ℕ → Option (List ℕ) → List LeafEntry → Outcome → Type 0
    IsKept h over old (Stays m) = IsNode dist w greatest h over m × ((f : ℕ → List ℕ → ℕ) → total f (leaves h m) ≡ f number v + total f old)
    IsKept h over old (Splits l r) =
        IsEntry h None l × IsEntry h None r
        × ((f : ℕ → List ℕ → ℕ) → total f (leaves h (out-InnerEntry l).child) + total f (leaves h (out-InnerEntry r).child) ≡ f number v + total f old)

    -- a leaf to which an entry came
    settled_leaf_kept : (h tag right : ℕ) (over : Option (List ℕ)) (es : List LeafEntry) (old : List LeafEntry) → h ≡ 0 → length es ≤ 36 → (length es ≤ 30 → IsFilled over 1 (length es))
        → AllByRecursion (IsLeafEntry dist w greatest over) es → ((f : ℕ → List ℕ → ℕ) → total f es ≡ f number v + total f old)
        → IsKept (suc h) over old (settled_leaf dist greatest tag right es)
    settled_leaf_kept h tag right over es old z most fill all adds =
        elim (leb_tells 31 (length es)) [
          | inl t ↦
              let parts = leaf_parts es (omega (arith, t.1)) most (all_weaker (IsLeafEntry dist w greatest over) (λ e. IsVector w e.vector) es (λ e k. k.vector) all) in
              let l = left_half dist greatest (λ (e : LeafEntry). e.vector) (λ e. 0) leaf_with_parent es in
              let r = right_half dist greatest (λ (e : LeafEntry). e.vector) (λ e. 0) leaf_with_parent es in
              rw t.0 (
                leaf_entry h tag l z parts.left.object parts.left.radius parts.left.low parts.left.high parts.left.covers parts.left.entries,
                leaf_entry h right r z parts.right.object parts.right.radius parts.right.low parts.right.high parts.right.covers parts.right.entries,
                λ f. plus (ap (total f) (leaves_leaf h tag l.entries)) (ap (total f) (leaves_leaf h right r.entries)) ∙ omega (arith, flat_single f l.entries, flat_single f r.entries, flat_single f es, parts.sums f, adds f),
              )
          | inr n ↦ rw n.0 (rw out_leaf ((z, fill (omega (arith, n.1)), all), adds))
        ]

    settled_inner_kept : (h tag right : ℕ) (over : Option (List ℕ)) (es : List InnerEntry) (old : List LeafEntry) → 0 < h → length es ≤ 36 → (length es ≤ 30 → IsFilled over 2 (length es))
        → AllByRecursion (IsEntry h over) es → ((f : ℕ → List ℕ → ℕ) → total f (flat_map (λ e. leaves h (out-InnerEntry e).child) es) ≡ f number v + total f old)
        → IsKept (suc h) over old (settled_inner dist greatest tag right es)
    settled_inner_kept h tag right over es old z most fill all adds =
        elim (leb_tells 31 (length es)) [
          | inl t ↦
              let parts = inner_parts h es (omega (arith, t.1)) most (all_weaker (IsEntry h over) (IsAnyEntry h) es (λ e k. (over, k)) all) in
              let l = left_half dist greatest (λ (e : InnerEntry). (out-InnerEntry e).object) (λ e. (out-InnerEntry e).radius) inner_with_parent es in
              let r = right_half dist greatest (λ (e : InnerEntry). (out-InnerEntry e).object) (λ e. (out-InnerEntry e).radius) inner_with_parent es in
              rw t.0 (
                inner_entry h tag l z parts.left.object parts.left.radius parts.left.low parts.left.high parts.left.covers parts.left.entries,
                inner_entry h right r z parts.right.object parts.right.radius parts.right.low parts.right.high parts.right.covers parts.right.entries,
                λ f. plus (ap (total f) (leaves_inner h tag l.entries)) (ap (total f) (leaves_inner h right r.entries)) ∙ omega (arith, parts.sums f, adds f),
              )
          | inr n ↦ rw n.0 (rw out_inner ((z, fill (omega (arith, n.1)), all), adds))
        ]

    -- the entry below which the vector went, or the two that take its place
    after_all : (h : ℕ) (over : Option (List ℕ)) (e : InnerEntry) → IsEntry h over e → (o : Outcome) → IsKept h (Some (out-InnerEntry e).object) (leaves h (out-InnerEntry e).child) o
        → AllByRecursion (IsEntry h over) (after_child dist over (out-InnerEntry e) (entry_distance dist v e) o)
    after_all h over e k (Stays m) kept =
        let object = (out-InnerEntry e).object in
        let radius = max (out-InnerEntry e).radius (entry_distance dist v e) in
        let within : AllByRecursion (λ l. dist object l.vector ≤ radius) (leaves h (out-InnerEntry e).child) = all_weaker (λ l. dist object l.vector ≤ (out-InnerEntry e).radius) _ (leaves h (out-InnerEntry e).child) (λ l c. omega (arith, c)) k.covers in
        let new : total (far dist object radius) (record { number = number; vector = v; parent = 0 } ∷ []) ≡ 0 = none_far dist object radius (record { number = number; vector = v; parent = 0 } ∷ []) (omega arith, tt) in (
          record {
            object = k.object;
            parent = k.parent;
            radius = omega (arith, k.radius, laws.bound object v k.object iv);
            covers = all_within dist object radius (leaves h m) (omega (arith, kept.1 (far dist object radius), none_far dist object radius (leaves h (out-InnerEntry e).child) within, new, total-cons (far dist object radius) (record { number = number; vector = v; parent = 0 }) []));
            child = kept.0;
          },
          tt,
        )
    after_all h over e k (Splits l r) kept = (
      record { object = kept.0.object; parent = refl; radius = kept.0.radius; covers = kept.0.covers; child = kept.0.child },
      (record { object = kept.1.object; parent = refl; radius = kept.1.radius; covers = kept.1.covers; child = kept.1.child }, tt),
    )

    after_sum : (h : ℕ) (over : Option (List ℕ)) (e : InnerEntry) (o : Outcome) → IsKept h (Some (out-InnerEntry e).object) (leaves h (out-InnerEntry e).child) o → (f : ℕ → List ℕ → ℕ)
        → sum_by (λ x. total f (leaves h (out-InnerEntry x).child)) (after_child dist over (out-InnerEntry e) (entry_distance dist v e) o) ≡ f number v + total f (leaves h (out-InnerEntry e).child)
    after_sum h over e (Stays m) kept f =
        sum_by-cons (λ (x : InnerEntry). total f (leaves h (out-InnerEntry x).child)) (raised (entry_distance dist v e) m (out-InnerEntry e)) [] ∙ omega (arith, kept.1 f)
    after_sum h over e (Splits l r) kept f =
        let g = λ (x : InnerEntry). total f (leaves h (out-InnerEntry x).child) in
        let left = placed_under dist over l in
        let right = placed_under dist over r in
        sum_by-cons g left (right ∷ []) ∙ omega (arith, sum_by-cons g right [], kept.2 f)

    after_length : (over : Option (List ℕ)) (e : EntryLayer) (d : ℕ) (o : Outcome) → (1 ≤ length (after_child dist over e d o)) × (length (after_child dist over e d o) ≤ 2)
    after_length over e d (Stays m) = (omega arith, omega arith)
    after_length over e d (Splits l r) = (omega arith, omega arith)

    kept_in : (h : ℕ) → ((over : Option (List ℕ)) (n : Node) → IsNode dist w greatest h over n → IsKept h over (leaves h n) (inserted dist greatest number v h over n))
        → (over : Option (List ℕ)) (n : Layer) → IsNodeIn dist w greatest h (λ object m. IsNode dist w greatest h (Some object) m) (leaves h) over n
        → IsKept (suc h) over (leaves_in (leaves h) n) (inserted_in dist greatest number v (λ object m. inserted dist greatest number v h (Some object) m) over n)
    kept_in h ih over (Node-F.Leaf tag es) s =
        let new : LeafEntry = new_entry dist greatest number v over in
        settled_leaf_kept h tag 0 over (es ++ new ∷ []) es s.0 (omega (arith, length-append es (new ∷ []), most over 1 (length es) s.1)) (λ room. more_filled over 1 (length es) (length (es ++ new ∷ [])) s.1 (omega (arith, length-append es (new ∷ []))) room)
        (all_append (IsLeafEntry dist w greatest over) es (new ∷ []) s.2 (record { vector = iv; parent = refl }, tt))
        (λ f. omega (arith, total-append f es (new ∷ []), total-cons f new []))
    kept_in h ih over (Node-F.Inner tag es) s =
        let below = λ (object : List ℕ) (m : Node). inserted dist greatest number v h (Some object) m in
        let F = renewed dist v over below in
        let at = chosen dist v es in
        let kept = λ (e : InnerEntry) (k : IsEntry h over e). ih (Some (out-InnerEntry e).object) (out-InnerEntry e).child k.child in
        let some : 0 < length es = some_filled over 2 (length es) (omega arith) s.1 in
        let inside : at < length es = first_inside (slice_index (map (entry_rank dist v) es)) (length es) some in
        let between = length_between (IsEntry h over) F (λ e k. after_length over (out-InnerEntry e) (entry_distance dist v e) (below (out-InnerEntry e).object (out-InnerEntry e).child)) at es s.2 in
        settled_inner_kept h tag 0 over (replaced_at at F es) (flat_map (λ e. leaves h (out-InnerEntry e).child) es) s.0 (omega (arith, between.1, most over 2 (length es) s.1)) (λ room. more_filled over 2 (length es) (length (replaced_at at F es)) s.1 between.0 room)
        (all_same_place (IsEntry h over) F at es s.2 (λ e k. after_all h over e k (below (out-InnerEntry e).object (out-InnerEntry e).child) (kept e k)))
        (λ f. total-flat_map f (λ (e : InnerEntry). leaves h (out-InnerEntry e).child) (replaced_at at F es)
        ∙ (sum_replaced (IsEntry h over) (λ (e : InnerEntry). total f (leaves h (out-InnerEntry e).child)) F (f number v) (λ e k. after_sum h over e (below (out-InnerEntry e).object (out-InnerEntry e).child) (kept e k) f) at es inside s.2
        ∙ ap (λ n. f number v + n) (sym (total-flat_map f (λ (e : InnerEntry). leaves h (out-InnerEntry e).child) es))))

    -- an insertion keeps a node well formed, and adds its record
    pub kept : (h : ℕ) (over : Option (List ℕ)) (n : Node) → IsNode dist w greatest h over n → IsKept h over (leaves h n) (inserted dist greatest number v h over n)
    kept zero over n s = absurd s
    kept (suc h) over n s = kept_in h (kept h) over (out-Node n) s
