-- The rule of a range query passes over no vector that is near.
use Rattle.std.proofs.Common.{◌≡◌, ℕ, zero, suc, ◌+◌, ◌<◌, ◌≤◌, true, false, cond, List, [], ◌∷◌, ◌++◌, length, Option, Some, None, refl, sym, arith, inl, inr, append_assoc}
use Rattle.std.specs.Prelude.{nat_le}
use Rattle.std.specs.List.{AllByRecursion, flat_map}
use Rattle.std.proofs.lemmas.Bool.Decides.{leb_tells}
use Rattle.std.proofs.lemmas.Bool.{ltb-true}
use Rattle.vec_record.specs.Vectors.{IsVector}
use Rattle.vec_record.specs.Distance.{apart}
use Rattle.mtree_node.specs.declared.node.LeafEntry.{LeafEntry}
use Rattle.mtree_node.specs.declared.node.InnerEntry.{InnerEntry, out-InnerEntry}
use Rattle.mtree_node.specs.declared.node.Node.{Node, out-Node}
use Rattle.mtree_node.specs.declared.node.Node.TheOpen.{Node-F}
use Rattle.mtree_node.specs.Layer.{Layer}
use Rattle.mtree_node.specs.Tree.{leaves, leaves_in, parent_distance, IsFilled, IsLeafEntry, IsNode, IsNodeIn}
use Rattle.mtree_node.specs.Cost.{is_skipped}
use Rattle.mtree_index.specs.Found.{IsShaped, IsShapedIn, IsEntryOver, number_within, numbers_within, leaf_found, entry_found, found, found_in}
use Rattle.mtree_index.proofs.Kept.{IsEntry, vectors_below}
use Rattle.mtree_index.proofs.Parted.{Lawful}
use Rattle.mtree_index.proofs.Places.{all_weaker}

abbrev Far : (List ℕ → List ℕ → ℕ) → List ℕ → ℕ → LeafEntry → Type 0
Far dist q r e = r < dist q e.vector

no_number : (dist : List ℕ → List ℕ → ℕ) (q : List ℕ) (r : ℕ) (e : LeafEntry) → Far dist q r e → number_within dist q r e ≡ []
no_number dist q r e far = elim (leb_tells (dist q e.vector) r) [ inl y ↦ absurd (omega (arith, y.1)) | inr n ↦ rw n.0 refl ]

no_numbers : (dist : List ℕ → List ℕ → ℕ) (q : List ℕ) (r : ℕ) (es : List LeafEntry) → AllByRecursion (Far dist q r) es → numbers_within dist q r es ≡ []
no_numbers dist q r [] far = refl
no_numbers dist q r (e ∷ es) far = rw (no_number dist q r e far.0, no_numbers dist q r es far.1) refl

numbers-append : (dist : List ℕ → List ℕ → ℕ) (q : List ℕ) (r : ℕ) (es fs : List LeafEntry) → numbers_within dist q r (es ++ fs) ≡ numbers_within dist q r es ++ numbers_within dist q r fs
numbers-append dist q r [] fs = refl
numbers-append dist q r (e ∷ es) fs = rw (numbers-append dist q r es fs, append_assoc) refl

filled_few : (over : Option (List ℕ)) (low n : ℕ) → IsFilled over low n → n ≤ 30
filled_few None low n f = f.1
filled_few (Some object) low n f = f.1

module _ (dist : List ℕ → List ℕ → ℕ) (w greatest : ℕ) where
  shaped_in : (h : ℕ) → ((over : Option (List ℕ)) (n : Node) → IsNode dist w greatest h over n → IsShaped w h n)
      → (over : Option (List ℕ)) (n : Layer) → IsNodeIn dist w greatest h (λ object m. IsNode dist w greatest h (Some object) m) (leaves h) over n → IsShapedIn w h (IsShaped w h) n
  shaped_in h ih over (Node-F.Leaf tag es) s = (s.0, filled_few over 1 (length es) s.1, all_weaker (IsLeafEntry dist w greatest over) _ es (λ e k. k.vector) s.2)
  shaped_in h ih over (Node-F.Inner tag es) s =
      (s.0, all_weaker _ (λ e. IsEntryOver w (IsShaped w h) (out-InnerEntry e)) es (λ e k. record { object = k.object; child = ih (Some (out-InnerEntry e).object) (out-InnerEntry e).child k.child }) s.2)

  -- a well-formed node has vectors of the width
  pub shaped : (h : ℕ) (over : Option (List ℕ)) (n : Node) → IsNode dist w greatest h over n → IsShaped w h n
  shaped zero over n s = absurd s
  shaped (suc h) over n s = shaped_in h (shaped h) over (out-Node n) s

  module _ (laws : Lawful dist w greatest) (symmetry : (u v : List ℕ) → IsVector w u → IsVector w v → dist u v ≡ dist v u) (q : List ℕ) (qv : IsVector w q) (r : ℕ) where
    -- what is known of the node's object
    abbrev pub Knows : Option ℕ → Option (List ℕ) → Type 0
    Knows None over = Unit {0}
    Knows (Some d) None = ⊥
    Knows (Some d) (Some object) = (d ≡ dist q object) × IsVector w object

    skip_far : (to : Option ℕ) (over : Option (List ℕ)) (reach parent : ℕ) (v : List ℕ) → Knows to over → IsVector w v → parent ≡ parent_distance dist over v → is_skipped to reach parent ≡ true → reach < dist q v
    skip_far None over reach parent v k i p s = cc
    skip_far (Some d) None reach parent v k i p s = absurd k
    skip_far (Some d) (Some object) reach parent v k i p s =
        let far : reach < apart d parent = ltb-true reach (apart d parent) s in
        omega (arith, p, k.0, laws.triangle q v object qv i k.1, laws.triangle object q v k.1 qv i, symmetry object q k.1 qv, symmetry object v k.1 i)

    leaf_exact : (to : Option ℕ) (over : Option (List ℕ)) (e : LeafEntry) → Knows to over → IsLeafEntry dist w greatest over e → leaf_found dist q r to e ≡ number_within dist q r e
    leaf_exact to over e k l =
        elim (is_skipped to r e.parent) as (λ b. is_skipped to r e.parent ≡ b → cond b [] (number_within dist q r e) ≡ number_within dist q r e) [
          | true ↦ λ s. sym (no_number dist q r e (skip_far to over r e.parent e.vector k l.vector l.parent s))
          | false ↦ λ s. refl
        ] refl

    leaves_exact : (to : Option ℕ) (over : Option (List ℕ)) (es : List LeafEntry) → Knows to over → AllByRecursion (IsLeafEntry dist w greatest over) es → flat_map (leaf_found dist q r to) es ≡ numbers_within dist q r es
    leaves_exact to over [] k a = refl
    leaves_exact to over (e ∷ es) k a = rw (leaf_exact to over e k a.0, leaves_exact to over es k a.1) refl

    far_below : (object : List ℕ) (radius : ℕ) (ls : List LeafEntry) → IsVector w object → AllByRecursion (λ l. IsVector w l.vector) ls → AllByRecursion (λ l. dist object l.vector ≤ radius) ls → r + radius < dist q object → AllByRecursion (Far dist q r) ls
    far_below object radius [] i f c far = tt
    far_below object radius (l ∷ ls) i f c far =
        (omega (arith, c.0, laws.triangle q l.vector object qv f.0 i, symmetry l.vector object f.0 i, far), far_below object radius ls i f.1 c.1 far)

    entry_exact : (h : ℕ) (to : Option ℕ) (over : Option (List ℕ)) (e : InnerEntry) → Knows to over → IsEntry dist w greatest laws h over e
        → found dist q r h (Some (dist q (out-InnerEntry e).object)) (out-InnerEntry e).child ≡ numbers_within dist q r (leaves h (out-InnerEntry e).child)
        → entry_found dist q r (found dist q r h) to (out-InnerEntry e) ≡ numbers_within dist q r (leaves h (out-InnerEntry e).child)
    entry_exact h to over e k s ih =
        let x = out-InnerEntry e in
        let below = vectors_below dist w greatest laws h (Some x.object) x.child s.child in
        let far = λ (y : r + x.radius < dist q x.object). sym (no_numbers dist q r (leaves h x.child) (far_below x.object x.radius (leaves h x.child) s.object below s.covers y)) in
        elim (is_skipped to (r + x.radius) x.parent) as (λ b. is_skipped to (r + x.radius) x.parent ≡ b
        → cond b [] (cond (nat_le (dist q x.object) (r + x.radius)) (found dist q r h (Some (dist q x.object)) x.child) []) ≡ numbers_within dist q r (leaves h x.child)) [
          | true ↦ λ y. far (skip_far to over (r + x.radius) x.parent x.object k s.object s.parent y)
          | false ↦ λ y. elim (leb_tells (dist q x.object) (r + x.radius)) [ inl z ↦ rw z.0 ih | inr z ↦ rw z.0 (far z.1) ]
        ] refl

    entries_exact : (h : ℕ) → ((to : Option ℕ) (over : Option (List ℕ)) (n : Node) → Knows to over → IsNode dist w greatest h over n → found dist q r h to n ≡ numbers_within dist q r (leaves h n))
        → (to : Option ℕ) (over : Option (List ℕ)) (es : List InnerEntry) → Knows to over → AllByRecursion (IsEntry dist w greatest laws h over) es
        → flat_map (λ e. entry_found dist q r (found dist q r h) to (out-InnerEntry e)) es ≡ numbers_within dist q r (flat_map (λ e. leaves h (out-InnerEntry e).child) es)
    entries_exact h ih to over [] k s = refl
    entries_exact h ih to over (e ∷ es) k s =
        let x = out-InnerEntry e in
        rw (
          numbers-append dist q r (leaves h (out-InnerEntry e).child) (flat_map (λ e. leaves h (out-InnerEntry e).child) es),
          entry_exact h to over e k s.0 (ih (Some (dist q x.object)) (Some x.object) x.child (refl, s.0.object) s.0.child),
          entries_exact h ih to over es k s.1,
        ) refl

    exact_in : (h : ℕ) → ((to : Option ℕ) (over : Option (List ℕ)) (n : Node) → Knows to over → IsNode dist w greatest h over n → found dist q r h to n ≡ numbers_within dist q r (leaves h n))
        → (to : Option ℕ) (over : Option (List ℕ)) (n : Layer) → Knows to over → IsNodeIn dist w greatest h (λ object m. IsNode dist w greatest h (Some object) m) (leaves h) over n
        → found_in dist q r (found dist q r h) to n ≡ numbers_within dist q r (leaves_in (leaves h) n)
    exact_in h ih to over (Node-F.Leaf tag es) k s = leaves_exact to over es k s.2
    exact_in h ih to over (Node-F.Inner tag es) k s = entries_exact h ih to over es k s.2

    -- what the rule finds is what is near
    pub exact : (h : ℕ) (to : Option ℕ) (over : Option (List ℕ)) (n : Node) → Knows to over → IsNode dist w greatest h over n → found dist q r h to n ≡ numbers_within dist q r (leaves h n)
    exact zero to over n k s = absurd s
    exact (suc h) to over n k s = exact_in h (exact h) to over (out-Node n) k s
