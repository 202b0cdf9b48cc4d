-- What a search that found the pair leaves among the entries of a node: neighbours that can be joined.
use Rattle.std.proofs.Common.{◌≡◌, ℕ, zero, suc, ◌+◌, ◌-◌, ◌<◌, ◌≤◌, true, List, [], ◌∷◌, length, Option, Some, None, refl, sym, subst, arith}
use Rattle.std.specs.List.{slice_get, AllByRecursion}
use Rattle.std.proofs.lemmas.Bool.{ltb-true}
use Rattle.vec_record.specs.Vectors.{IsVector}
use Rattle.mtree_node.specs.declared.node.InnerEntry.{InnerEntry, out-InnerEntry}
use Rattle.mtree_node.specs.declared.node.Node.{out-Node}
use Rattle.mtree_node.specs.declared.node.Node.TheOpen.{Node-F}
use Rattle.mtree_node.specs.Layer.{Layer}
use Rattle.mtree_node.specs.Tree.{IsLeafEntry}
use Rattle.mtree_index.specs.Removal.{first_changed, entry_without, removed, size, size_in, is_short_at}
use Rattle.mtree_index.specs.Joinable.{AreJoinable, IsJoinable, IsJoinableAt}
use Rattle.mtree_index.proofs.Joins.{IsLooseIn, IsLooseEntry, loose_entry, sizes_of}
use Rattle.mtree_index.proofs.Kept.{IsEntry}
use Rattle.mtree_index.proofs.Lost.{Telling, OneLoose, AmongLost, among_lost, entry_lost, lost}
use Rattle.mtree_index.proofs.Parted.{Lawful}
use Rattle.mtree_index.proofs.Places.{all_weaker}

module _ (dist : List ℕ → List ℕ → ℕ) (w greatest : ℕ) (laws : Lawful dist w greatest) where
  joinable_in : (h : ℕ) (o p : List ℕ) (m n : Layer) → IsLooseIn dist w greatest laws h (Some o) m → IsLooseIn dist w greatest laws h (Some p) n → size_in m + size_in n ≤ 36 → AreJoinable w m n
  joinable_in h o p (Node-F.Leaf tag es) (Node-F.Leaf right fs) k l s =
      (s, all_weaker (IsLeafEntry dist w greatest (Some o)) _ es (λ x q. q.vector.len) k.2, all_weaker (IsLeafEntry dist w greatest (Some p)) _ fs (λ x q. q.vector.len) l.2)
  joinable_in h o p (Node-F.Inner tag es) (Node-F.Inner right fs) k l s =
      (s, all_weaker (IsEntry dist w greatest laws h (Some o)) _ es (λ x q. q.object.len) k.2, all_weaker (IsEntry dist w greatest laws h (Some p)) _ fs (λ x q. q.object.len) l.2)
  joinable_in h o p (Node-F.Leaf tag es) (Node-F.Inner right fs) k l s = absurd (omega (arith, k.0, l.0))
  joinable_in h o p (Node-F.Inner tag es) (Node-F.Leaf right fs) k l s = absurd (omega (arith, k.0, l.0))

  joinable : (h : ℕ) (over : Option (List ℕ)) (l r : InnerEntry) → IsLooseEntry dist w greatest laws h over l → IsLooseEntry dist w greatest laws h over r → size (out-InnerEntry l).child + size (out-InnerEntry r).child ≤ 36 → IsJoinable w l r
  joinable zero over l r a b s = absurd a.child
  joinable (suc h) over l r a b s = record { object = a.object.len; nodes = joinable_in h (out-InnerEntry l).object (out-InnerEntry r).object (out-Node (out-InnerEntry l).child) (out-Node (out-InnerEntry r).child) a.child b.child s }

  module _ (tells : Telling dist w) (number : ℕ) (v : List ℕ) (iv : IsVector w v) (h : ℕ) (over : Option (List ℕ)) where
    abbrev One : ℕ → List InnerEntry → Type 0
    One place es = OneLoose dist w greatest laws tells number v iv h over place es

    pub one_within : (place : ℕ) (es : List InnerEntry) → One place es → place < length es
    one_within place [] o = absurd o
    one_within zero (e ∷ es) o = omega arith
    one_within (suc place) (e ∷ es) o = omega (arith, one_within place es o.1)

    one_there : (place : ℕ) (es : List InnerEntry) (e : InnerEntry) → One place es → slice_get es place ≡ Some e → is_short_at place es ≡ true → IsLooseEntry dist w greatest laws h over e × (size (out-InnerEntry e).child < 7)
    one_there place [] e o g s = absurd o
    one_there zero (x ∷ es) e o g s =
        let is : x ≡ e = cc in
        subst (λ y. IsLooseEntry dist w greatest laws h over y × (size (out-InnerEntry y).child < 7)) is (o.0, ltb-true (size (out-InnerEntry x).child) 7 s)
    one_there (suc place) (x ∷ es) e o g s = one_there place es e o.1 g s

    before_there : (k : ℕ) (es : List InnerEntry) (e : InnerEntry) → One (suc k) es → slice_get es k ≡ Some e → IsEntry dist w greatest laws h over e
    before_there k [] e o g = absurd o
    before_there zero (x ∷ es) e o g = let is : x ≡ e = cc in subst (IsEntry dist w greatest laws h over) is o.0
    before_there (suc k) (x ∷ es) e o g = before_there k es e o.1 g

    next_there : (es : List InnerEntry) (e : InnerEntry) → One 0 es → slice_get es 1 ≡ Some e → IsEntry dist w greatest laws h over e
    next_there [] e o g = absurd o
    next_there (x ∷ []) e o g = cc
    next_there (x ∷ y ∷ es) e o g = let is : y ≡ e = cc in subst (IsEntry dist w greatest laws h over) is o.1.0

    joinable_places : (place k j : ℕ) (es : List InnerEntry) → k ≡ place - 1 → j ≡ place - 1 + 1 → One place es → is_short_at place es ≡ true → (left right : InnerEntry) → slice_get es k ≡ Some left → slice_get es j ≡ Some right → IsJoinable w left right
    joinable_places zero k j es first second o s left right a b =
        let one = one_there 0 es left o (subst (λ (i : ℕ). slice_get es i ≡ Some left) (let z : k ≡ 0 = omega arith in z) a) s in
        let next = loose_entry dist w greatest laws h over right (next_there es right o (subst (λ (i : ℕ). slice_get es i ≡ Some right) (let z : j ≡ 1 = omega arith in z) b)) in
        joinable h over left right one.0 next (omega (arith, one.1, sizes_of dist w greatest laws h (out-InnerEntry right).object (out-InnerEntry right).child next.child))
    joinable_places (suc place) k j es first second o s left right a b =
        let one = one_there (suc place) es right o (subst (λ (i : ℕ). slice_get es i ≡ Some right) (let z : j ≡ suc place = omega arith in z) b) s in
        let before = loose_entry dist w greatest laws h over left (before_there place es left o (subst (λ (i : ℕ). slice_get es i ≡ Some left) (let z : k ≡ place = omega arith in z) a)) in
        joinable h over left right before one.0 (omega (arith, one.1, sizes_of dist w greatest laws h (out-InnerEntry left).object (out-InnerEntry left).child before.child))

    -- where a child became short, it and its neighbour can be joined
    pub joinable_at : (place : ℕ) (es : List InnerEntry) → One place es → IsJoinableAt w place es
    joinable_at place es o = λ s left right a b. joinable_places place (place - 1) (place - 1 + 1) es refl refl o s left right a b

    among_some : (old : List InnerEntry) (o : Option (ℕ × List InnerEntry)) (place : ℕ) (es : List InnerEntry) → Some (place, es) ≡ o → AmongLost dist w greatest laws tells number v iv h over old o → One place es × (length es ≡ length old)
    among_some old None place es e l = cc
    among_some old (Some p) place es e l =
        let is : (place, es) ≡ p = cc in
        subst (λ (q : ℕ × List InnerEntry). One q.0 q.1 × (length q.1 ≡ length old)) (sym is) (l.0, l.1)

    -- what a search that found the pair leaves
    pub found_among : (old : List InnerEntry) → ((o : List ℕ) → over ≡ Some o → IsVector w o) → AllByRecursion (IsEntry dist w greatest laws h over) old → (place : ℕ) (es : List InnerEntry)
        → Some (place, es) ≡ first_changed (entry_without dist v (λ object m. removed dist greatest number v h (Some object) m) over) old → One place es × (length es ≡ length old)
    found_among old ko a place es e =
        let g = entry_without dist v (λ object m. removed dist greatest number v h (Some object) m) over in
        among_some old (first_changed g old) place es e
        (among_lost dist w greatest laws tells number v iv h over g old a
        (λ x k. entry_lost dist w greatest laws tells number v iv h over x ko k (lost dist w greatest laws tells number v iv h (Some (out-InnerEntry x).object) (out-InnerEntry x).child (λ o q. let is : (out-InnerEntry x).object ≡ o = cc in subst (IsVector w) is k.object) k.child)))
