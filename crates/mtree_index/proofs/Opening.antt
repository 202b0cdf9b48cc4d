-- What a removal and a query make of a node that was opened.
use Rattle.std.proofs.Common.{◌≡◌, ℕ, zero, suc, ◌-◌, ◌<◌, ◌≤◌, Bool, true, false, min, List, [], ◌∷◌, ◌++◌, length, Option, Some, None, refl, sym, ap, ◌∙◌, arith, inl, inr}
use Rattle.std.specs.Prelude.{nat_lt, Result, Ok, Err, IfOk}
use Rattle.std.specs.Option.{option_map}
use Rattle.std.specs.List.{slice_get}
use Rattle.std.proofs.lemmas.Bool.Decides.{leb_tells}
use Rattle.mtree_node.specs.declared.node.LeafEntry.{LeafEntry}
use Rattle.mtree_node.specs.declared.node.InnerEntry.{InnerEntry, out-InnerEntry, roll-InnerEntry}
use Rattle.mtree_node.specs.declared.node.Node.{Node, out-Node}
use Rattle.mtree_node.specs.declared.node.Node.TheOpen.{Node-F}
use Rattle.mtree_node.specs.declared.node.Node.TheVariants as node
use Rattle.mtree_node.proofs.Opened.{out_inner, opened_inner, opened_leaf}
use Rattle.mtree_index.specs.Insertion.{Stays, settled_inner, settled_leaf, outcome, entries_of}
use Rattle.mtree_index.specs.declared.settle.Pair.{Pair}
use Rattle.mtree_index.specs.Entries.{leaf_with_parent}
use Rattle.mtree_index.specs.Joinable.{given}
use Rattle.mtree_index.specs.Removal.{is_pair, without_first, first_changed, entry_without, size, is_short_at, joined_at, joined, farthest, all_under, refilled, removed, removed_in}

module _ (dist : List ℕ → List ℕ → ℕ) (greatest number : ℕ) (v : List ℕ) (over : Option (List ℕ)) (n : Node) (tag h k : ℕ) (level : h ≡ suc k) where
  pub removed_leaf : (es : List LeafEntry) → n ≡ node.Leaf tag es → removed dist greatest number v h over n ≡ option_map (node.Leaf tag) (without_first (is_pair dist v number over) es)
  removed_leaf es is =
      ap (λ m. removed dist greatest number v m over n) level ∙ ap (removed_in dist greatest number v (λ object m. removed dist greatest number v k (Some object) m) over) (opened_leaf n tag es is)

  pub removed_inner : (es : List InnerEntry) → n ≡ node.Inner tag es
      → removed dist greatest number v h over n ≡ option_map (λ p. node.Inner tag (refilled dist greatest over p.0 p.1)) (first_changed (entry_without dist v (λ object m. removed dist greatest number v k (Some object) m) over) es)
  removed_inner es is =
      ap (λ m. removed dist greatest number v m over n) level ∙ ap (removed_in dist greatest number v (λ object m. removed dist greatest number v k (Some object) m) over) (opened_inner n tag es is)

-- a map of an option is none where the option is
pub map_none : {A B : Type 0} (g : A → B) (o : Option A) → option_map g o ≡ None → o ≡ None
map_none g None e = refl
map_none g (Some x) e = cc

pub map_map : {A B C : Type 0} (g : B → C) (f : A → B) (o : Option A) → option_map g (option_map f o) ≡ option_map (λ x. g (f x)) o
map_map g f None = refl
map_map g f (Some x) = refl

pub given_map : {A B : Type 0} (g : A → B) (done : Bool) (x : A) → given done (g x) ≡ option_map g (given done x)
given_map g true x = refl
given_map g false x = refl

-- an inner node has one list of entries
pub same_inner : (tag : ℕ) (es fs : List InnerEntry) → node.Inner tag es ≡ node.Inner tag fs → es ≡ fs
same_inner tag es fs is = let opened : Node-F.Inner tag es ≡ Node-F.Inner tag fs = sym (out_inner tag es) ∙ (ap out-Node is ∙ out_inner tag fs) in cc

-- where no split came, the entries are few, and stay
pub settled_none : (dist : List ℕ → List ℕ → ℕ) (greatest tag right : ℕ) (es new : List InnerEntry) → Stays (node.Inner tag new) ≡ settled_inner dist greatest tag right es → (settled_inner dist greatest tag right es ≡ Stays (node.Inner tag es)) × (new ≡ es)
settled_none dist greatest tag right es new is =
    elim (leb_tells 31 (length es)) [
      | inl t ↦ absurd (let h = rw t.0 at is in cc)
      | inr n ↦ (rw n.0 refl, same_inner tag new es (let h : Stays (node.Inner tag new) ≡ Stays (node.Inner tag es) = rw n.0 at is in cc))
    ]

-- whether the entry at a place is short is told by its child's size
pub short_is : (es : List InnerEntry) (place : ℕ) (e : InnerEntry) → slice_get es place ≡ Some e → is_short_at place es ≡ nat_lt (size (out-InnerEntry e).child) 7
short_is [] place e g = cc
short_is (x ∷ es) zero e g = let is : x ≡ e = cc in ap (λ (y : InnerEntry). nat_lt (size (out-InnerEntry y).child) 7) is
short_is (x ∷ es) (suc place) e g = short_is es place e g

pub not_short : (n : ℕ) → 7 ≤ n → nat_lt n 7 ≡ false
not_short n l = elim (leb_tells (suc n) 7) [ inl t ↦ absurd (omega (arith, t.1, l)) | inr f ↦ f.0 ]

pub short : (n : ℕ) → n < 7 → nat_lt n 7 ≡ true
short n l = elim (leb_tells (suc n) 7) [ inl t ↦ t.0 | inr f ↦ absurd (omega (arith, f.1, l)) ]

pub refilled_same : (dist : List ℕ → List ℕ → ℕ) (greatest : ℕ) (over : Option (List ℕ)) (place : ℕ) (es : List InnerEntry) → is_short_at place es ≡ false → es ≡ refilled dist greatest over place es
refilled_same dist greatest over place es s = sym (rw s refl)

pub refilled_short : (dist : List ℕ → List ℕ → ℕ) (greatest : ℕ) (over : Option (List ℕ)) (place : ℕ) (es : List InnerEntry) → is_short_at place es ≡ true → joined_at (place - 1) (joined dist greatest over) es ≡ refilled dist greatest over place es
refilled_short dist greatest over place es s = sym (rw s refl)

-- what two facts of an answer give together
pub both_ok : {X E : Type 0} (P Q R : X → Type 0) (r : Result X E) → ((x : X) → P x → Q x → R x) → IfOk r P → IfOk r Q → IfOk r R
both_ok P Q R (Ok x) f p q = f x p q
both_ok P Q R (Err e) f p q = tt

-- the entries that stand for two leaves that were joined
pub joined_leaves : (dist : List ℕ → List ℕ → ℕ) (greatest : ℕ) (left right new : InnerEntry) (tag other radius : ℕ) (es fs all : List LeafEntry) → (out-InnerEntry left).child ≡ node.Leaf tag es → (out-InnerEntry right).child ≡ node.Leaf other fs
    → new ≡ roll-InnerEntry (record { object = (out-InnerEntry left).object; radius = radius; parent = (out-InnerEntry left).parent; child = node.Leaf tag all }) → (pair : Option Pair)
    → (pair ≡ None → (settled_leaf dist greatest tag other (es ++ fs) ≡ Stays (node.Leaf tag (es ++ fs))) × (all ≡ all_under dist (λ (e : LeafEntry). e.vector) leaf_with_parent (out-InnerEntry left).object (es ++ fs)) × (radius ≡ min (farthest dist (λ (e : LeafEntry). e.vector) (λ (e : LeafEntry). 0) (out-InnerEntry left).object (es ++ fs)) greatest))
    → ((p : Pair) → pair ≡ Some p → settled_leaf dist greatest tag other (es ++ fs) ≡ outcome pair (node.Leaf tag all)) → (over : Option (List ℕ)) → entries_of dist over pair new ≡ joined dist greatest over left right
joined_leaves dist greatest left right new tag other radius es fs all a b c None one two over =
    let o = one refl in
    rw (opened_leaf (out-InnerEntry left).child tag es a, opened_leaf (out-InnerEntry right).child other fs b, o.0, c, o.1, o.2) refl
joined_leaves dist greatest left right new tag other radius es fs all a b c (Some p) one two over =
    rw (opened_leaf (out-InnerEntry left).child tag es a, opened_leaf (out-InnerEntry right).child other fs b, two p refl) refl
