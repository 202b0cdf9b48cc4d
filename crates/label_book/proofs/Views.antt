-- The labels that callers see, from the places and the clusters.
use Rattle.std.proofs.Common.{◌≡◌, ℕ, ◌≤◌, true, false, cond, List, [], ◌∷◌, refl, sym, ap, subst, ◌∙◌, None, Some, IsSomeAnd, is_some, unwrap_or, inl, inr, ◌⊎◌, slice_get, slice_index_or}
use Rattle.std.specs.declared.option.Option.{Option}
use Rattle.std.specs.Option.{option_map}
use Rattle.std.specs.Ordering.{nat_cmp, eq_by_cmp}
use Rattle.std.specs.Cmp.{nat_cmp_total}
use Rattle.std.specs.FinMap as map
use Rattle.slab.specs.Slab as slab
use Rattle.label_book.specs.declared.cluster.Place.{Place}
use Rattle.label_book.specs.declared.cluster.Cluster.{Cluster}
use Rattle.label_book.specs.Labels.{Labels, HasLeast, IsMember, EachOnce}
use Rattle.label_book.specs.inside.Kept.{Places, Clusters, Kept, label_or, label_at, labelled, labels_of}

found_labelled : (cs : Clusters) (q : ℕ) (es : List (ℕ × Place)) → map.find nat_cmp q (labelled cs es) ≡ option_map (label_at cs) (map.find nat_cmp q es)
found_labelled cs q [] = refl
found_labelled cs q (e ∷ es) =
    elim (eq_by_cmp nat_cmp q e.0) as (λ b. cond b (Some (label_at cs e.1)) (map.find nat_cmp q (labelled cs es)) ≡ option_map (label_at cs) (cond b (Some e.1) (map.find nat_cmp q es))) [
      | true ↦ refl
      | false ↦ found_labelled cs q es
    ]

pub get_label : (ps : Places) (cs : Clusters) (q : ℕ) → map.get (labels_of ps cs) q ≡ option_map (label_at cs) (map.get ps q)
get_label ps cs q = map.get-from_entries nat_cmp_total _ q ∙ (found_labelled cs q (map.entries ps) ∙ ap (option_map (label_at cs)) (sym (map.get-entries ps q)))

pub known : {X : Type 0} (o : Option X) → (o ≡ None) ⊎ ((x : X) × (o ≡ Some x))
known None = inl refl
known (Some x) = inr (x, refl)

pub some_and : {X : Type 0} (o : Option X) (F : X → Type 0) → IsSomeAnd o F → (x : X) × (o ≡ Some x) × F x
some_and None F h = absurd h
some_and (Some x) F h = (x, refl, h)

pub same_value : {X : Type 0} {o : Option X} {x y : X} → o ≡ Some x → o ≡ Some y → x ≡ y
same_value {x = x} a b = ap (λ o. unwrap_or o x) (sym a ∙ b)

pub no_value : {X : Type 0} {o : Option X} {x : X} → o ≡ None → o ≡ Some x → ⊥
no_value a b = let f : false ≡ true = ap is_some (sym a ∙ b) in cc

pub labelled_at : (ps : Places) (cs : Clusters) (q : ℕ) (p : Place) (c : Cluster) → map.get ps q ≡ Some p → slab.get cs p.cluster ≡ Some c → map.get (labels_of ps cs) q ≡ Some c.label
labelled_at ps cs q p c at is = get_label ps cs q ∙ (ap (option_map (label_at cs)) at ∙ ap (λ o. Some (label_or o)) is)

pub unlabelled : (ps : Places) (cs : Clusters) (q : ℕ) → map.get ps q ≡ None → map.get (labels_of ps cs) q ≡ None
unlabelled ps cs q at = get_label ps cs q ∙ ap (option_map (label_at cs)) at

-- where a core stands
pub record Stands (ps : Places) (cs : Clusters) (core : ℕ) : Type 0 where
  pub place : Place
  pub cluster : Cluster
  pub at : map.get ps core ≡ Some place
  pub is : slab.get cs place.cluster ≡ Some cluster
  pub member : slice_get cluster.members place.at ≡ Some core

pub stands : (ps : Places) (cs : Clusters) → Kept ps cs → (core : ℕ) (p : Place) → map.get ps core ≡ Some p → Stands ps cs core
stands ps cs k core p at = let s = some_and (slab.get cs p.cluster) _ (k.placed core p at) in record { place = p; cluster = s.0; at = at; is = s.1; member = s.2 }

-- a core with a label stands in a cluster with this label
pub with_label : (ps : Places) (cs : Clusters) → Kept ps cs → (core label : ℕ) → map.get (labels_of ps cs) core ≡ Some label → (s : Stands ps cs core) × (s.cluster.label ≡ label)
with_label ps cs k core label has = elim (known (map.get ps core)) [
  | inl none ↦ absurd (no_value (unlabelled ps cs core none) has)
  | inr p ↦ let s = stands ps cs k core p.0 p.1 in (s, same_value (labelled_at ps cs core s.place s.cluster s.at s.is) has)
]

-- each number in a cluster's list has the cluster's label
pub member_labelled : (ps : Places) (cs : Clusters) → Kept ps cs → (h : ℕ) (c : Cluster) → slab.get cs h ≡ Some c → (core : ℕ) → IsMember c.members core → map.get (labels_of ps cs) core ≡ Some c.label
member_labelled ps cs k h c is core m = labelled_at ps cs core _ c (k.listed h c is m.0 core m.1) is

pub has_least : (ps : Places) (cs : Clusters) → Kept ps cs → HasLeast (labels_of ps cs)
has_least ps cs k core label has =
    let s = with_label ps cs k core label has in
    let l = k.least s.0.place.cluster s.0.cluster s.0.is in
    subst (λ n. (n ≤ core) × (map.get (labels_of ps cs) n ≡ Some n)) s.1 (l.1 s.0.place.at core s.0.member, member_labelled ps cs k s.0.place.cluster s.0.cluster s.0.is s.0.cluster.label l.0)

-- a label stands in one cluster
pub one_cluster : (ps : Places) (cs : Clusters) → Kept ps cs → (h : ℕ) (c : Cluster) → slab.get cs h ≡ Some c → (p : Place) → map.get ps c.label ≡ Some p → p.cluster ≡ h
one_cluster ps cs k h c is p at = let l = k.least h c is in ap (λ (x : Place). x.cluster) (same_value at (k.listed h c is l.0.0 c.label l.0.1))

-- a cluster whose label is `label` has each core with this label
pub holds_all : (ps : Places) (cs : Clusters) → Kept ps cs → (label : ℕ) (p : Place) (c : Cluster) → map.get ps label ≡ Some p → slab.get cs p.cluster ≡ Some c
    → (core : ℕ) → map.get (labels_of ps cs) core ≡ Some label → IsMember c.members core
holds_all ps cs k label p c at is core has =
    let s = with_label ps cs k core label has in
    let one : p.cluster ≡ s.0.place.cluster = one_cluster ps cs k s.0.place.cluster s.0.cluster s.0.is p (subst (λ n. map.get ps n ≡ Some p) (sym s.1) at) in
    let same : s.0.cluster ≡ c = same_value s.0.is (subst (λ h. slab.get cs h ≡ Some c) one is) in
    (s.0.place.at, subst (λ (x : Cluster). slice_get x.members s.0.place.at ≡ Some core) same s.0.member)

pub each_once : (ps : Places) (cs : Clusters) → Kept ps cs → (h : ℕ) (c : Cluster) → slab.get cs h ≡ Some c → EachOnce c.members
each_once ps cs k h c is i j core a b = ap (λ (x : Place). x.at) (same_value (k.listed h c is i core a) (k.listed h c is j core b))

no_cluster : (cs : Clusters) (h : ℕ) → cs.slots ≡ [] → slab.get cs h ≡ None
no_cluster cs h e = ap (λ s. slice_index_or s h None) e

pub kept_empty : (ps : Places) (cs : Clusters) → ps ≡ map.empty → cs.slots ≡ [] → Kept ps cs
kept_empty ps cs e f = record {
  placed = λ core p at. absurd (no_value (ap (λ m. map.get m core) e ∙ map.get-empty nat_cmp core) at);
  listed = λ h c is. absurd (no_value (no_cluster cs h f) is);
  least = λ h c is. absurd (no_value (no_cluster cs h f) is);
}

pub labels_same : (m n : Labels) → ((q : ℕ) → map.get m q ≡ map.get n q) → m ≡ n
labels_same m n h = map.same_map nat_cmp_total map.nat_cmp-IsAntisymmetric m n h

pub labels_empty : (ps : Places) (cs : Clusters) → ps ≡ map.empty → labels_of ps cs ≡ map.empty
labels_empty ps cs e = labels_same _ _ (λ q. unlabelled ps cs q (ap (λ m. map.get m q) e ∙ map.get-empty nat_cmp q) ∙ sym (map.get-empty nat_cmp q))

pub must_stand : (ps : Places) (cs : Clusters) → Kept ps cs → (core : ℕ) (p : Place) → map.get ps core ≡ Some p → slab.get cs p.cluster ≡ None → ⊥
must_stand ps cs k core p at none = no_value none (some_and (slab.get cs p.cluster) _ (k.placed core p at)).1
