-- What is told of the groups of an insertion is what its events are by the marks before and after.
use Rattle.std.proofs.Common.{◌≡◌, ℕ, Bool, true, false, cond, not, ◌&&◌, List, [], ◌∷◌, map, filter, nat_eq, IsTrue, refl, sym, ap, subst, ◌∙◌, None, Some, inl, inr, slice_get, if◌then◌else◌}
use lib.Dec.{T}
use Rattle.std.specs.declared.option.Option.{Option}
use Rattle.std.specs.Ordering.{nat_cmp}
use Rattle.std.specs.List.{list_any, flat_map}
use Rattle.std.specs.FinMap as map
use Rattle.std.specs.FinMap.Entries.{is_sorted}
use Rattle.std.proofs.lemmas.Bool.{cases_Bool}
use Rattle.std.proofs.lemmas.Bool.Decides.{eqb_tells}
use Rattle.vec_record.specs.Held.{Rows}
use Rattle.vec_record.specs.declared.event.Event.{Event}
use Rattle.vec_record.specs.declared.event.Kind.TheVariants as kind
use Rattle.plain_dbscan.specs.declared.marks.Mark.{Mark}
use Rattle.plain_dbscan.specs.Texts.{is_core_mark, names_cluster}
use Rattle.plain_dbscan.specs.Marks.{Density, Entries, numbers_of, is_core, is_near, cluster_of, outer_mark, anchor_of, mark_of, marks_of}
use Rattle.plain_dbscan.specs.Cases.{mark_in, is_core_of, is_member_of, clusters_of, is_core_here_alone, changed_clusters, labels_across, new_number, event, growth, insertion_events}
use Rattle.plain_dbscan.proofs.Chains.{Member, both, first_of_both, second_of_both, left_or, right_or, either}
use Rattle.plain_dbscan.proofs.Members.{Rises, rises_filter, passes_in, member_filter}
use Rattle.plain_dbscan.proofs.CoresOf.{rises_sorted, among, core_mark, other_mark}
use Rattle.plain_dbscan.proofs.CoresOf.{cluster_is}
use Rattle.plain_dbscan.proofs.MarksRise.{mark_in_marks}
use Rattle.label_book.specs.Labels.{Labels, HasLeast, IsMember}
use Rattle.label_book.proofs.Views.{same_value, no_value}
use Rattle.update_seed.specs.declared.groups.InGroup.{InGroup}
use Rattle.update_seed.specs.Groups.{AreGathered, StoodBefore, IsInGroup, AreClusters}
use Rattle.update_seed.proofs.Lists.{to_member, from_member, once_apart}
use Rattle.plain_dbscan.specs.Chains.{IsLabel}
use Rattle.plain_dbscan.proofs.Chains.{joined_back}
use Rattle.insert_case.specs.Joining.{IsLabelOf, AreAllJoined, AreTold}
use Rattle.insert_case.proofs.Joined.{new_at, label_at, label_in, labels_once}
use Rattle.insert_case.proofs.Labelled.{new_core, only_all, is_core_here, grouped, cluster_here, some_label}
use Rattle.insert_case.proofs.EventLists.{Within, within_contained, contained_within, climbs_pairs, same_events, in_cluster, of_cluster, clusters_climb, growth_same, rises_apart}

-- a test of some number of a list
any_in : (p : ℕ × Mark → Bool) (f : ℕ → Mark) (xs : List ℕ) → IsTrue (list_any p (map (λ a. (a, f a)) xs)) → (a : ℕ) × (Member a xs × IsTrue (p (a, f a)))
any_in p f [] h = absurd (cc)
any_in p f (x ∷ xs) h = elim (either (p (x, f x)) (list_any p (map (λ a. (a, f a)) xs)) h) [
  | inl k ↦ (x, (inl refl, k))
  | inr k ↦ let r = any_in p f xs k in (r.0, (inr r.1.0, r.1.1))
]

in_any : (p : ℕ × Mark → Bool) (f : ℕ → Mark) (xs : List ℕ) (a : ℕ) → Member a xs → IsTrue (p (a, f a)) → IsTrue (list_any p (map (λ b. (b, f b)) xs))
in_any p f [] a m h = absurd m
in_any p f (x ∷ xs) a (inl s) h = left_or (p (x, f x)) (list_any p (map (λ b. (b, f b)) xs)) (subst (λ (b : ℕ). IsTrue (p (b, f b))) s h)
in_any p f (x ∷ xs) a (inr m) h = right_or (p (x, f x)) (list_any p (map (λ b. (b, f b)) xs)) (in_any p f xs a m h)

-- the clusters among the marks of numbers
clusters_are : (f : ℕ → Mark) (xs : List ℕ) → clusters_of (map (λ a. (a, f a)) xs) ≡ filter (λ a. names_cluster (a, f a)) xs
clusters_are f [] = refl
clusters_are f (x ∷ xs) =
    elim (names_cluster (x, f x)) as (λ b. map (λ (m : ℕ × Mark). m.0) (cond b ((x, f x) ∷ filter names_cluster (map (λ a. (a, f a)) xs)) (filter names_cluster (map (λ a. (a, f a)) xs)))
    ≡ cond b (x ∷ filter (λ a. names_cluster (a, f a)) xs) (filter (λ a. names_cluster (a, f a)) xs)) [
      | true ↦ ap (λ (ys : List ℕ). x ∷ ys) (clusters_are f xs)
      | false ↦ clusters_are f xs
    ]

equal_of : (a b : ℕ) → IsTrue (nat_eq a b) → a ≡ b
equal_of a b h = elim (eqb_tells a b) [ inl t ↦ t.1 | inr f ↦ let bad : false ≡ true = sym f.0 ∙ h in absurd (cc) ]

of_equal : (a b : ℕ) → a ≡ b → IsTrue (nat_eq a b)
of_equal a b e = elim (eqb_tells a b) [ inl t ↦ t.0 | inr f ↦ absurd (f.1 e) ]

-- what the mark of a number says
outer_no_core : (d : Density) (es : Entries) (o : Option ℕ) → is_core_mark (outer_mark d es o) ≡ false
outer_no_core d es None = refl
outer_no_core d es (Some b) = refl

outer_not_of : (d : Density) (es : Entries) (l : ℕ) (o : Option ℕ) → is_core_of l (outer_mark d es o) ≡ false
outer_not_of d es l None = refl
outer_not_of d es l (Some b) = refl

outer_no_name : (d : Density) (es : Entries) (a : ℕ) (o : Option ℕ) → names_cluster (a, outer_mark d es o) ≡ false
outer_no_name d es a None = refl
outer_no_name d es a (Some b) = refl

module _ (d : Density) (es : Entries) where
  mark_is_core : (a : ℕ) → is_core_mark (mark_of d es a) ≡ is_core d es a
  mark_is_core a = elim (cases_Bool (is_core d es a)) [
    | inl h ↦ ap is_core_mark (core_mark d es a h) ∙ sym h
    | inr h ↦ ap is_core_mark (other_mark d es a h) ∙ outer_no_core d es (anchor_of d es a) ∙ sym h
  ]

  -- a core of the cluster with this label
  core_of : (l a : ℕ) → IsTrue (is_core_of l (mark_of d es a)) → IsTrue (is_core d es a) × (cluster_of d es a ≡ l)
  core_of l a t = elim (cases_Bool (is_core d es a)) [
    | inl h ↦ (h, equal_of (cluster_of d es a) l (sym (ap (is_core_of l) (core_mark d es a h)) ∙ t))
    | inr h ↦ let bad : false ≡ true = sym (ap (is_core_of l) (other_mark d es a h) ∙ outer_not_of d es l (anchor_of d es a)) ∙ t in absurd (cc)
  ]

  of_core : (l a : ℕ) → IsTrue (is_core d es a) → cluster_of d es a ≡ l → IsTrue (is_core_of l (mark_of d es a))
  of_core l a h e = ap (is_core_of l) (core_mark d es a h) ∙ of_equal (cluster_of d es a) l e

  member_of : (l a : ℕ) → IsTrue (is_core d es a) → IsTrue (is_member_of l (mark_of d es a)) → cluster_of d es a ≡ l
  member_of l a h t = equal_of (cluster_of d es a) l (sym (ap (is_member_of l) (core_mark d es a h)) ∙ t)

  of_member : (l a : ℕ) → IsTrue (is_core d es a) → cluster_of d es a ≡ l → IsTrue (is_member_of l (mark_of d es a))
  of_member l a h e = ap (is_member_of l) (core_mark d es a h) ∙ of_equal (cluster_of d es a) l e

  -- a label is a core that is its own label
  cluster_in : (l : ℕ) → Member l (clusters_of (marks_of d es)) → IsTrue (is_core d es l) × (cluster_of d es l ≡ l)
  cluster_in l m =
      let t = (passes_in (λ a. names_cluster (a, mark_of d es a)) (numbers_of es) l (subst (Member l) (clusters_are (mark_of d es) (numbers_of es)) m)).passes in
      elim (cases_Bool (is_core d es l)) [
        | inl h ↦ (h, sym (equal_of l (cluster_of d es l) (sym (ap (λ (k : Mark). names_cluster (l, k)) (core_mark d es l h)) ∙ t)))
        | inr h ↦ let bad : false ≡ true = sym (ap (λ (k : Mark). names_cluster (l, k)) (other_mark d es l h) ∙ outer_no_name d es l (anchor_of d es l)) ∙ t in absurd (cc)
      ]

  number_in : (a : ℕ) → IsTrue (is_core d es a) → Member a (numbers_of es)
  number_in a h = among es a (first_of_both _ _ h)

  in_cluster_list : (l : ℕ) → IsTrue (is_core d es l) → cluster_of d es l ≡ l → Member l (clusters_of (marks_of d es))
  in_cluster_list l h e =
      let t = ap (λ (k : Mark). names_cluster (l, k)) (core_mark d es l h) ∙ of_equal l (cluster_of d es l) (sym e) in
      subst (Member l) (sym (clusters_are (mark_of d es) (numbers_of es))) (member_filter (λ a. names_cluster (a, mark_of d es a)) (numbers_of es) l (number_in l h) t)

  clusters_rise : T (is_sorted nat_cmp es) → Rises (clusters_of (marks_of d es))
  clusters_rise sorted = subst Rises (sym (clusters_are (mark_of d es) (numbers_of es))) (rises_filter (λ a. names_cluster (a, mark_of d es a)) (numbers_of es) (rises_sorted es sorted))

module _ (d : Density) (es fs : Entries) where
  -- the clusters of the one list that have a core which is none in the other
  alone : (a : ℕ) → is_core_here_alone (marks_of d fs) (a, mark_of d es a) ≡ (is_core d es a && not (is_core d fs a))
  alone a =
      ap (λ b. b && not (is_core_mark (mark_in (marks_of d fs) a))) (mark_is_core d es a)
      ∙ ap (λ (k : Mark). is_core d es a && not (is_core_mark k)) (mark_in_marks d fs a)
      ∙ ap (λ b. is_core d es a && not b) (mark_is_core d fs a)

  not_true : (b : Bool) → IsTrue (not b) → b ≡ false
  not_true true h = absurd (cc)
  not_true false h = refl

  is_alone : (a : ℕ) → IsTrue (is_core d es a) → is_core d fs a ≡ false → IsTrue (is_core_here_alone (marks_of d fs) (a, mark_of d es a))
  is_alone a h off = alone a ∙ both (is_core d es a) (not (is_core d fs a)) h (ap not off)

  alone_is : (a : ℕ) → IsTrue (is_core_here_alone (marks_of d fs) (a, mark_of d es a)) → is_core d fs a ≡ false
  alone_is a t = not_true (is_core d fs a) (second_of_both (is_core d es a) (not (is_core d fs a)) (sym (alone a) ∙ t))

  changed_in : (l : ℕ) → Member l (changed_clusters (marks_of d es) (marks_of d fs))
      → (a : ℕ) × (IsTrue (is_core d es a) × ((cluster_of d es a ≡ l) × (is_core d fs a ≡ false)))
  changed_in l m =
      let p = passes_in (λ k. list_any (λ (m : ℕ × Mark). is_core_of k m.1 && is_core_here_alone (marks_of d fs) m) (marks_of d es)) (clusters_of (marks_of d es)) l m in
      let r = any_in (λ (m : ℕ × Mark). is_core_of l m.1 && is_core_here_alone (marks_of d fs) m) (mark_of d es) (numbers_of es) p.passes in
      let c = core_of d es l r.0 (first_of_both (is_core_of l (mark_of d es r.0)) (is_core_here_alone (marks_of d fs) (r.0, mark_of d es r.0)) r.1.1) in
      let off = alone_is r.0 (second_of_both (is_core_of l (mark_of d es r.0)) (is_core_here_alone (marks_of d fs) (r.0, mark_of d es r.0)) r.1.1) in
      (r.0, (c.0, (c.1, off)))

  in_changed : (l a : ℕ) → IsTrue (is_core d es l) → cluster_of d es l ≡ l → IsTrue (is_core d es a) → cluster_of d es a ≡ l → is_core d fs a ≡ false
      → Member l (changed_clusters (marks_of d es) (marks_of d fs))
  in_changed l a hl el ha ea off =
      member_filter (λ k. list_any (λ (m : ℕ × Mark). is_core_of k m.1 && is_core_here_alone (marks_of d fs) m) (marks_of d es)) (clusters_of (marks_of d es)) l (in_cluster_list d es l hl el)
      (in_any (λ (m : ℕ × Mark). is_core_of l m.1 && is_core_here_alone (marks_of d fs) m) (mark_of d es) (numbers_of es) a (number_in d es a ha)
      (both (is_core_of l (mark_of d es a)) (is_core_here_alone (marks_of d fs) (a, mark_of d es a)) (of_core d es l a ha ea) (is_alone a ha off)))

  changed_rise : T (is_sorted nat_cmp es) → Rises (changed_clusters (marks_of d es) (marks_of d fs))
  changed_rise sorted =
      rises_filter (λ k. list_any (λ (m : ℕ × Mark). is_core_of k m.1 && is_core_here_alone (marks_of d fs) m) (marks_of d es)) (clusters_of (marks_of d es)) (clusters_rise d es sorted)

  -- the labels that members of a cluster have across
  across_in : (l k : ℕ) → Member k (labels_across (marks_of d es) (marks_of d fs) l)
      → (a : ℕ) × (IsTrue (is_core d fs a) × ((cluster_of d fs a ≡ k) × IsTrue (is_member_of l (mark_of d es a))))
  across_in l k m =
      let p = passes_in (λ k. list_any (λ (m : ℕ × Mark). is_member_of l m.1 && is_core_of k (mark_in (marks_of d fs) m.0)) (marks_of d es)) (clusters_of (marks_of d fs)) k m in
      let r = any_in (λ (m : ℕ × Mark). is_member_of l m.1 && is_core_of k (mark_in (marks_of d fs) m.0)) (mark_of d es) (numbers_of es) p.passes in
      let t = first_of_both (is_member_of l (mark_of d es r.0)) (is_core_of k (mark_in (marks_of d fs) r.0)) r.1.1 in
      let s = second_of_both (is_member_of l (mark_of d es r.0)) (is_core_of k (mark_in (marks_of d fs) r.0)) r.1.1 in
      let c = core_of d fs k r.0 (subst (λ (x : Mark). IsTrue (is_core_of k x)) (mark_in_marks d fs r.0) s) in
      (r.0, (c.0, (c.1, t)))

  in_across : (l k a : ℕ) → IsTrue (is_core d fs k) → cluster_of d fs k ≡ k → IsTrue (is_core d fs a) → cluster_of d fs a ≡ k → IsTrue (is_core d es a) → cluster_of d es a ≡ l
      → Member k (labels_across (marks_of d es) (marks_of d fs) l)
  in_across l k a hk ek ha ea ha' ea' =
      member_filter (λ k. list_any (λ (m : ℕ × Mark). is_member_of l m.1 && is_core_of k (mark_in (marks_of d fs) m.0)) (marks_of d es)) (clusters_of (marks_of d fs)) k (in_cluster_list d fs k hk ek)
      (in_any (λ (m : ℕ × Mark). is_member_of l m.1 && is_core_of k (mark_in (marks_of d fs) m.0)) (mark_of d es) (numbers_of es) a (number_in d es a ha')
      (both (is_member_of l (mark_of d es a)) (is_core_of k (mark_in (marks_of d fs) a)) (of_member d es l a ha' ea')
      (subst (λ (x : Mark). IsTrue (is_core_of k x)) (sym (mark_in_marks d fs a)) (of_core d fs k a ha ea))))

  across_rise : T (is_sorted nat_cmp fs) → (l : ℕ) → Rises (labels_across (marks_of d es) (marks_of d fs) l)
  across_rise sorted l =
      rises_filter (λ k. list_any (λ (m : ℕ × Mark). is_member_of l m.1 && is_core_of k (mark_in (marks_of d fs) m.0)) (marks_of d es)) (clusters_of (marks_of d fs)) (clusters_rise d fs sorted)

module _ (d : Density) (before after : Rows) (old new : Labels) (cores : List ℕ) (groups : List InGroup) (alike : (a b : ℕ) → is_near d (map.entries after) a b ≡ is_near d (map.entries after) b a)
    (stood : StoodBefore d before after old cores) (gathered : AreGathered old cores groups) (clusters : AreClusters d (map.entries after) old groups) (least : HasLeast old) (joined : AreAllJoined old groups new) where
  abbrev es : Entries
  es = map.entries before

  abbrev es' : Entries
  es' = map.entries after

  abbrev olds : ℕ → List ℕ
  olds l = labels_across (marks_of d es') (marks_of d es) l

  abbrev changed : List ℕ
  changed = changed_clusters (marks_of d es') (marks_of d es)

  had : (a : ℕ) → IsTrue (is_core d es a) → map.get old a ≡ Some (cluster_of d es a)
  had a h = stood.labels_due a ∙ ap (λ b. if b then Some (cluster_of d es a) else None) h

  was : (a k : ℕ) → map.get old a ≡ Some k → IsTrue (is_core d es a) × (cluster_of d es a ≡ k)
  was a k e = elim (cases_Bool (is_core d es a)) [
    | inl h ↦ (h, same_value (had a h) e)
    | inr h ↦ absurd (no_value (stood.labels_due a ∙ ap (λ b. if b then Some (cluster_of d es a) else None) h) e)
  ]

  -- the old labels of a group are those that its members have across
  module _ (j : ℕ) (g : InGroup) (at : slice_get groups j ≡ Some g) (l : ℕ) (is : IsLabelOf g l) where
    here : (a : ℕ) → IsInGroup old g a → IsTrue (is_core d es' a)
    here a i = is_core_here d before after old new cores groups alike stood gathered clusters least joined j g at a i

    label : (a : ℕ) → IsInGroup old g a → cluster_of d es' a ≡ l
    label a i = cluster_here d before after old new cores groups alike stood gathered clusters least joined j g at a i l is

    label_inside : IsInGroup old g l
    label_inside = label_in old groups cores gathered j g l at is

    across_of : (k : ℕ) → Member k g.old_labels → Member k (olds l)
    across_of k m =
        let i = from_member g.old_labels k m in
        let own = gathered.labels_are k (label_at groups j g k at i) in
        let w = was k k own in
        let inside : IsInGroup old g k = inr (k, (i, own)) in
        in_across d es' es l k k w.0 w.1 w.0 w.1 (here k inside) (label k inside)

    inside_of : (a : ℕ) → IsTrue (is_core d es a) → IsTrue (is_member_of l (mark_of d es' a)) → IsInGroup old g a
    inside_of a h t =
        let h' = stood.within.cores a h in
        let lab : IsLabel (is_core d es') (is_near d es') a l = subst (IsLabel (is_core d es') (is_near d es') a) (member_of d es' l a h' t) (cluster_is d es' (map.entries_sorted after) a h') in
        only_all d before after old new cores groups alike stood gathered clusters least joined j g at l label_inside a (joined_back (is_core d es') (is_near d es') alike a l lab.joined)

    old_of : (k a : ℕ) → IsTrue (is_core d es a) → cluster_of d es a ≡ k → IsInGroup old g a → Member k g.old_labels
    old_of k a h e (inl n) =
        let off = ((stood.new a).0 ((gathered.cores_are a).1 (new_at groups j g a at n))).1 in
        let bad : false ≡ true = sym off ∙ h in
        absurd (cc)
    old_of k a h e (inr f) =
        let s : f.0 ≡ k = sym (same_value (had a h) f.1.1) ∙ e in
        subst (λ (x : ℕ). Member x g.old_labels) s (to_member g.old_labels f.0 f.1.0)

    of_across : (k : ℕ) → Member k (olds l) → Member k g.old_labels
    of_across k m =
        let r = across_in d es' es l k m in
        old_of k r.0 r.1.0 r.1.1.0 (inside_of r.0 r.1.0 r.1.1.1)

    told_across : (e : Event) → Within e (growth l g.old_labels) → Within e (growth l (olds l))
    told_across e w =
        growth_same l g.old_labels (olds l) (once_apart g.old_labels (labels_once old groups cores gathered j g at)) (rises_apart (olds l) (across_rise d es' es (map.entries_sorted before) l))
        (across_of, of_across) e w

    across_told : (e : Event) → Within e (growth l (olds l)) → Within e (growth l g.old_labels)
    across_told e w =
        growth_same l (olds l) g.old_labels (rises_apart (olds l) (across_rise d es' es (map.entries_sorted before) l)) (once_apart g.old_labels (labels_once old groups cores gathered j g at))
        (of_across, across_of) e w

    is_changed : Member l changed
    is_changed =
        let n = new_core d before after old new cores groups alike stood gathered clusters least joined j g at in
        let inside : IsInGroup old g n.0 = inl n.1 in
        let off = ((stood.new n.0).0 ((gathered.cores_are n.0).1 (new_at groups j g n.0 at n.1))).1 in
        in_changed d es' es l n.0 (here l label_inside) (label l label_inside) (here n.0 inside) (label n.0 inside) off

  module _ (told : List Event) (are : AreTold groups told) where
    abbrev due : List Event
    due = flat_map (λ l. growth l (olds l)) changed

    there : (e : Event) → Within e told → Within e due
    there e w =
        let h = (are.exact e).0 (contained_within told e w) in
        of_cluster olds changed h.label e (is_changed h.place h.group h.at h.label h.is_label)
        (told_across h.place h.group h.at h.label h.is_label e (within_contained (growth h.label h.group.old_labels) e h.told))

    told_back : (j : ℕ) (g : InGroup) (at : slice_get groups j ≡ Some g) (a : ℕ) → IsInGroup old g a → (k : ℕ) → IsLabelOf g k
        → (l : ℕ) → cluster_of d es' a ≡ l → (e : Event) → Within e (growth l (olds l)) → Within e told
    told_back j g at a i k is l own e w =
        let is' : IsLabelOf g l = subst (IsLabelOf g) (sym (label j g at k is a i) ∙ own) is in
        within_contained told e ((are.exact e).1 (record {
          place = j;
          group = g;
          at = at;
          label = l;
          is_label = is';
          told = contained_within (growth l g.old_labels) e (across_told j g at l is' e w);
        }))

    back : (e : Event) → Within e due → Within e told
    back e w =
        let c = in_cluster olds changed e w in
        let r = changed_in d es' es c.0 c.1.0 in
        let s = grouped d before after old new cores groups alike stood gathered clusters least joined r.0 r.1.0 r.1.1.1 in
        let k = some_label d before after old new cores groups alike stood gathered clusters least joined s.0 s.1.0 s.1.1.0 r.0 s.1.1.1 in
        told_back s.0 s.1.0 s.1.1.0 r.0 s.1.1.1 k.0 k.1 c.0 r.1.1.0 e c.1.1

    told_due : told ≡ due
    told_due =
        same_events told due (climbs_pairs told are.rising)
        (clusters_climb olds (across_rise d es' es (map.entries_sorted before)) changed (changed_rise d es' es (map.entries_sorted after))) there back

    -- where there is a new core, the events told are those of the insertion
    pub told_is : (n : ℕ) → IsMember cores n → told ≡ insertion_events (marks_of d es) (marks_of d es')
    told_is n m =
        let is = (stood.new n).0 m in
        let any : IsTrue (list_any (is_core_here_alone (marks_of d es)) (marks_of d es')) = in_any (is_core_here_alone (marks_of d es)) (mark_of d es') (numbers_of es') n (number_in d es' n is.0) (is_alone d es' es n is.0 is.1) in
        told_due ∙ sym (ap (λ b. if b then due else event kind.Noise 0 (new_number (marks_of d es') (marks_of d es)) ∷ []) any)
