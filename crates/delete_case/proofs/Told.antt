-- The events that were told are those of the deletion, by the marks before it and after it.
use Rattle.std.proofs.Common.{◌≡◌, ℕ, zero, suc, ◌<◌, List, [], ◌∷◌, ◌++◌, map, refl, sym, ap, subst, ◌∙◌, Some, inl, inr, slice_get, IsTrue, arith}
use lib.Dec.{T}
use Rattle.std.specs.Prelude.{AllPairs}
use Rattle.std.specs.List.{flat_map}
use Rattle.std.specs.Ordering.{nat_cmp}
use Rattle.std.specs.FinMap.Entries.{is_sorted}
use Rattle.std.proofs.lemmas.List.Kept.{AllPairs-from_increasing}
use Rattle.vec_record.specs.declared.event.Event.{Event}
use Rattle.plain_dbscan.specs.Marks.{Density, Entries, is_near, is_core, marks_of}
use Rattle.plain_dbscan.specs.Cases.{decline, changed_clusters, labels_across, deletion_events}
use Rattle.plain_dbscan.proofs.Chains.{Member}
use Rattle.plain_dbscan.proofs.Members.{Rises, place_of}
use Rattle.label_book.specs.Labels.{Labels}
use Rattle.label_book.proofs.Views.{same_value, no_value}
use Rattle.update_seed.specs.declared.former.Former.{Former}
use Rattle.update_seed.specs.Books.{AreLabelsDue}
use Rattle.update_seed.proofs.Lists.{to_member, from_member}
use Rattle.delete_case.specs.Parting.{AreRisen, AreTold}
use Rattle.delete_case.proofs.Across.{changed_lost, lost_changed, changed_rise, across_kept, kept_across, across_rise}
use Rattle.delete_case.proofs.Labelled.{due_core, was_core, was_cluster}
use Rattle.delete_case.proofs.Remaining.{AreFormerOf}

-- two lists that rise and have the same members are equal
same_rising : (xs ys : List ℕ) → Rises xs → Rises ys → ((x : ℕ) → Member x xs → Member x ys) → ((y : ℕ) → Member y ys → Member y xs) → xs ≡ ys
same_rising [] [] a b there back = refl
same_rising [] (y ∷ ys) a b there back = absurd (back y (inl refl))
same_rising (x ∷ xs) [] a b there back = absurd (there x (inl refl))
same_rising (x ∷ xs) (y ∷ ys) a b there back = ap (λ (z : ℕ). z ∷ xs) one ∙ ap (λ (zs : List ℕ). y ∷ zs) (same_rising xs ys a.1 b.1 later sooner)
  where
    one : x ≡ y
    one = elim (there x (inl refl)) [
      | inl s ↦ s
      | inr m ↦ elim (back y (inl refl)) [ inl s ↦ sym s | inr n ↦ absurd (omega (arith, a.0 y n, b.0 x m)) ]
    ]

    later : (z : ℕ) → Member z xs → Member z ys
    later z m = elim (there z (inr m)) [ inl s ↦ absurd (omega (arith, s, one, a.0 z m)) | inr n ↦ n ]

    sooner : (z : ℕ) → Member z ys → Member z xs
    sooner z m = elim (back z (inr m)) [ inl s ↦ absurd (omega (arith, s, one, b.0 z m)) | inr n ↦ n ]

pairs_rise : (xs : List ℕ) → AllPairs (λ (x y : ℕ). x < y) xs → Rises xs
pairs_rise [] h = tt
pairs_rise (x ∷ xs) h = (
  λ y m.
      let p = place_of xs y m in
      subst (λ (z : ℕ). x < z) p.1.is (h 0 (suc p.0) 0 (omega arith) (omega (arith, p.1.below))),
  pairs_rise xs (λ i j z lt short. h (suc i) (suc j) z (omega (arith, lt)) (omega (arith, short))),
)

-- the labels of a list of former clusters
abbrev pub labels_in : List Former → List ℕ
labels_in list = map (λ (f : Former). f.label) list

to_label : (list : List Former) (j : ℕ) (f : Former) → slice_get list j ≡ Some f → Member f.label (labels_in list)
to_label [] j f e = absurd (no_value refl e)
to_label (g ∷ list) zero f e = inl (ap (λ (x : Former). x.label) (sym (same_value refl e)))
to_label (g ∷ list) (suc j) f e = inr (to_label list j f e)

from_label : (list : List Former) (l : ℕ) → Member l (labels_in list) → (j : ℕ) × (f : Former) × (slice_get list j ≡ Some f) × (f.label ≡ l)
from_label [] l m = absurd m
from_label (g ∷ list) l (inl e) = (0, g, refl, sym e)
from_label (g ∷ list) l (inr m) = let r = from_label list l m in (suc r.0, r.1, r.2, r.3)

labels_rise : (list : List Former) → ((i j : ℕ) (f g : Former) → i < j → slice_get list i ≡ Some f → slice_get list j ≡ Some g → f.label < g.label) → Rises (labels_in list)
labels_rise [] rising = tt
labels_rise (f ∷ list) rising = (
  λ l m. let r = from_label list l m in subst (λ (n : ℕ). f.label < n) r.3 (rising 0 (suc r.0) f r.1 (omega arith) refl r.2),
  labels_rise list (λ i j g h lt. rising (suc i) (suc j) g h (omega (arith, lt))),
)

module _ (d : Density) (before after : Entries) (sorted : T (is_sorted nat_cmp before)) (sorted' : T (is_sorted nat_cmp after)) (stay : (a : ℕ) → IsTrue (is_core d after a) → IsTrue (is_core d before a))
    (labels labels' : Labels) (due : AreLabelsDue d before labels) (due' : AreLabelsDue d after labels') where
  abbrev across : ℕ → List ℕ
  across l = labels_across (marks_of d before) (marks_of d after) l

  abbrev changed : List ℕ
  changed = changed_clusters (marks_of d before) (marks_of d after)

  -- the labels that the members of a former cluster have now are those across
  risen_are : (l : ℕ) (ks : List ℕ) → AreRisen labels l labels' ks → ks ≡ across l
  risen_are l ks risen = same_rising ks (across l) (pairs_rise ks (AllPairs-from_increasing ks risen.rising)) (across_rise d before after stay sorted' l) there back
    where
      there : (k : ℕ) → Member k ks → Member k (across l)
      there k m =
          let h = risen.are.each k (from_member ks k m) in
          kept_across d before after stay sorted' l k h.0
          (record { was_core = was_core d before labels due h.0 l h.1.was; is_core = was_core d after labels' due' h.0 k h.1.is; label = was_cluster d before labels due h.0 l h.1.was })
          (was_cluster d after labels' due' h.0 k h.1.is)

      back : (k : ℕ) → Member k (across l) → Member k ks
      back k m =
          let h = across_kept d before after stay l k m in
          to_member ks k (risen.are.all k h.0 (record {
            was = due_core d before labels due h.0 h.1.0.was_core ∙ ap (λ n. Some n) h.1.0.label;
            is = due_core d after labels' due' h.0 h.1.0.is_core ∙ ap (λ n. Some n) h.1.1;
          }))

  declines_are : (list : List Former) (told : List Event) → AreTold labels list labels' told → told ≡ flat_map (λ l. decline l (across l)) (labels_in list)
  declines_are [] told t = t
  declines_are (f ∷ list) told t =
      t.3
      ∙ ap (λ (ks : List ℕ). decline f.label ks ++ t.1) (risen_are f.label t.0 t.2)
      ∙ ap (λ (es : List Event). decline f.label (across f.label) ++ es) (declines_are list t.1 t.4)

  module _ (list : List Former) (former : AreFormerOf (is_core d before) (is_core d after) (is_near d before) labels list)
      (rising : (i j : ℕ) (f g : Former) → i < j → slice_get list i ≡ Some f → slice_get list j ≡ Some g → f.label < g.label) where
    -- the labels of the former clusters are those of the clusters that changed
    labels_are : labels_in list ≡ changed
    labels_are = same_rising (labels_in list) changed (labels_rise list rising) (changed_rise d before after stay sorted) there back
      where
        there : (l : ℕ) → Member l (labels_in list) → Member l changed
        there l m =
            let f = from_label list l m in
            let is = former.each f.0 f.1 f.2 in
            lost_changed d before after stay sorted l is.one
            (record { was_core = is.lost.was; no_core = is.lost.out; label = was_cluster d before labels due is.one f.1.label is.lost.label ∙ f.3 })

        back : (l : ℕ) → Member l changed → Member l (labels_in list)
        back l m =
            let lost = changed_lost d before after stay l m in
            let b = lost.0 in
            let f = former.all b lost.1.was_core lost.1.no_core in
            let of = ((former.each f.0 f.1 f.2).lost_are b).0 f.3 in
            let same : f.1.label ≡ l = sym (was_cluster d before labels due b f.1.label of.label) ∙ lost.1.label in
            subst (λ (n : ℕ). Member n (labels_in list)) same (to_label list f.0 f.1 f.2)

    pub told_due : (told : List Event) → AreTold labels list labels' told → told ≡ deletion_events (marks_of d before) (marks_of d after)
    told_due told t = declines_are list told t ∙ ap (flat_map (λ l. decline l (across l))) labels_are
