-- What the marks before and after a deletion say of lost cores, and of cores that stay.
use Rattle.std.proofs.Common.{◌≡◌, ℕ, Bool, true, false, cond, not, ◌&&◌, eqb, List, [], ◌∷◌, map, filter, IsTrue, None, Some, refl, sym, ap, subst, ◌∙◌, inl, inr, arith}
use lib.Dec.{T}
use Rattle.std.specs.declared.option.Option.{Option}
use Rattle.std.specs.List.{list_any}
use Rattle.std.specs.Ordering.{nat_cmp}
use Rattle.std.specs.FinMap.Entries.{is_sorted}
use Rattle.std.proofs.lemmas.Bool.{cases_Bool}
use Rattle.std.proofs.lemmas.Bool.Decides.{nat_tests}
use Rattle.plain_dbscan.specs.declared.marks.Mark.{Mark}
use Rattle.plain_dbscan.specs.declared.marks.Mark.TheVariants.{Border, Noise}
use Rattle.plain_dbscan.specs.Texts.{is_core_mark, names_cluster}
use Rattle.plain_dbscan.specs.Marks.{Density, Entries, numbers_of, is_near, is_core, cluster_of, anchor_of, outer_mark, mark_of, marks_of}
use Rattle.plain_dbscan.specs.Cases.{mark_in, is_core_of, is_member_of, clusters_of, is_core_here_alone, changed_clusters, labels_across}
use Rattle.plain_dbscan.proofs.Chains.{Member, both, first_of_both, second_of_both, either, left_or, right_or, joined_end}
use Rattle.plain_dbscan.proofs.Members.{Rises, rises_filter, PassesIn, passes_in, member_filter}
use Rattle.plain_dbscan.proofs.CoresOf.{rises_sorted, among, core_mark, other_mark, cluster_is, is_cluster}
use Rattle.plain_dbscan.proofs.Lawful.{label_itself}
use Rattle.plain_dbscan.proofs.MarksRise.{mark_in_marks}
use Rattle.delete_case.specs.Deleted.{IsLostOf, IsKeptOf}

-- numbers with their marks: whether one passes a test, and which pass it
module _ (test : ℕ × Mark → Bool) (f : ℕ → Mark) where
  abbrev passing : ℕ → Bool
  passing a = test (a, f a)

  some_passes : (xs : List ℕ) → IsTrue (list_any test (map (λ (a : ℕ). (a, f a)) xs)) → (a : ℕ) × PassesIn passing xs a
  some_passes [] h = absurd (cc)
  some_passes (x ∷ xs) h = elim (either (passing x) _ h) [
    | inl here ↦ (x, record { member = inl refl; passes = here })
    | inr later ↦ let r = some_passes xs later in (r.0, record { member = inr r.1.member; passes = r.1.passes })
  ]

  passes_some : (xs : List ℕ) (a : ℕ) → Member a xs → IsTrue (passing a) → IsTrue (list_any test (map (λ (b : ℕ). (b, f b)) xs))
  passes_some [] a m h = absurd m
  passes_some (x ∷ xs) a (inl same) h = left_or (passing x) _ (subst (λ (b : ℕ). IsTrue (passing b)) same h)
  passes_some (x ∷ xs) a (inr m) h = right_or (passing x) _ (passes_some xs a m h)

  numbers_passing : (xs : List ℕ) → map (λ (m : ℕ × Mark). m.0) (filter test (map (λ (a : ℕ). (a, f a)) xs)) ≡ filter passing xs
  numbers_passing [] = refl
  numbers_passing (x ∷ xs) =
      let rest = filter test (map (λ (a : ℕ). (a, f a)) xs) in
      elim (passing x) as (λ b. map (λ (m : ℕ × Mark). m.0) (cond b ((x, f x) ∷ rest) rest) ≡ cond b (x ∷ filter passing xs) (filter passing xs)) [
        | true ↦ ap (λ (ys : List ℕ). x ∷ ys) (numbers_passing xs)
        | false ↦ numbers_passing xs
      ]

equal_of : (k l : ℕ) → IsTrue (eqb k l) → k ≡ l
equal_of k l h = grind (arith, nat_tests)

of_equal : (k l : ℕ) → k ≡ l → IsTrue (eqb k l)
of_equal k l e = grind (arith, nat_tests)

module _ (d : Density) (es : Entries) where
  -- a test of marks that no border and no noise passes
  cores_alone : (test : Mark → Bool) → ((l : ℕ) → test (Border l) ≡ false) → test Noise ≡ false → (a : ℕ) → is_core d es a ≡ false → test (mark_of d es a) ≡ false
  cores_alone test border noise a off = ap test (other_mark d es a off) ∙ outer (anchor_of d es a)
    where
      outer : (o : Option ℕ) → test (outer_mark d es o) ≡ false
      outer None = noise
      outer (Some b) = border (cluster_of d es b)

  -- a core of the cluster of this label
  core_of : (l a : ℕ) → IsTrue (is_core_of l (mark_of d es a)) → IsTrue (is_core d es a) × (cluster_of d es a ≡ l)
  core_of l a t = elim (cases_Bool (is_core d es a)) [
    | inl h ↦ (h, equal_of (cluster_of d es a) l (sym (ap (is_core_of l) (core_mark d es a h)) ∙ t))
    | inr off ↦ let bad : false ≡ true = sym (cores_alone (is_core_of l) (λ k. refl) refl a off) ∙ t in absurd (cc)
  ]

  of_core : (l a : ℕ) → IsTrue (is_core d es a) → cluster_of d es a ≡ l → IsTrue (is_core_of l (mark_of d es a))
  of_core l a h e = ap (is_core_of l) (core_mark d es a h) ∙ of_equal (cluster_of d es a) l e

  member_number : (a : ℕ) → IsTrue (is_core d es a) → Member a (numbers_of es)
  member_number a h = among es a (first_of_both _ _ h)

  module _ (sorted : T (is_sorted nat_cmp es)) where
    clusters_rise : Rises (clusters_of (marks_of d es))
    clusters_rise =
        subst Rises (sym (numbers_passing names_cluster (mark_of d es) (numbers_of es)))
        (rises_filter (passing names_cluster (mark_of d es)) (numbers_of es) (rises_sorted es sorted))

    -- the label of a core is that of a cluster
    label_listed : (a l : ℕ) → IsTrue (is_core d es a) → cluster_of d es a ≡ l → Member l (clusters_of (marks_of d es))
    label_listed a l h e =
        let label = label_itself (is_core d es) (is_near d es) a (cluster_of d es a) (cluster_is d es sorted a h) in
        subst (λ (k : ℕ). Member k (clusters_of (marks_of d es))) e (own (cluster_of d es a) (joined_end (is_core d es) (is_near d es) _ _ label.joined) (is_cluster d es sorted _ _ label))
      where
        own : (k : ℕ) → IsTrue (is_core d es k) → cluster_of d es k ≡ k → Member k (clusters_of (marks_of d es))
        own k core itself =
            let named = ap (λ (m : Mark). names_cluster (k, m)) (core_mark d es k core) ∙ of_equal k (cluster_of d es k) (sym itself) in
            subst (Member k) (sym (numbers_passing names_cluster (mark_of d es) (numbers_of es)))
            (member_filter (passing names_cluster (mark_of d es)) (numbers_of es) k (member_number k core) named)

module _ (d : Density) (before after : Entries) (stay : (a : ℕ) → IsTrue (is_core d after a) → IsTrue (is_core d before a)) where
  abbrev lost_test : ℕ → ℕ × Mark → Bool
  lost_test l m = is_core_of l m.1 && is_core_here_alone (marks_of d after) m

  abbrev kept_test : ℕ → ℕ → ℕ × Mark → Bool
  kept_test l k m = is_member_of l m.1 && is_core_of k (mark_in (marks_of d after) m.0)

  core_across : (a : ℕ) → IsTrue (is_core d after a) → IsTrue (is_core_mark (mark_in (marks_of d after) a))
  core_across a h = ap is_core_mark (mark_in_marks d after a ∙ core_mark d after a h)

  none_across : (a : ℕ) → is_core d after a ≡ false → is_core_mark (mark_in (marks_of d after) a) ≡ false
  none_across a off = ap is_core_mark (mark_in_marks d after a) ∙ cores_alone d after is_core_mark (λ k. refl) refl a off

  -- by the marks a lost core is one
  lost_core : (l b : ℕ) → IsTrue (lost_test l (b, mark_of d before b)) → IsLostOf d before after l b
  lost_core l b t =
      let here = mark_of d before b in
      let there = is_core_mark (mark_in (marks_of d after) b) in
      let core = core_of d before l b (first_of_both (is_core_of l here) (is_core_here_alone (marks_of d after) (b, here)) t) in
      let apart = second_of_both (is_core_mark here) (not there) (second_of_both (is_core_of l here) (is_core_here_alone (marks_of d after) (b, here)) t) in
      record {
        was_core = core.0;
        no_core = elim (cases_Bool (is_core d after b)) [
          | inl h ↦ let bad : false ≡ true = sym (ap not (core_across b h)) ∙ apart in absurd (cc)
          | inr off ↦ off
        ];
        label = core.1;
      }

  core_lost : (l b : ℕ) → IsLostOf d before after l b → IsTrue (lost_test l (b, mark_of d before b))
  core_lost l b lost =
      let here = mark_of d before b in
      both (is_core_of l here) (is_core_here_alone (marks_of d after) (b, here)) (of_core d before l b lost.was_core lost.label)
      (both (is_core_mark here) (not (is_core_mark (mark_in (marks_of d after) b))) (ap is_core_mark (core_mark d before b lost.was_core)) (ap not (none_across b lost.no_core)))

  -- and so is a core that stays
  kept_core : (l k a : ℕ) → IsTrue (kept_test l k (a, mark_of d before a)) → IsKeptOf d before after l a × (cluster_of d after a ≡ k)
  kept_core l k a t =
      let here = mark_of d before a in
      let there = mark_in (marks_of d after) a in
      let now = core_of d after k a (subst (λ (m : Mark). IsTrue (is_core_of k m)) (mark_in_marks d after a) (second_of_both (is_member_of l here) (is_core_of k there) t)) in
      let was = stay a now.0 in
      let of = sym (ap (is_member_of l) (core_mark d before a was)) ∙ first_of_both (is_member_of l here) (is_core_of k there) t in
      (record { was_core = was; is_core = now.0; label = equal_of (cluster_of d before a) l of }, now.1)

  core_kept : (l k a : ℕ) → IsKeptOf d before after l a → cluster_of d after a ≡ k → IsTrue (kept_test l k (a, mark_of d before a))
  core_kept l k a kept e =
      both (is_member_of l (mark_of d before a)) (is_core_of k (mark_in (marks_of d after) a))
      (ap (is_member_of l) (core_mark d before a kept.was_core) ∙ of_equal (cluster_of d before a) l kept.label)
      (subst (λ (m : Mark). IsTrue (is_core_of k m)) (sym (mark_in_marks d after a)) (of_core d after k a kept.is_core e))

  -- the clusters that changed are those that lost a core
  pub changed_lost : (l : ℕ) → Member l (changed_clusters (marks_of d before) (marks_of d after)) → (b : ℕ) × IsLostOf d before after l b
  changed_lost l m =
      let passes = (passes_in (λ k. list_any (lost_test k) (marks_of d before)) (clusters_of (marks_of d before)) l m).passes in
      let one = some_passes (lost_test l) (mark_of d before) (numbers_of before) passes in
      (one.0, lost_core l one.0 one.1.passes)

  -- the labels across are those that the cores of a cluster which stay have after
  pub across_kept : (l k : ℕ) → Member k (labels_across (marks_of d before) (marks_of d after) l) → (a : ℕ) × (IsKeptOf d before after l a × (cluster_of d after a ≡ k))
  across_kept l k m =
      let passes = (passes_in (λ j. list_any (kept_test l j) (marks_of d before)) (clusters_of (marks_of d after)) k m).passes in
      let one = some_passes (kept_test l k) (mark_of d before) (numbers_of before) passes in
      (one.0, kept_core l k one.0 one.1.passes)

  module _ (sorted : T (is_sorted nat_cmp before)) where
    pub lost_changed : (l b : ℕ) → IsLostOf d before after l b → Member l (changed_clusters (marks_of d before) (marks_of d after))
    lost_changed l b lost =
        member_filter (λ k. list_any (lost_test k) (marks_of d before)) (clusters_of (marks_of d before)) l (label_listed d before sorted b l lost.was_core lost.label)
        (passes_some (lost_test l) (mark_of d before) (numbers_of before) b (member_number d before b lost.was_core) (core_lost l b lost))

    pub changed_rise : Rises (changed_clusters (marks_of d before) (marks_of d after))
    changed_rise = rises_filter (λ k. list_any (lost_test k) (marks_of d before)) (clusters_of (marks_of d before)) (clusters_rise d before sorted)

  module _ (sorted : T (is_sorted nat_cmp after)) where
    pub kept_across : (l k a : ℕ) → IsKeptOf d before after l a → cluster_of d after a ≡ k → Member k (labels_across (marks_of d before) (marks_of d after) l)
    kept_across l k a kept e =
        member_filter (λ j. list_any (kept_test l j) (marks_of d before)) (clusters_of (marks_of d after)) k (label_listed d after sorted a k kept.is_core e)
        (passes_some (kept_test l k) (mark_of d before) (numbers_of before) a (member_number d before a kept.was_core) (core_kept l k a kept e))

    pub across_rise : (l : ℕ) → Rises (labels_across (marks_of d before) (marks_of d after) l)
    across_rise l = rises_filter (λ j. list_any (kept_test l j) (marks_of d before)) (clusters_of (marks_of d after)) (clusters_rise d after sorted)
