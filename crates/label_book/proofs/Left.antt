-- The labels after a core left its cluster.
use Rattle.std.proofs.Common.{◌≡◌, ◌≢◌, ℕ, ◌≤◌, [], refl, sym, ap, subst, ◌∙◌, None, Some, IsSome, IsSomeAnd, is_some, inl, inr, slice_get}
use Rattle.std.proofs.lemmas.Bool.{cases_eq}
use Rattle.std.specs.declared.option.Option.{Option}
use Rattle.std.specs.Option.{option_map}
use Rattle.std.specs.FinMap as map
use Rattle.slab.specs.Slab as slab
use Rattle.label_book.specs.declared.cluster.Place.{Place}
use Rattle.label_book.specs.declared.cluster.Cluster.{Cluster}
use Rattle.label_book.specs.Labels.{IsMember, IsLeastOf}
use Rattle.label_book.specs.inside.Kept.{Places, Clusters, Kept, labels_of, label_or, label_at}
use Rattle.label_book.specs.inside.Steps.{IsTakenOut, IsShorter, IsSettled, IsHeadless, cluster_of}
use Rattle.label_book.proofs.Views.{same_value, no_value, some_and, known, get_label, labels_same, labelled_at, unlabelled, member_labelled, holds_all}
use Rattle.label_book.proofs.Added.{some_is, lent}
use Rattle.label_book.proofs.Taken.{some_there, removed_same, removed_other}

through : (cs : Clusters) (o : Option Place) → option_map (label_at cs) o ≡ option_map (λ h. label_or (slab.get cs h)) (cluster_of o)
through cs None = refl
through cs (Some p) = refl

alike : (cs ds : Clusters) → ((h : ℕ) → label_or (slab.get ds h) ≡ label_or (slab.get cs h)) → (o : Option ℕ) → option_map (λ h. label_or (slab.get ds h)) o ≡ option_map (λ h. label_or (slab.get cs h)) o
alike cs ds f None = refl
alike cs ds f (Some h) = ap (λ n. Some n) (f h)

module _ (ps qs : Places) (cs ds : Clusters) (core key : ℕ) (k : Kept ps cs) (t : IsTakenOut ps cs core key qs ds) where
  -- the cluster before and after, and the place of the core
  first : (c : Cluster) × (slab.get cs key ≡ Some c) × IsSomeAnd (slab.get ds key) (IsShorter core c)
  first = some_and (slab.get cs key) _ t.cluster

  second : (d : Cluster) × (slab.get ds key ≡ Some d) × IsShorter core first.0 d
  second = some_and (slab.get ds key) _ first.2

  stood : (p : Place) × (map.get ps core ≡ Some p) × (p.cluster ≡ key)
  stood = elim (known (map.get ps core)) [
    | inl none ↦ absurd (no_value (ap cluster_of none) t.was)
    | inr p ↦ (p.0, p.1, same_value (ap cluster_of p.1) t.was)
  ]

  core_label : map.get (labels_of ps cs) core ≡ Some first.0.label
  core_label = labelled_at ps cs core stood.0 first.0 stood.1 (ap (slab.get cs) stood.2 ∙ first.1)

  label_in : (q : ℕ) → IsMember first.0.members q → map.get (labels_of ps cs) q ≡ Some first.0.label
  label_in q m = member_labelled ps cs k key first.0 first.1 q m

  labels_alike : (h : ℕ) → label_or (slab.get ds h) ≡ label_or (slab.get cs h)
  labels_alike h = elim (cases_eq h key) [
    | inl s ↦ ap (λ n. label_or (slab.get ds n)) s ∙ (ap label_or second.1 ∙ (second.2.label_is ∙ (ap label_or (sym first.1) ∙ sym (ap (λ n. label_or (slab.get cs n)) s))))
    | inr ne ↦ ap label_or (t.others h ne)
  ]

  pub taken_label : (q : ℕ) → q ≢ core → map.get (labels_of qs ds) q ≡ map.get (labels_of ps cs) q
  taken_label q ne =
      get_label qs ds q
      ∙ (through ds (map.get qs q) ∙ (ap (option_map (λ h. label_or (slab.get ds h))) (t.places q ne)
      ∙ (alike cs ds labels_alike (cluster_of (map.get ps q)) ∙ (sym (through cs (map.get ps q)) ∙ sym (get_label ps cs q)))))

  pub member_kept : ((map.get (labels_of ps cs) core ≡ Some core) → ⊥) → Kept qs ds
  member_kept other = record {
    placed = t.placed.placed;
    listed = t.placed.listed;
    least = λ h x e. elim (cases_eq h key) [
      | inl s ↦
          let was = k.least key first.0 first.1 in
          let still = second.2 in
          let ne : first.0.label ≢ core = λ f. other (core_label ∙ ap (λ n. Some n) f) in
          let least : IsLeastOf second.0.label second.0.members = (
            subst (IsMember second.0.members) (sym still.label_is) (still.kept first.0.label ne was.0),
            λ i q m. let in_first = still.fewer q (i, m) in subst (λ n. n ≤ q) (sym still.label_is) (was.1 in_first.1.0 q in_first.1.1),
          ) in
          subst (λ (y : Cluster). IsLeastOf y.label y.members) (same_value second.1 (subst (λ n. slab.get ds n ≡ Some x) s e)) least
      | inr ne ↦ k.least h x (sym (t.others h ne) ∙ e)
    ];
  }

  pub member_labels : labels_of qs ds ≡ map.remove (labels_of ps cs) core
  member_labels = labels_same _ _ (λ q. elim (cases_eq q core) [
    | inl s ↦
        subst (λ n. map.get (labels_of qs ds) n ≡ map.get (map.remove (labels_of ps cs) core) n) (sym s)
        (unlabelled qs ds core t.absent ∙ sym (removed_same (labels_of ps cs) core))
    | inr ne ↦ taken_label q ne ∙ sym (removed_other (labels_of ps cs) core q ne)
  ])

  module _ (label : ℕ) (to : Option ℕ) (es : Clusters) (own : core ≡ label) (is : map.get (labels_of ps cs) label ≡ Some label) (e : IsSettled ds key to es) where
    its : first.0.label ≡ label
    its = same_value core_label (ap (map.get (labels_of ps cs)) own ∙ is)

    -- a cluster under the key has the members that were left, and the new label
    settled_at : (x : Cluster) → slab.get es key ≡ Some x → (x.members ≡ second.0.members) × (IsLeastOf x.label x.members × (to ≡ Some x.label))
    settled_at x f = elim (known to) [
      | inl none ↦ absurd (no_value (e.none second.0 second.1 none).1 f)
      | inr l ↦
          let s = e.some second.0 l.0 second.1 l.1 in
          let same : record { label = l.0; members = second.0.members } ≡ x = same_value s.1 f in
          subst (λ (y : Cluster). (y.members ≡ second.0.members) × (IsLeastOf y.label y.members × (to ≡ Some y.label))) same (refl, (s.0, l.1))
    ]

    -- where a member is left there is a cluster under the key
    settled_some : (q : ℕ) → IsMember second.0.members q → (l : ℕ) × ((to ≡ Some l) × (slab.get es key ≡ Some (record { label = l; members = second.0.members })))
    settled_some q m = elim (known to) [
      | inl none ↦ absurd (no_value refl (subst (λ ys. slice_get ys m.0 ≡ Some q) (e.none second.0 second.1 none).0 m.1))
      | inr l ↦ (l.0, (l.1, (e.some second.0 l.0 second.1 l.1).1))
    ]

    pub label_kept : Kept qs es
    label_kept = record {
      placed = λ q r f.
          let there = some_and (slab.get ds r.cluster) _ (t.placed.placed q r f) in
          elim (cases_eq r.cluster key) [
            | inl s ↦
                let same : there.0 ≡ second.0 = same_value there.1 (ap (slab.get ds) s ∙ second.1) in
                let m : slice_get second.0.members r.at ≡ Some q = subst (λ (y : Cluster). slice_get y.members r.at ≡ Some q) same there.2 in
                some_is (λ y. slice_get y.members r.at ≡ Some q) (ap (slab.get es) s ∙ (settled_some q (r.at, m)).1.1) m
            | inr ne ↦ some_is (λ y. slice_get y.members r.at ≡ Some q) (e.others r.cluster ne ∙ there.1) there.2
          ];
      listed = λ h x f i q m. elim (cases_eq h key) [
        | inl s ↦
            let list = (settled_at x (subst (λ n. slab.get es n ≡ Some x) s f)).0 in
            subst (λ n. map.get qs q ≡ Some (record { cluster = n; at = i })) (sym s)
            (t.placed.listed key second.0 second.1 i q (subst (λ ys. slice_get ys i ≡ Some q) list m))
        | inr ne ↦ t.placed.listed h x (sym (e.others h ne) ∙ f) i q m
      ];
      least = λ h x f. elim (cases_eq h key) [
        | inl s ↦ (settled_at x (subst (λ n. slab.get es n ≡ Some x) s f)).1.0
        | inr ne ↦ k.least h x (sym (t.others h ne) ∙ (sym (e.others h ne) ∙ f))
      ];
    }

    -- a core of the label that stays is a member that is left
    is_left : (q : ℕ) → q ≢ label → map.get (labels_of ps cs) q ≡ Some label → IsMember second.0.members q
    is_left q ne has =
        let p_label : map.get ps label ≡ Some stood.0 = subst (λ n. map.get ps n ≡ Some stood.0) own stood.1 in
        let c_there : slab.get cs stood.0.cluster ≡ Some first.0 = ap (slab.get cs) stood.2 ∙ first.1 in
        second.2.kept q (λ s. ne (s ∙ own)) (holds_all ps cs k label stood.0 first.0 p_label c_there q has)

    was_in : (q : ℕ) → IsMember second.0.members q → (q ≢ label) × (map.get (labels_of ps cs) q ≡ Some label)
    was_in q m =
        let f = second.2.fewer q m in
        (λ s. f.0 (s ∙ sym own), label_in q f.1 ∙ ap (λ n. Some n) its)

    other_label_stays : (q : ℕ) → (map.get (labels_of ps cs) q ≡ Some label → ⊥) → map.get (labels_of qs es) q ≡ map.get (labels_of ps cs) q
    other_label_stays q not_its =
        let ne : q ≢ core = λ s. not_its (ap (map.get (labels_of ps cs)) (s ∙ own) ∙ is) in
        elim (known (map.get qs q)) [
          | inl none ↦ unlabelled qs es q none ∙ (sym (unlabelled qs ds q none) ∙ taken_label q ne)
          | inr r ↦
              let apart_from : r.0.cluster ≡ key → ⊥ = λ s.
              let there = some_and (slab.get ds r.0.cluster) _ (t.placed.placed q r.0 r.1) in
              let same : there.0 ≡ second.0 = same_value there.1 (ap (slab.get ds) s ∙ second.1) in
              not_its (was_in q (r.0.at, subst (λ (y : Cluster). slice_get y.members r.0.at ≡ Some q) same there.2)).1 in
              get_label qs es q
              ∙ (ap (option_map (label_at es)) r.1
              ∙ (ap (λ o. Some (label_or o)) (e.others r.0.cluster apart_from)
              ∙ (sym (get_label qs ds q ∙ ap (option_map (label_at ds)) r.1) ∙ taken_label q ne)))
        ]

    pub label_headless : IsHeadless (labels_of ps cs) label to (labels_of qs es)
    label_headless = record {
      gone = unlabelled qs es label (subst (λ n. map.get qs n ≡ None) own t.absent);
      moved = λ q ne has.
          let m = is_left q ne has in
          let s = settled_some q m in
          let at : map.get qs q ≡ Some (record { cluster = key; at = m.0 }) = t.placed.listed key second.0 second.1 m.0 q m.1 in
          (labelled_at qs es q _ _ at s.1.1 ∙ sym s.1.0, ap is_some s.1.0);
      some = λ l f. was_in l (e.some second.0 l second.1 f).0.0;
      least = λ l q f ne has. let m = is_left q ne has in (e.some second.0 l second.1 f).0.1 m.0 q m.1;
      others = other_label_stays;
    }

-- a core with a label is placed
pub has_place : (ps : Places) (cs : Clusters) (q : ℕ) → IsSome (map.get (labels_of ps cs) q) → IsSome (map.get ps q)
has_place ps cs q s = elim (known (map.get ps q)) [
  | inl none ↦ let x = some_there (map.get (labels_of ps cs) q) s in absurd (no_value (unlabelled ps cs q none) x.1)
  | inr p ↦ ap is_some p.1
]

-- the cluster that a core left is there
pub key_there : (ps qs : Places) (cs ds : Clusters) (core key : ℕ) → IsTakenOut ps cs core key qs ds → IsSome (slab.get ds key)
key_there ps qs cs ds core key t =
    let c = some_and (slab.get cs key) _ t.cluster in
    ap is_some (some_and (slab.get ds key) _ c.2).1

-- the label was set to the least member
pub settled_label : (cs : Clusters) (key : ℕ) (c d : Cluster) (l : ℕ) → Some c ≡ slab.get cs key → IsLeastOf l c.members → d ≡ record { label = l; members = c.members } → IsSettled cs key (Some l) (slab.with_value cs key d)
settled_label cs key c d l at least is =
    let up = lent cs key c d at in
    record {
      some = λ x m e f. let same : c ≡ x = same_value (sym at) e in
          let one : l ≡ m = same_value refl f in (
            subst (λ n. IsLeastOf n x.members) one (subst (λ (y : Cluster). IsLeastOf l y.members) same least),
            up.changed ∙ (ap (λ y. Some y) is ∙ (ap (λ n. Some (record { label = n; members = c.members })) one ∙ ap (λ (y : Cluster). Some (record { label = m; members = y.members })) same)),
          );
      none = λ x e f. absurd (no_value f refl);
      others = up.others;
    }

-- the cluster had no member, and was removed
pub settled_removed : (cs es : Clusters) (key : ℕ) (c d : Cluster) → Some c ≡ slab.get cs key → c.members ≡ [] → d ≡ c → slab.Updates (slab.with_value cs key d) es key None → IsSettled cs key None es
settled_removed cs es key c d at empty is down =
    let up = lent cs key c d at in
    record {
      some = λ x m e f. absurd (no_value refl f);
      none = λ x e f. (ap (λ (y : Cluster). y.members) (same_value e (sym at)) ∙ empty, down.changed);
      others = λ g ne. down.others g ne ∙ up.others g ne;
    }
