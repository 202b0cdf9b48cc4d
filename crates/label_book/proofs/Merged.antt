-- The list of one cluster moves to the end of another's.
use Rattle.std.proofs.Common.{◌≡◌, ◌≢◌, ℕ, zero, suc, ◌+◌, ◌<◌, ◌≤◌, List, [], ◌∷◌, ◌++◌, length, refl, sym, ap, subst, ◌∙◌, cond, None, Some, IsSome, IsSomeAnd, is_some, inl, inr, ◌⊎◌, slice_get, get_or, min, arith}
use Rattle.std.proofs.lemmas.Bool.{cases_eq, cases_lt}
use Rattle.std.proofs.lemmas.Option.{slice_get_within, slice_get-get_or}
use Rattle.std.specs.Option.{option_map}
use Rattle.std.specs.FinMap as map
use Rattle.slab.specs.Slab as slab
use Rattle.number_map.specs.Lending.{replaced}
use Rattle.label_book.specs.declared.cluster.Place.{Place}
use Rattle.label_book.specs.declared.cluster.Cluster.{Cluster}
use Rattle.label_book.specs.Labels.{EachOnce, IsLeastOf}
use Rattle.label_book.specs.inside.Kept.{Places, Clusters, Kept, labels_of, label_or, label_at}
use Rattle.label_book.specs.inside.Steps.{IsMerged, IsMergedOf, IsRewritten, StandsFrom, with_members}
use Rattle.label_book.proofs.Views.{same_value, no_value, some_and, known, get_label, labelled_at, unlabelled, holds_all}
use Rattle.label_book.proofs.Added.{some_is, in_front, here, apart, lent}
use Rattle.label_book.proofs.Taken.{some_there}

-- an item of two lists in a row stands in one of them
pub in_either : (xs ys : List ℕ) (i q : ℕ) → slice_get (xs ++ ys) i ≡ Some q → (slice_get xs i ≡ Some q) ⊎ ((j : ℕ) × ((i ≡ length xs + j) × (slice_get ys j ≡ Some q)))
in_either [] ys i q e = let none : length {A = ℕ} [] ≡ 0 = refl in inr (i, (omega (arith, none), e))
in_either (x ∷ xs) ys zero q e = inl e
in_either (x ∷ xs) ys (suc i) q e = elim (in_either xs ys i q e) [
  | inl f ↦ inl f
  | inr g ↦
      let one : length (x ∷ xs) ≡ length xs + 1 = omega arith in
      let rest : i ≡ length xs + g.0 = g.1.0 in
      inr (g.0, (omega (arith, one, rest), g.1.1))
]

back_at : (xs ys : List ℕ) (j n q : ℕ) → n ≡ length xs + j → slice_get ys j ≡ Some q → slice_get (xs ++ ys) n ≡ Some q
back_at [] ys j n q s e =
    let none : length {A = ℕ} [] ≡ 0 = refl in
    let one : j ≡ n = omega (arith, s, none) in
    subst (λ m. slice_get ys m ≡ Some q) one e
back_at (x ∷ xs) ys j zero q s e = let one : length (x ∷ xs) ≡ length xs + 1 = omega arith in absurd (omega (arith, s, one))
back_at (x ∷ xs) ys j (suc n) q s e =
    let one : length (x ∷ xs) ≡ length xs + 1 = omega arith in
    back_at xs ys j n q (omega (arith, s, one)) e

pub in_back : (xs ys : List ℕ) (j q : ℕ) → slice_get ys j ≡ Some q → slice_get (xs ++ ys) (length xs + j) ≡ Some q
in_back xs ys j q e = back_at xs ys j (length xs + j) q refl e

lesser_of : (a b : ℕ) (xs ys : List ℕ) → IsLeastOf a xs → IsLeastOf b ys → IsLeastOf (min a b) (xs ++ ys)
lesser_of a b xs ys l m = (
  elim (cases_lt b a) [
    | inl lt ↦ let is : min a b ≡ b = omega (arith, lt) in (length xs + m.0.0, in_back xs ys m.0.0 (min a b) (m.0.1 ∙ ap (λ n. Some n) (sym is)))
    | inr le ↦ let is : min a b ≡ a = omega (arith, le) in (l.0.0, in_front xs ys l.0.0 (min a b) (l.0.1 ∙ ap (λ n. Some n) (sym is)))
  ],
  λ i q e. elim (in_either xs ys i q e) [
    | inl f ↦ let le : a ≤ q = l.1 i q f in omega (arith, le)
    | inr g ↦ let le : b ≤ q = m.1 g.0 q g.1.1 in omega (arith, le)
  ],
)

module _ (ps : Places) (cs : Clusters) (k : Kept ps cs) (h g : ℕ) (c d : Cluster) (two : h ≢ g) (is : slab.get cs h ≡ Some c) (was : slab.get cs g ≡ Some d) where
  in_first : (i q : ℕ) → slice_get c.members i ≡ Some q → map.get ps q ≡ Some (record { cluster = h; at = i })
  in_first i q e = k.listed h c is i q e

  in_second : (i q : ℕ) → slice_get d.members i ≡ Some q → map.get ps q ≡ Some (record { cluster = g; at = i })
  in_second i q e = k.listed g d was i q e

  never_both : (i j q : ℕ) → slice_get c.members i ≡ Some q → slice_get d.members j ≡ Some q → ⊥
  never_both i j q e f = two (ap (λ (x : Place). x.cluster) (same_value (in_first i q e) (in_second j q f)))

  pub merged_once : EachOnce (c.members ++ d.members)
  merged_once i j q e f = elim (in_either c.members d.members i q e) [
    | inl a ↦ elim (in_either c.members d.members j q f) [
      | inl b ↦ ap (λ (x : Place). x.at) (same_value (in_first i q a) (in_first j q b))
      | inr b ↦ absurd (never_both i b.0 q a b.1.1)
    ]
    | inr a ↦ elim (in_either c.members d.members j q f) [
      | inl b ↦ absurd (never_both j a.0 q b a.1.1)
      | inr b ↦
          let one : a.0 ≡ b.0 = ap (λ (x : Place). x.at) (same_value (in_second a.0 q a.1.1) (in_second b.0 q b.1.1)) in
          a.1.0 ∙ (ap (λ n. length c.members + n) one ∙ sym b.1.0)
    ]
  ]

  -- from the length of the first list on stand the members of the second
  behind : (i q : ℕ) → length c.members ≤ i → slice_get (c.members ++ d.members) i ≡ Some q → (j : ℕ) × ((i ≡ length c.members + j) × (slice_get d.members j ≡ Some q))
  behind i q le e = elim (in_either c.members d.members i q e) [
    | inl f ↦ let lt : i < length c.members = slice_get_within c.members i q f in absurd (omega (arith, lt, le))
    | inr b ↦ b
  ]

  pub moved_known : (q : ℕ) → StandsFrom (c.members ++ d.members) (length c.members) q → IsSome (map.get ps q)
  moved_known q s = let b = behind s.0 q s.1.0 s.1.1 in ap is_some (in_second b.0 q b.1.1)

  module _ (qs : Places) (es : Clusters) (new : slab.get es h ≡ Some (with_members c d)) (gone : slab.get es g ≡ None) (others : (x : ℕ) → x ≢ h → x ≢ g → slab.get es x ≡ slab.get cs x)
      (r : IsRewritten ps (c.members ++ d.members) h (length c.members) (length (c.members ++ d.members)) qs) where
    moves : (j q : ℕ) → slice_get d.members j ≡ Some q → map.get qs q ≡ Some (record { cluster = h; at = length c.members + j })
    moves j q e =
        let at : slice_get (c.members ++ d.members) (length c.members + j) ≡ Some q = in_back c.members d.members j q e in
        r.written q (length c.members + j) (omega arith) (slice_get_within (c.members ++ d.members) (length c.members + j) q at) at

    stays_at : (q : ℕ) → ((j : ℕ) → slice_get d.members j ≡ Some q → ⊥) → map.get qs q ≡ map.get ps q
    stays_at q n = r.others q (λ i le lt e. let b = behind i q le e in n b.0 b.1.1)

    not_second : (q x i : ℕ) → x ≢ g → map.get ps q ≡ Some (record { cluster = x; at = i }) → (j : ℕ) → slice_get d.members j ≡ Some q → ⊥
    not_second q x i ne e j f = ne (ap (λ (y : Place). y.cluster) (same_value e (in_second j q f)))

    was_at : (q : ℕ) (p : Place) → map.get ps q ≡ Some p → (x : Cluster) × (slab.get cs p.cluster ≡ Some x) × (slice_get x.members p.at ≡ Some q)
    was_at q p e = some_and (slab.get cs p.cluster) _ (k.placed q p e)

    in_list : (q : ℕ) (p : Place) (key : ℕ) (x : Cluster) → map.get ps q ≡ Some p → p.cluster ≡ key → slab.get cs key ≡ Some x → slice_get x.members p.at ≡ Some q
    in_list q p key x e s f =
        let w = was_at q p e in
        subst (λ (y : Cluster). slice_get y.members p.at ≡ Some q) (same_value w.1 (ap (slab.get cs) s ∙ f)) w.2

    merged_placed : (q : ℕ) (p : Place) → map.get qs q ≡ Some p → IsSomeAnd (slab.get es p.cluster) (λ y. slice_get y.members p.at ≡ Some q)
    merged_placed q p e = elim (known (map.get ps q)) [
      | inl none ↦ absurd (no_value (stays_at q (λ j f. no_value none (in_second j q f)) ∙ none) e)
      | inr o ↦ elim (cases_eq o.0.cluster g) [
        | inl s ↦
            let m = in_list q o.0 g d o.1 s was in
            let same : record { cluster = h; at = length c.members + o.0.at } ≡ p = same_value (moves o.0.at q m) e in
            subst (λ (x : Place). IsSomeAnd (slab.get es x.cluster) (λ y. slice_get y.members x.at ≡ Some q)) same
            (some_is (λ y. slice_get y.members (length c.members + o.0.at) ≡ Some q) new (in_back c.members d.members o.0.at q m))
        | inr ne ↦
            let same : o.0 ≡ p = same_value (stays_at q (not_second q o.0.cluster o.0.at ne o.1) ∙ o.1) e in
            subst (λ (x : Place). IsSomeAnd (slab.get es x.cluster) (λ y. slice_get y.members x.at ≡ Some q)) same
            (elim (cases_eq o.0.cluster h) [
              | inl s ↦ some_is (λ y. slice_get y.members o.0.at ≡ Some q) (ap (slab.get es) s ∙ new) (in_front c.members d.members o.0.at q (in_list q o.0 h c o.1 s is))
              | inr other ↦ let w = was_at q o.0 o.1 in some_is (λ y. slice_get y.members o.0.at ≡ Some q) (others o.0.cluster other ne ∙ w.1) w.2
            ])
      ]
    ]

    merged_listed : (x : ℕ) (y : Cluster) → slab.get es x ≡ Some y → (i q : ℕ) → slice_get y.members i ≡ Some q → map.get qs q ≡ Some (record { cluster = x; at = i })
    merged_listed x y e i q m = elim (cases_eq x h) [
      | inl s ↦
          let same : with_members c d ≡ y = same_value new (subst (λ n. slab.get es n ≡ Some y) s e) in
          subst (λ n. map.get qs q ≡ Some (record { cluster = n; at = i })) (sym s)
          (elim (in_either c.members d.members i q (subst (λ (z : Cluster). slice_get z.members i ≡ Some q) (sym same) m)) [
            | inl a ↦ stays_at q (not_second q h i two (in_first i q a)) ∙ in_first i q a
            | inr b ↦ subst (λ n. map.get qs q ≡ Some (record { cluster = h; at = n })) (sym b.1.0) (moves b.0 q b.1.1)
          ])
      | inr ne ↦ elim (cases_eq x g) [
        | inl s ↦ absurd (no_value gone (subst (λ n. slab.get es n ≡ Some y) s e))
        | inr other ↦
            let old : map.get ps q ≡ Some (record { cluster = x; at = i }) = k.listed x y (sym (others x ne other) ∙ e) i q m in
            stays_at q (not_second q x i other old) ∙ old
      ]
    ]

    pub merged_kept : Kept qs es
    merged_kept = record {
      placed = merged_placed;
      listed = merged_listed;
      least = λ x y e. elim (cases_eq x h) [
        | inl s ↦
            subst (λ (z : Cluster). IsLeastOf z.label z.members) (same_value new (subst (λ n. slab.get es n ≡ Some y) s e))
            (lesser_of c.label d.label c.members d.members (k.least h c is) (k.least g d was))
        | inr ne ↦ elim (cases_eq x g) [
          | inl s ↦ absurd (no_value gone (subst (λ n. slab.get es n ≡ Some y) s e))
          | inr other ↦ k.least x y (sym (others x ne other) ∙ e)
        ]
      ];
    }

    -- a core of either cluster has the new label
    now_labelled : (i q : ℕ) → map.get qs q ≡ Some (record { cluster = h; at = i }) → map.get (labels_of qs es) q ≡ Some (min c.label d.label)
    now_labelled i q e = labelled_at qs es q _ _ e new

    first_labelled : (q : ℕ) → map.get (labels_of ps cs) q ≡ Some c.label → map.get (labels_of qs es) q ≡ Some (min c.label d.label)
    first_labelled q has =
        let l = k.least h c is in
        let m = holds_all ps cs k c.label _ c (in_first l.0.0 c.label l.0.1) is q has in
        now_labelled m.0 q (stays_at q (not_second q h m.0 two (in_first m.0 q m.1)) ∙ in_first m.0 q m.1)

    second_labelled : (q : ℕ) → map.get (labels_of ps cs) q ≡ Some d.label → map.get (labels_of qs es) q ≡ Some (min c.label d.label)
    second_labelled q has =
        let l = k.least g d was in
        let m = holds_all ps cs k d.label _ d (in_second l.0.0 d.label l.0.1) was q has in
        now_labelled (length c.members + m.0) q (moves m.0 q m.1)

    others_labelled : (q : ℕ) → (map.get (labels_of ps cs) q ≡ Some c.label → ⊥) → (map.get (labels_of ps cs) q ≡ Some d.label → ⊥) → map.get (labels_of qs es) q ≡ map.get (labels_of ps cs) q
    others_labelled q n m = elim (known (map.get ps q)) [
      | inl none ↦ unlabelled qs es q (stays_at q (λ j f. no_value none (in_second j q f)) ∙ none) ∙ sym (unlabelled ps cs q none)
      | inr o ↦
          let not_h : o.0.cluster ≢ h = λ s. n (labelled_at ps cs q o.0 c o.1 (ap (slab.get cs) s ∙ is)) in
          let not_g : o.0.cluster ≢ g = λ s. m (labelled_at ps cs q o.0 d o.1 (ap (slab.get cs) s ∙ was)) in
          get_label qs es q
          ∙ (ap (option_map (label_at es)) (stays_at q (not_second q o.0.cluster o.0.at not_g o.1) ∙ o.1)
          ∙ (ap (λ x. Some (label_or x)) (others o.0.cluster not_h not_g)
          ∙ sym (get_label ps cs q ∙ ap (option_map (label_at cs)) o.1)))
    ]

    pub merged_labels : IsMerged (labels_of ps cs) c.label d.label (labels_of qs es)
    merged_labels = record { first = first_labelled; second = second_labelled; others = others_labelled }

-- one place more was written
pub rewritten_more : (old now new : Places) (members : List ℕ) (cluster from at : ℕ) → EachOnce members → from ≤ at → at < length members
    → ((q : ℕ) → StandsFrom members from q → IsSome (map.get old q)) → IsRewritten old members cluster from at now
    → new ≡ replaced now (get_or members at 0) (record { cluster = cluster; at = at }) → IsRewritten old members cluster from (at + 1) new
rewritten_more old now new members cluster from at once low within known_old was is =
    let core = get_or members at 0 in
    let p : Place = record { cluster = cluster; at = at } in
    let stands_here : slice_get members at ≡ Some core = slice_get-get_or members at 0 within in
    let before : map.get now core ≡ map.get old core = was.others core (λ i le lt e. let one : i ≡ at = once i at core e stands_here in omega (arith, one, lt)) in
    let there = some_there (map.get old core) (known_old core (at, (low, stands_here))) in
    let put : new ≡ map.insert now core p = is ∙ ap (λ o. cond (is_some o) (map.insert now core p) now) (before ∙ there.1) in
    let far : (q : ℕ) → q ≢ core → map.get new q ≡ map.get now q = λ q ne. ap (λ m. map.get m q) put ∙ apart now core p q ne in
    record {
      written = λ q i le lt e. elim (cases_eq i at) [
        | inl s ↦
            let own : q ≡ core = same_value e (subst (λ n. slice_get members n ≡ Some core) (sym s) stands_here) in
            ap (map.get new) own ∙ (ap (λ m. map.get m core) put ∙ (here now core p ∙ ap (λ n. Some (record { cluster = cluster; at = n })) (sym s)))
        | inr ne ↦
            let lower : i < at = omega (arith, lt, ne) in
            far q (λ s. ne (once i at core (subst (λ n. slice_get members i ≡ Some n) s e) stands_here)) ∙ was.written q i le lower e
      ];
      others = λ q n. far q (λ s. n at low (omega arith) (subst (λ x. slice_get members at ≡ Some x) (sym s) stands_here)) ∙ was.others q (λ i le lt e. n i le (omega (arith, lt)) e);
    }

pub rewritten_none : (old : Places) (members : List ℕ) (cluster from : ℕ) → IsRewritten old members cluster from from old
rewritten_none old members cluster from = record { written = λ q i le lt e. absurd (omega (arith, le, lt)); others = λ q n. refl }

pub rewritten_all : (old new : Places) (members : List ℕ) (cluster from at : ℕ) → length members ≤ at → IsRewritten old members cluster from at new → IsRewritten old members cluster from (length members) new
rewritten_all old new members cluster from at end was = record {
  written = λ q i le lt e. was.written q i le (omega (arith, end, lt)) e;
  others = λ q n. was.others q (λ i le lt e. n i le (slice_get_within members i q e) e);
}

length_at : (c d e : Cluster) → e ≡ with_members c d → e.members ≡ c.members ++ d.members
length_at c d e is = ap (λ (x : Cluster). x.members) is

-- the cluster of the label is the same after the other one was removed
still_there : (cs less : Clusters) (h g : ℕ) (c x : Cluster) → (g ≡ h → ⊥) → Some c ≡ slab.get cs h → slab.Updates cs less g None → Some x ≡ slab.get less h → x ≡ c
still_there cs less h g c x two is down again = same_value (sym again) (down.others h (λ s. two (sym s)) ∙ sym is)

module _ (ps : Places) (cs less : Clusters) (k : Kept ps cs) (p r : Place) (c x d e : Cluster) (n : ℕ) (two : r.cluster ≡ p.cluster → ⊥) (is : Some c ≡ slab.get cs p.cluster) (len : n ≡ length c.members)
    (was : Some d ≡ slab.get cs r.cluster) (down : slab.Updates cs less r.cluster None) (again : Some x ≡ slab.get less p.cluster) (grown : e ≡ with_members x d) where
  apart_keys : p.cluster ≢ r.cluster
  apart_keys s = two (sym s)

  same_cluster : x ≡ c
  same_cluster = still_there cs less p.cluster r.cluster c x two is down again

  is_grown : e ≡ with_members c d
  is_grown = grown ∙ ap (λ y. with_members y d) same_cluster

  list_is : e.members ≡ c.members ++ d.members
  list_is = length_at c d e is_grown

  pub grown_once : EachOnce e.members
  grown_once = subst EachOnce (sym list_is) (merged_once ps cs k p.cluster r.cluster c d apart_keys (sym is) (sym was))

  pub grown_known : (q : ℕ) → StandsFrom e.members n q → IsSome (map.get ps q)
  grown_known q s = moved_known ps cs k p.cluster r.cluster c d apart_keys (sym is) (sym was) q (subst (λ ys. StandsFrom ys (length c.members) q) list_is (subst (λ m. StandsFrom e.members m q) len s))

  module _ (qs : Places) (moved : IsRewritten ps e.members p.cluster n (length e.members) qs) where
    up : slab.Updates less (slab.with_value less p.cluster e) p.cluster (Some e)
    up = lent less p.cluster x e again

    written : IsRewritten ps (c.members ++ d.members) p.cluster (length c.members) (length (c.members ++ d.members)) qs
    written = subst (λ ys. IsRewritten ps ys p.cluster (length c.members) (length ys) qs) list_is (subst (λ m. IsRewritten ps e.members p.cluster m (length e.members) qs) len moved)

    new_at : slab.get (slab.with_value less p.cluster e) p.cluster ≡ Some (with_members c d)
    new_at = up.changed ∙ ap (λ y. Some y) is_grown

    gone_at : slab.get (slab.with_value less p.cluster e) r.cluster ≡ None
    gone_at = up.others r.cluster two ∙ down.changed

    others_at : (y : ℕ) → y ≢ p.cluster → y ≢ r.cluster → slab.get (slab.with_value less p.cluster e) y ≡ slab.get cs y
    others_at y n m = up.others y n ∙ down.others y m

    pub merge_kept : Kept qs (slab.with_value less p.cluster e)
    merge_kept = merged_kept ps cs k p.cluster r.cluster c d apart_keys (sym is) (sym was) qs (slab.with_value less p.cluster e) new_at gone_at others_at written

    pub merge_labels : (into core label : ℕ) → Some p ≡ map.get ps into → Some r ≡ map.get ps core → map.get (labels_of ps cs) into ≡ Some into → label ≡ min x.label d.label
        → IsMergedOf (labels_of ps cs) into core label (labels_of qs (slab.with_value less p.cluster e))
    merge_labels into core label at_into at_core has least =
        let named : c.label ≡ into = same_value (labelled_at ps cs into p c (sym at_into) (sym is)) has in
        record {
          other = d.label;
          was = labelled_at ps cs core r d (sym at_core) (sym was);
          least = least ∙ ap (λ n. min n d.label) (ap (λ (y : Cluster). y.label) same_cluster ∙ named);
          merged = subst (λ n. IsMerged (labels_of ps cs) n d.label (labels_of qs (slab.with_value less p.cluster e))) named
              (merged_labels ps cs k p.cluster r.cluster c d apart_keys (sym is) (sym was) qs (slab.with_value less p.cluster e) new_at gone_at others_at written);
        }

-- the core is in the cluster already
pub merge_same : (ps : Places) (cs : Clusters) (into core : ℕ) (p r : Place) (c : Cluster) → Some p ≡ map.get ps into → Some r ≡ map.get ps core → r.cluster ≡ p.cluster → Some c ≡ slab.get cs p.cluster
    → map.get (labels_of ps cs) into ≡ Some into → IsMergedOf (labels_of ps cs) into core into (labels_of ps cs)
merge_same ps cs into core p r c at_into at_core one is has =
    let named : c.label ≡ into = same_value (labelled_at ps cs into p c (sym at_into) (sym is)) has in
    let least : into ≡ min into into = omega arith in
    record {
      other = into;
      was = labelled_at ps cs core r c (sym at_core) (ap (slab.get cs) one ∙ sym is) ∙ ap (λ n. Some n) named;
      least = least;
      merged = record {
        first = λ q e. e ∙ ap (λ n. Some n) least;
        second = λ q e. e ∙ ap (λ n. Some n) least;
        others = λ q n m. refl;
      };
    }

-- a core and a label that are in the book have a place each, in a cluster that is there
pub place_there : (ps : Places) (cs : Clusters) (q : ℕ) → None ≡ map.get ps q → IsSome (map.get (labels_of ps cs) q) → ⊥
place_there ps cs q none s = let x = some_there (map.get (labels_of ps cs) q) s in no_value (unlabelled ps cs q (sym none)) x.1

pub cluster_there : (ps : Places) (cs : Clusters) → Kept ps cs → (q : ℕ) (p : Place) → Some p ≡ map.get ps q → None ≡ slab.get cs p.cluster → ⊥
cluster_there ps cs k q p at none = no_value (sym none) (some_and (slab.get cs p.cluster) _ (k.placed q p (sym at))).1

pub other_there : (ps : Places) (cs less : Clusters) → Kept ps cs → (q : ℕ) (p : Place) (g : ℕ) → Some p ≡ map.get ps q → (g ≡ p.cluster → ⊥) → slab.Updates cs less g None → None ≡ slab.get less p.cluster → ⊥
other_there ps cs less k q p g at two down none = cluster_there ps cs k q p at (none ∙ down.others p.cluster (λ s. two (sym s)))

-- the other cluster was put back
pub put_back : (cs less es : Clusters) (h g key : ℕ) (x y d : Cluster) → (g ≡ h → ⊥) → Some d ≡ slab.get cs g → slab.Updates cs less g None → Some x ≡ slab.get less h → y ≡ x
    → key ≡ less.vacant_key → less.vacant_key ≡ g → slab.Updates (slab.with_value less h y) es key (Some d) → (z : ℕ) → slab.get es z ≡ slab.get cs z
put_back cs less es h g key x y d two was down again same_one key_is next up z =
    let at : key ≡ g = key_is ∙ next in
    let back : slab.Updates (slab.with_value less h y) es g (Some d) = subst (λ n. slab.Updates (slab.with_value less h y) es n (Some d)) at up in
    let mid = lent less h x y again in
    elim (cases_eq z g) [
      | inl s ↦ ap (slab.get es) s ∙ (back.changed ∙ (was ∙ ap (slab.get cs) (sym s)))
      | inr ne ↦ back.others z ne ∙ (elim (cases_eq z h) [
        | inl s ↦ ap (slab.get (slab.with_value less h y)) s ∙ (mid.changed ∙ (ap (λ w. Some w) same_one ∙ (again ∙ (ap (slab.get less) (sym s) ∙ down.others z ne))))
        | inr other ↦ mid.others z other ∙ down.others z ne
      ])
    ]
