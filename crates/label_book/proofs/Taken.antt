-- A core leaves the list of its cluster, and the last one takes its place.
use Rattle.std.proofs.Common.{◌≡◌, ◌≢◌, ℕ, ◌+◌, ◌-◌, ◌<◌, List, length, refl, sym, ap, subst, ◌∙◌, cond, is_some, None, Some, IsSome, IsSomeAnd, inl, inr, ◌⊎◌, slice_get, get_or, arith}
use Rattle.std.proofs.lemmas.Bool.{cases_eq, cases_lt}
use Rattle.std.proofs.lemmas.Option.{slice_get_within, slice_get-get_or, get_or_from_slice_get}
use Rattle.std.specs.declared.option.Option.{Option}
use Rattle.std.specs.Ordering.{nat_cmp}
use Rattle.std.specs.Cmp.{nat_cmp_total}
use Rattle.std.specs.FinMap as map
use Rattle.slab.specs.Slab as slab
use Rattle.number_map.specs.Lending.{replaced}
use Rattle.label_book.specs.declared.cluster.Place.{Place}
use Rattle.label_book.specs.declared.cluster.Cluster.{Cluster}
use Rattle.label_book.specs.Labels.{EachOnce}
use Rattle.label_book.specs.inside.Kept.{Places, Clusters, Kept, ArePlaced}
use Rattle.label_book.specs.inside.Steps.{IsSwappedOut, IsTakenOut, IsShorter, cluster_of}
use Rattle.label_book.proofs.Views.{same_value, no_value, some_and, known}
use Rattle.label_book.proofs.Added.{some_is, here, apart, tied, untied, lent}

-- the value is there or it isn't
pub is_or : (o : Option ℕ) (q : ℕ) → (o ≡ Some q) ⊎ (o ≡ Some q → ⊥)
is_or o q = elim (known o) [
  | inl none ↦ inr (λ e. no_value none e)
  | inr x ↦ elim (cases_eq x.0 q) [ inl s ↦ inl (x.1 ∙ ap (λ n. Some n) s) | inr ne ↦ inr (λ e. ne (same_value x.1 e)) ]
]

pub swapped_out : (xs ys : List ℕ) (at : ℕ) → at < length xs → length ys + 1 ≡ length xs → ((d : ℕ) → at + 1 < length xs → get_or ys at d ≡ get_or xs (length xs - 1) d)
    → ((k d : ℕ) → k ≢ at → k + 1 < length xs → get_or ys k d ≡ get_or xs k d) → IsSwappedOut xs at ys
swapped_out xs ys at within len last others = record {
  back = λ k q e.
      let short : k < length ys = slice_get_within ys k q e in
      let is : get_or ys k 0 ≡ q = get_or_from_slice_get ys k q 0 e in
      elim (cases_eq k at) [
        | inl s ↦
            let more : at + 1 < length xs = omega (arith, s, short, len) in
            let end : length xs - 1 < length xs = omega (arith, more) in
            inr (
              s,
              (
                more,
                (
                  length xs - 1,
                  (
                    omega (arith, more),
                    slice_get-get_or xs (length xs - 1) 0 end
                        ∙ ap (λ n. Some n) (sym (last 0 more) ∙ (ap (λ j. get_or ys j 0) (sym s) ∙ is)),
                  ),
                ),
              ),
            )
        | inr ne ↦
            let more : k + 1 < length xs = omega (arith, short, len) in
            let low : k < length xs = omega (arith, more) in
            inl (ne, (slice_get-get_or xs k 0 low ∙ ap (λ n. Some n) (sym (others k 0 ne more) ∙ is), more))
      ];
  forth = λ k q ne e.
      let low : k < length xs = slice_get_within xs k q e in
      let is : get_or xs k 0 ≡ q = get_or_from_slice_get xs k q 0 e in
      elim (cases_lt (k + 1) (length xs)) [
        | inl more ↦
            let short : k < length ys = omega (arith, more, len) in
            inl (slice_get-get_or ys k 0 short ∙ ap (λ n. Some n) (others k 0 ne more ∙ is))
        | inr end ↦
            let top : k + 1 ≡ length xs = omega (arith, low, end) in
            let more : at + 1 < length xs = omega (arith, within, top, ne) in
            let short : at < length ys = omega (arith, more, len) in
            let last_is : length xs - 1 ≡ k = omega (arith, top) in
            inr (top, slice_get-get_or ys at 0 short ∙ ap (λ n. Some n) (last 0 more ∙ (ap (λ j. get_or xs j 0) last_is ∙ is)))
      ];
}

-- no core stands twice in the list of a cluster
pub placed_once : (ps : Places) (cs : Clusters) → ArePlaced ps cs → (h : ℕ) (c : Cluster) → slab.get cs h ≡ Some c → EachOnce c.members
placed_once ps cs k h c is i j core a b = ap (λ (x : Place). x.at) (same_value (k.listed h c is i core a) (k.listed h c is j core b))

-- what the places are after the core left, by look-ups
pub record Moves (ps qs : Places) (core : ℕ) (p : Place) (d : Cluster) : Type 0 where
  pub absent : map.get qs core ≡ None
  pub moved : (q : ℕ) → slice_get d.members p.at ≡ Some q → map.get qs q ≡ Some p
  pub others : (q : ℕ) → q ≢ core → (slice_get d.members p.at ≡ Some q → ⊥) → map.get qs q ≡ map.get ps q

module _ (ps qs : Places) (cs ds : Clusters) (core : ℕ) (p : Place) (c d : Cluster) (k : ArePlaced ps cs) (at : map.get ps core ≡ Some p) (is : slab.get cs p.cluster ≡ Some c)
    (up : slab.Updates cs ds p.cluster (Some d)) (swap : IsSwappedOut c.members p.at d.members) (mv : Moves ps qs core p d) where
  stands_at : slice_get c.members p.at ≡ Some core
  stands_at = let s = some_and (slab.get cs p.cluster) _ (k.placed core p at) in subst (λ (x : Cluster). slice_get x.members p.at ≡ Some core) (same_value s.1 is) s.2

  other_place : (i q : ℕ) → q ≢ core → slice_get c.members i ≡ Some q → i ≢ p.at
  other_place i q ne e s = ne (same_value (subst (λ n. slice_get c.members n ≡ Some q) s e) stands_at)

  -- the one that moved stood at the end of the list
  was_last : (q : ℕ) → slice_get d.members p.at ≡ Some q → (i : ℕ) × ((i + 1 ≡ length c.members) × ((p.at + 1 < length c.members) × (slice_get c.members i ≡ Some q)))
  was_last q e = elim (swap.back p.at q e) [ inl l ↦ absurd (l.0 refl) | inr r ↦ (r.1.1.0, (r.1.1.1.0, (r.1.0, r.1.1.1.1))) ]

  taken_placed : (q : ℕ) (r : Place) → map.get qs q ≡ Some r → IsSomeAnd (slab.get ds r.cluster) (λ x. slice_get x.members r.at ≡ Some q)
  taken_placed q r e = elim (is_or (slice_get d.members p.at) q) [
    | inl m ↦
        let same : p ≡ r = same_value (mv.moved q m) e in
        subst (λ (x : Place). IsSomeAnd (slab.get ds x.cluster) (λ y. slice_get y.members x.at ≡ Some q)) same (some_is (λ y. slice_get y.members p.at ≡ Some q) up.changed m)
    | inr n ↦
        let ne : q ≢ core = λ s. no_value mv.absent (subst (λ x. map.get qs x ≡ Some r) s e) in
        let old : map.get ps q ≡ Some r = sym (mv.others q ne n) ∙ e in
        let there = some_and (slab.get cs r.cluster) _ (k.placed q r old) in
        elim (cases_eq r.cluster p.cluster) [
          | inl s ↦
              let same : there.0 ≡ c = same_value there.1 (subst (λ h. slab.get cs h ≡ Some c) (sym s) is) in
              let in_c : slice_get c.members r.at ≡ Some q = subst (λ (x : Cluster). slice_get x.members r.at ≡ Some q) same there.2 in
              elim (swap.forth r.at q (other_place r.at q ne in_c) in_c) [
                | inl f ↦ some_is (λ y. slice_get y.members r.at ≡ Some q) (ap (slab.get ds) s ∙ up.changed) f
                | inr g ↦ absurd (n g.1)
              ]
          | inr other ↦ some_is (λ y. slice_get y.members r.at ≡ Some q) (up.others r.cluster other ∙ there.1) there.2
        ]
  ]

  taken_listed : (h : ℕ) (x : Cluster) → slab.get ds h ≡ Some x → (i q : ℕ) → slice_get x.members i ≡ Some q → map.get qs q ≡ Some (record { cluster = h; at = i })
  taken_listed h x e i q m = elim (cases_eq h p.cluster) [
    | inl s ↦
        let same : d ≡ x = same_value up.changed (subst (λ n. slab.get ds n ≡ Some x) s e) in
        let in_d : slice_get d.members i ≡ Some q = subst (λ (y : Cluster). slice_get y.members i ≡ Some q) (sym same) m in
        subst (λ n. map.get qs q ≡ Some (record { cluster = n; at = i })) (sym s)
        (elim (swap.back i q in_d) [
          | inl l ↦
              let old : map.get ps q ≡ Some (record { cluster = p.cluster; at = i }) = k.listed p.cluster c is i q l.1.0 in
              let ne : q ≢ core = λ t. l.0 (ap (λ (y : Place). y.at) (same_value old (subst (λ n. map.get ps n ≡ Some p) (sym t) at))) in
              let n : slice_get d.members p.at ≡ Some q → ⊥ = λ f.
              let w = was_last q f in
              let one : i ≡ w.0 = placed_once ps cs k p.cluster c is i w.0 q l.1.0 w.1.1.1 in
              let top : w.0 + 1 ≡ length c.members = w.1.0 in
              let low : i + 1 < length c.members = l.1.1 in
              omega (arith, one, top, low) in
              mv.others q ne n ∙ old
          | inr g ↦ subst (λ n. map.get qs q ≡ Some (record { cluster = p.cluster; at = n })) (sym g.0) (mv.moved q (subst (λ n. slice_get d.members n ≡ Some q) g.0 in_d))
        ])
    | inr other ↦
        let old : map.get ps q ≡ Some (record { cluster = h; at = i }) = k.listed h x (sym (up.others h other) ∙ e) i q m in
        let ne : q ≢ core = λ t. other (ap (λ (y : Place). y.cluster) (same_value old (subst (λ n. map.get ps n ≡ Some p) (sym t) at))) in
        let n : slice_get d.members p.at ≡ Some q → ⊥ = λ f.
        let w = was_last q f in
        other (ap (λ (y : Place). y.cluster) (same_value old (k.listed p.cluster c is w.0 q w.1.1.1))) in
        mv.others q ne n ∙ old
  ]

  taken_places : (q : ℕ) → q ≢ core → cluster_of (map.get qs q) ≡ cluster_of (map.get ps q)
  taken_places q ne = elim (is_or (slice_get d.members p.at) q) [
    | inl m ↦ let w = was_last q m in ap cluster_of (mv.moved q m) ∙ sym (ap cluster_of (k.listed p.cluster c is w.0 q w.1.1.1))
    | inr n ↦ ap cluster_of (mv.others q ne n)
  ]

  shorter : d.label ≡ c.label → IsShorter core c d
  shorter same = record {
    label_is = same;
    fewer = λ q m. elim (swap.back m.0 q m.1) [
      | inl l ↦ (λ s. l.0 (placed_once ps cs k p.cluster c is m.0 p.at q l.1.0 (subst (λ n. slice_get c.members p.at ≡ Some n) (sym s) stands_at)), (m.0, l.1.0))
      | inr g ↦
          let end = g.1.1 in (
            λ s.
                let one : end.0 ≡ p.at = placed_once ps cs k p.cluster c is end.0 p.at q end.1.1 (subst (λ n. slice_get c.members p.at ≡ Some n) (sym s) stands_at) in
                let top : end.0 + 1 ≡ length c.members = end.1.0 in
                let low : p.at + 1 < length c.members = g.1.0 in
                omega (arith, one, top, low),
            (end.0, end.1.1),
          )
    ];
    kept = λ q ne m. elim (swap.forth m.0 q (other_place m.0 q ne m.1) m.1) [ inl f ↦ (m.0, f) | inr g ↦ (p.at, g.1) ];
  }

  pub taken : d.label ≡ c.label → IsTakenOut ps cs core p.cluster qs ds
  taken same = record {
    placed = record { placed = taken_placed; listed = taken_listed };
    absent = mv.absent;
    was = ap cluster_of at;
    places = taken_places;
    cluster = some_is (λ x. IsSomeAnd (slab.get ds p.cluster) (IsShorter core x)) is (some_is (IsShorter core c) up.changed (shorter same));
    others = up.others;
  }

pub removed_same : {X : Type 0} (ps : map.FinMap nat_cmp X) (core : ℕ) → map.get (map.remove ps core) core ≡ None
removed_same ps core = map.get-remove nat_cmp_total ps core core ∙ tied core core refl (map.get ps core)

pub removed_other : {X : Type 0} (ps : map.FinMap nat_cmp X) (core q : ℕ) → q ≢ core → map.get (map.remove ps core) q ≡ map.get ps q
removed_other ps core q ne = map.get-remove nat_cmp_total ps core q ∙ untied q core ne (map.get ps q)

-- the last one of the list took the place of the core
pub taken_moved : (ps qs : Places) (cs : Clusters) → ArePlaced ps cs → (core : ℕ) (p : Place) (c d : Cluster) (m : ℕ) → Some p ≡ map.get ps core → Some c ≡ slab.get cs p.cluster → d.label ≡ c.label
    → IsSwappedOut c.members p.at d.members → Some m ≡ slice_get d.members p.at → qs ≡ replaced (map.remove ps core) m p → IsTakenOut ps cs core p.cluster qs (slab.with_value cs p.cluster d)
taken_moved ps qs cs k core p c d m at is same swap moved new =
    let back = swap.back p.at m (sym moved) in
    let last : (i : ℕ) × (slice_get c.members i ≡ Some m) = elim back [ inl l ↦ absurd (l.0 refl) | inr r ↦ (r.1.1.0, r.1.1.1.1) ] in
    let in_c : (q : ℕ) → slice_get d.members p.at ≡ Some q → q ≡ m = λ q e. same_value e (sym moved) in
    let stood = some_and (slab.get cs p.cluster) _ (k.placed core p (sym at)) in
    let at_core : slice_get c.members p.at ≡ Some core = subst (λ (x : Cluster). slice_get x.members p.at ≡ Some core) (same_value stood.1 (sym is)) stood.2 in
    let old : map.get ps m ≡ Some (record { cluster = p.cluster; at = last.0 }) = k.listed p.cluster c (sym is) last.0 m last.1 in
    let ne : m ≢ core = λ s.
    let one : last.0 ≡ p.at = ap (λ (x : Place). x.at) (same_value old (subst (λ n. map.get ps n ≡ Some p) (sym s) (sym at))) in
    elim back [
      | inl l ↦ l.0 refl
      | inr r ↦
          let again : r.1.1.0 ≡ p.at = placed_once ps cs k p.cluster c (sym is) r.1.1.0 p.at m r.1.1.1.1 (subst (λ n. slice_get c.members p.at ≡ Some n) (sym s) at_core) in
          let top : r.1.1.0 + 1 ≡ length c.members = r.1.1.1.0 in
          let low : p.at + 1 < length c.members = r.1.0 in
          omega (arith, again, top, low)
    ] in
    let there : map.get (map.remove ps core) m ≡ Some (record { cluster = p.cluster; at = last.0 }) = removed_other ps core m ne ∙ old in
    let put : qs ≡ map.insert (map.remove ps core) m p = new ∙ ap (λ o. cond (is_some o) (map.insert (map.remove ps core) m p) (map.remove ps core)) there in
    taken ps qs cs (slab.with_value cs p.cluster d) core p c d k (sym at) (sym is) (lent cs p.cluster c d is) swap
    (record {
      absent = ap (λ n. map.get n core) put ∙ (apart (map.remove ps core) m p core (λ s. ne (sym s)) ∙ removed_same ps core);
      moved = λ q e. ap (λ n. map.get n q) put ∙ (ap (map.get (map.insert (map.remove ps core) m p)) (in_c q e) ∙ here (map.remove ps core) m p);
      others = λ q other n. ap (λ x. map.get x q) put ∙ (apart (map.remove ps core) m p q (λ s. n (sym moved ∙ ap (λ x. Some x) (sym s))) ∙ removed_other ps core q other);
    }) same

-- the core was the last one of the list
pub taken_last : (ps qs : Places) (cs : Clusters) → ArePlaced ps cs → (core : ℕ) (p : Place) (c d : Cluster) → Some p ≡ map.get ps core → Some c ≡ slab.get cs p.cluster → d.label ≡ c.label
    → IsSwappedOut c.members p.at d.members → None ≡ slice_get d.members p.at → qs ≡ map.remove ps core → IsTakenOut ps cs core p.cluster qs (slab.with_value cs p.cluster d)
taken_last ps qs cs k core p c d at is same swap none new =
    taken ps qs cs (slab.with_value cs p.cluster d) core p c d k (sym at) (sym is) (lent cs p.cluster c d is) swap
    (record {
      absent = ap (λ n. map.get n core) new ∙ removed_same ps core;
      moved = λ q e. absurd (no_value (sym none) e);
      others = λ q other n. ap (λ x. map.get x q) new ∙ removed_other ps core q other;
    }) same

-- a core that is placed stands at a place that is within the list
pub within_list : (ps : Places) (cs : Clusters) → ArePlaced ps cs → (core : ℕ) (p : Place) (c : Cluster) → Some p ≡ map.get ps core → Some c ≡ slab.get cs p.cluster → p.at < length c.members
within_list ps cs k core p c at is =
    let s = some_and (slab.get cs p.cluster) _ (k.placed core p (sym at)) in
    slice_get_within c.members p.at core (subst (λ (x : Cluster). slice_get x.members p.at ≡ Some core) (same_value s.1 (sym is)) s.2)

pub no_such : (ps : Places) (cs : Clusters) → ArePlaced ps cs → (core : ℕ) (p : Place) → Some p ≡ map.get ps core → None ≡ slab.get cs p.cluster → ⊥
no_such ps cs k core p at none = no_value (sym none) (some_and (slab.get cs p.cluster) _ (k.placed core p (sym at))).1

pub some_there : {X : Type 0} (o : Option X) → IsSome o → (x : X) × (o ≡ Some x)
some_there None h = absurd (cc)
some_there (Some x) h = (x, refl)

pub not_absent : {X : Type 0} (o : Option X) → None ≡ o → IsSome o → ⊥
not_absent o e h = let x = some_there o h in no_value (sym e) x.1

pub placed_of : (ps : Places) (cs : Clusters) → Kept ps cs → ArePlaced ps cs
placed_of ps cs k = record { placed = k.placed; listed = k.listed }
