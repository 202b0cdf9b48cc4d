-- One more core at the end of a cluster's list.
use Rattle.std.proofs.Common.{◌≡◌, ℕ, suc, zero, false, cond, List, [], ◌∷◌, ◌++◌, length, refl, sym, ap, subst, ◌∙◌, None, Some, IsSome, IsSomeAnd, inl, inr, ◌⊎◌, slice_get, arith, min}
use Rattle.std.proofs.lemmas.Bool.{cases_eq}
use Rattle.std.specs.declared.option.Option.{Option}
use Rattle.std.specs.Ordering.{nat_cmp, eq_by_cmp}
use Rattle.std.specs.Cmp.{nat_cmp_total, eq_by_cmp_equiv, unsigned_tied}
use Rattle.std.proofs.lemmas.Bool.Decides.{eqb_tells}
use Rattle.std.specs.FinMap as map
use Rattle.slab.specs.Slab as slab
use Rattle.label_book.specs.declared.cluster.Place.{Place}
use Rattle.label_book.specs.declared.cluster.Cluster.{Cluster}
use Rattle.std.specs.Option.{option_map}
use Rattle.label_book.specs.inside.Kept.{Places, Clusters, Kept, labels_of, label_or, label_at}
use Rattle.label_book.specs.Labels.{IsLeastOf}
use Rattle.label_book.specs.inside.Steps.{relabel, IsWith}
use Rattle.label_book.proofs.Views.{same_value, no_value, some_and, known, get_label, labels_same, one_cluster, labelled_at}
use Rattle.slab.proofs.SlabLemmas.{Updates-with_value}

pub in_front : (xs ys : List ℕ) (i x : ℕ) → slice_get xs i ≡ Some x → slice_get (xs ++ ys) i ≡ Some x
in_front [] ys i x e = absurd (no_value refl e)
in_front (y ∷ xs) ys zero x e = e
in_front (y ∷ xs) ys (suc i) x e = in_front xs ys i x e

pub at_end : (xs : List ℕ) (x : ℕ) → slice_get (xs ++ x ∷ []) (length xs) ≡ Some x
at_end [] x = refl
at_end (y ∷ xs) x = at_end xs x

pub last_or : (xs : List ℕ) (y i x : ℕ) → slice_get (xs ++ y ∷ []) i ≡ Some x → (slice_get xs i ≡ Some x) ⊎ ((i ≡ length xs) × (x ≡ y))
last_or [] y zero x e = inr (refl, sym (same_value refl e))
last_or [] y (suc i) x e = absurd (no_value refl e)
last_or (z ∷ xs) y zero x e = inl e
last_or (z ∷ xs) y (suc i) x e = elim (last_or xs y i x e) [ inl f ↦ inl f | inr g ↦ inr (ap suc g.0, g.1) ]

pub some_is : {X : Type 0} (F : X → Type 0) {o : Option X} {x : X} → o ≡ Some x → F x → IsSomeAnd o F
some_is F e f = subst (λ z. IsSomeAnd z F) (sym e) f

pub here : {X : Type 0} (m : map.FinMap nat_cmp X) (k : ℕ) (v : X) → map.get (map.insert m k v) k ≡ Some v
here m k v = map.get-insert nat_cmp_total m k v k ∙ ap (λ b. cond b (Some v) (map.get m k)) ((eq_by_cmp_equiv nat_cmp_total).refl k)

pub apart : {X : Type 0} (m : map.FinMap nat_cmp X) (k : ℕ) (v : X) (q : ℕ) → (q ≡ k → ⊥) → map.get (map.insert m k v) q ≡ map.get m q
apart m k v q ne =
    let untied : eq_by_cmp nat_cmp q k ≡ false = unsigned_tied q k ∙ (elim (eqb_tells q k) [ inl t ↦ absurd (ne t.1) | inr f ↦ f.0 ]) in
    map.get-insert nat_cmp_total m k v q ∙ ap (λ b. cond b (Some v) (map.get m q)) untied

min_is : (a b : ℕ) → (min a b ≡ a) ⊎ (min a b ≡ b)
min_is a b = elim (cases_eq (min a b) a) [ inl e ↦ inl e | inr ne ↦ inr (omega arith) ]

pub tied : (q k : ℕ) → q ≡ k → {X : Type 0} (o : Option X) → cond (eq_by_cmp nat_cmp q k) None o ≡ None
tied q k e o = elim (eqb_tells q k) [ inl t ↦ ap (λ b. cond b None o) (unsigned_tied q k ∙ t.0) | inr f ↦ absurd (f.1 e) ]

pub untied : (q k : ℕ) → (q ≡ k → ⊥) → {X : Type 0} (o : Option X) → cond (eq_by_cmp nat_cmp q k) None o ≡ o
untied q k ne o = elim (eqb_tells q k) [ inl t ↦ absurd (ne t.1) | inr f ↦ ap (λ b. cond b None o) (unsigned_tied q k ∙ f.0) ]

-- the label is the least with one more core
pub lesser_label : (label : ℕ) (xs : List ℕ) (core : ℕ) → IsLeastOf label xs → IsLeastOf (min label core) (xs ++ core ∷ [])
lesser_label label xs core l = (
  elim (min_is label core) [
    | inl a ↦ (l.0.0, subst (λ n. slice_get (xs ++ core ∷ []) l.0.0 ≡ Some n) (sym a) (in_front xs _ l.0.0 label l.0.1))
    | inr b ↦ (length xs, subst (λ n. slice_get (xs ++ core ∷ []) (length xs) ≡ Some n) (sym b) (at_end xs core))
  ],
  λ i q e. elim (last_or xs core i q e) [ inl f ↦ let le = l.1 i q f in omega (arith, le) | inr g ↦ omega (arith, g.1) ],
)

pub alone : (core : ℕ) → IsLeastOf core ([] ++ core ∷ [])
alone core = ((0, refl), λ i q e. elim (last_or [] core i q e) [ inl f ↦ absurd (no_value refl f) | inr g ↦ omega (arith, g.1) ])

-- a core that stood still stands
still : (cs ds : Clusters) (h : ℕ) (d : Cluster) (xs : List ℕ) (core : ℕ) → ((c : Cluster) → slab.get cs h ≡ Some c → c.members ≡ xs) → slab.Updates cs ds h (Some d) → d.members ≡ xs ++ core ∷ []
    → (q : ℕ) (r : Place) → IsSomeAnd (slab.get cs r.cluster) (λ c. slice_get c.members r.at ≡ Some q) → IsSomeAnd (slab.get ds r.cluster) (λ c. slice_get c.members r.at ≡ Some q)
still cs ds h d xs core was up is q r old = elim (cases_eq r.cluster h) [
  | inl s ↦
      let there = some_and (slab.get cs r.cluster) _ old in
      let list : there.0.members ≡ xs = was there.0 (subst (λ n. slab.get cs n ≡ Some there.0) s there.1) in
      some_is (λ c. slice_get c.members r.at ≡ Some q) (ap (slab.get ds) s ∙ up.changed)
      (subst (λ ys. slice_get ys r.at ≡ Some q) (sym is) (in_front xs _ r.at q (subst (λ ys. slice_get ys r.at ≡ Some q) list there.2)))
  | inr ne ↦ subst (λ o. IsSomeAnd o (λ c. slice_get c.members r.at ≡ Some q)) (sym (up.others r.cluster ne)) old
]

-- the book after `core` was put at the end of the list `xs` of the cluster `h`, which is empty where there was no such cluster
pub added : (ps : Places) (cs ds : Clusters) → Kept ps cs → (h core : ℕ) (d : Cluster) (xs : List ℕ) → map.get ps core ≡ None
    → ((c : Cluster) → slab.get cs h ≡ Some c → c.members ≡ xs) → ((i q : ℕ) → slice_get xs i ≡ Some q → map.get ps q ≡ Some (record { cluster = h; at = i }))
    → slab.Updates cs ds h (Some d) → d.members ≡ xs ++ core ∷ [] → IsLeastOf d.label d.members
    → Kept (map.insert ps core (record { cluster = h; at = length xs })) ds
added ps cs ds k h core d xs new was held up is least =
    let p : Place = record { cluster = h; at = length xs } in
    let other : (q : ℕ) (r : Place) → map.get ps q ≡ Some r → map.get (map.insert ps core p) q ≡ Some r
    = λ q r e. apart ps core p q (λ s. no_value new (subst (λ n. map.get ps n ≡ Some r) s e)) ∙ e in
    record {
      placed = λ q r at. elim (cases_eq q core) [
        | inl s ↦
            let same : p ≡ r = same_value (here ps core p) (subst (λ n. map.get (map.insert ps core p) n ≡ Some r) s at) in
            subst (λ (x : Place). IsSomeAnd (slab.get ds x.cluster) (λ c. slice_get c.members x.at ≡ Some q)) same
            (some_is (λ c. slice_get c.members (length xs) ≡ Some q) up.changed (subst (λ ys. slice_get ys (length xs) ≡ Some q) (sym is) (subst (λ n. slice_get (xs ++ core ∷ []) (length xs) ≡ Some n) (sym s) (at_end xs core))))
        | inr ne ↦
            let old : map.get ps q ≡ Some r = sym (apart ps core p q ne) ∙ at in
            still cs ds h d xs core was up is q r (k.placed q r old)
      ];
      listed = λ g c e i q m. elim (cases_eq g h) [
        | inl s ↦
            let same : d ≡ c = same_value up.changed (subst (λ n. slab.get ds n ≡ Some c) s e) in
            subst (λ n. map.get (map.insert ps core p) q ≡ Some (record { cluster = n; at = i })) (sym s)
            (elim (last_or xs core i q (subst (λ ys. slice_get ys i ≡ Some q) is (subst (λ (x : Cluster). slice_get x.members i ≡ Some q) (sym same) m))) [
              | inl f ↦ other q _ (held i q f)
              | inr t ↦ subst (λ n. map.get (map.insert ps core p) q ≡ Some (record { cluster = h; at = n })) (sym t.0) (subst (λ n. map.get (map.insert ps core p) n ≡ Some p) (sym t.1) (here ps core p))
            ])
        | inr ne ↦ other q _ (k.listed g c (sym (up.others g ne) ∙ e) i q m)
      ];
      least = λ g c e. elim (cases_eq g h) [
        | inl s ↦ subst (λ (x : Cluster). IsLeastOf x.label x.members) (same_value up.changed (subst (λ n. slab.get ds n ≡ Some c) s e)) least
        | inr ne ↦ k.least g c (sym (up.others g ne) ∙ e)
      ];
    }

-- two books with the same look-ups
pub kept_alike : (ps ds : Places) (cs es : Clusters) → Kept ps cs → ((q : ℕ) → map.get ds q ≡ map.get ps q) → ((h : ℕ) → slab.get es h ≡ slab.get cs h) → Kept ds es
kept_alike ps ds cs es k f g = record {
  placed = λ q r at. subst (λ o. IsSomeAnd o (λ c. slice_get c.members r.at ≡ Some q)) (sym (g r.cluster)) (k.placed q r (sym (f q) ∙ at));
  listed = λ h c e i q m. f q ∙ k.listed h c (sym (g h) ∙ e) i q m;
  least = λ h c e. k.least h c (sym (g h) ∙ e);
}

same_labels : (cs es : Clusters) → ((h : ℕ) → slab.get es h ≡ slab.get cs h) → (o : Option Place) → option_map (label_at es) o ≡ option_map (label_at cs) o
same_labels cs es g None = refl
same_labels cs es g (Some r) = ap (λ o. Some (label_or o)) (g r.cluster)

pub labels_alike : (ps ds : Places) (cs es : Clusters) → ((q : ℕ) → map.get ds q ≡ map.get ps q) → ((h : ℕ) → slab.get es h ≡ slab.get cs h) → labels_of ds es ≡ labels_of ps cs
labels_alike ps ds cs es f g = labels_same _ _ (λ q. get_label ds es q ∙ (ap (option_map (label_at es)) (f q) ∙ (same_labels cs es g (map.get ps q) ∙ sym (get_label ps cs q))))

-- put in and taken out
pub put_taken : (cs ds es : Clusters) (h : ℕ) (d : Cluster) → slab.get cs h ≡ None → slab.Updates cs ds h (Some d) → slab.Updates ds es h None → (g : ℕ) → slab.get es g ≡ slab.get cs g
put_taken cs ds es h d none up down g = elim (cases_eq g h) [
  | inl s ↦ ap (slab.get es) s ∙ (down.changed ∙ (sym none ∙ sym (ap (slab.get cs) s)))
  | inr ne ↦ down.others g ne ∙ up.others g ne
]

-- a cluster of one core, where no cluster was
pub kept_single : (ps : Places) (cs ds : Clusters) → Kept ps cs → (h core : ℕ) (d : Cluster) → map.get ps core ≡ None → slab.get cs h ≡ None → slab.Updates cs ds h (Some d)
    → d.members ≡ [] ++ core ∷ [] → d.label ≡ core → Kept (map.insert ps core (record { cluster = h; at = 0 })) ds
kept_single ps cs ds k h core d new none up is label =
    added ps cs ds k h core d [] new (λ c e. absurd (no_value none e)) (λ i q e. absurd (no_value refl e)) up is
    (subst (λ n. IsLeastOf n d.members) (sym label) (subst (IsLeastOf core) (sym is) (alone core)))

pub labels_single : (ps : Places) (cs ds : Clusters) → Kept ps cs → (h core : ℕ) (d : Cluster) → map.get ps core ≡ None → slab.get cs h ≡ None → slab.Updates cs ds h (Some d)
    → d.label ≡ core → labels_of (map.insert ps core (record { cluster = h; at = 0 })) ds ≡ map.insert (labels_of ps cs) core core
labels_single ps cs ds k h core d new none up label =
    let p : Place = record { cluster = h; at = 0 } in
    labels_same _ _ (λ q. elim (cases_eq q core) [
      | inl s ↦
          subst (λ n. map.get (labels_of (map.insert ps core p) ds) n ≡ map.get (map.insert (labels_of ps cs) core core) n) (sym s)
          (get_label _ ds core ∙ (ap (option_map (label_at ds)) (here ps core p) ∙ (ap (λ o. Some (label_or o)) up.changed ∙ (ap (λ n. Some n) label ∙ sym (here (labels_of ps cs) core core)))))
      | inr ne ↦
          get_label _ ds q
          ∙ (ap (option_map (label_at ds)) (apart ps core p q ne)
          ∙ (elim (known (map.get ps q)) [
            | inl gone ↦ ap (option_map (label_at ds)) gone ∙ sym (ap (option_map (label_at cs)) gone)
            | inr r ↦
                let there = some_and (slab.get cs r.0.cluster) _ (k.placed q r.0 r.1) in
                let moved : r.0.cluster ≡ h → ⊥ = λ e. no_value none (subst (λ n. slab.get cs n ≡ Some there.0) e there.1) in
                ap (option_map (label_at ds)) r.1 ∙ (ap (λ o. Some (label_or o)) (up.others r.0.cluster moved) ∙ sym (ap (option_map (label_at cs)) r.1))
          ]
          ∙ (sym (get_label ps cs q) ∙ sym (apart (labels_of ps cs) core core q ne))))
    ])

-- no label, no place
pub unplaced : (ps : Places) (cs : Clusters) (q : ℕ) → map.get (labels_of ps cs) q ≡ None → map.get ps q ≡ None
unplaced ps cs q none = elim (known (map.get ps q)) [
  | inl gone ↦ gone
  | inr r ↦ absurd (no_value (sym (get_label ps cs q) ∙ none) (ap (option_map (label_at cs)) r.1))
]

-- put in and taken out, of the places
pub put_out : (ps : Places) (core : ℕ) (p : Place) → map.get ps core ≡ None → (q : ℕ) → map.get (map.remove (map.insert ps core p) core) q ≡ map.get ps q
put_out ps core p new q = elim (cases_eq q core) [
  | inl s ↦ map.get-remove nat_cmp_total (map.insert ps core p) core q ∙ (tied q core s (map.get (map.insert ps core p) q) ∙ sym (ap (map.get ps) s ∙ new))
  | inr ne ↦ map.get-remove nat_cmp_total (map.insert ps core p) core q ∙ (untied q core ne (map.get (map.insert ps core p) q) ∙ apart ps core p q ne)
]

-- written back as it was
pub same_again : (cs ds : Clusters) (h : ℕ) (c : Cluster) → slab.get cs h ≡ Some c → slab.Updates cs ds h (Some c) → (g : ℕ) → slab.get ds g ≡ slab.get cs g
same_again cs ds h c is up g = elim (cases_eq g h) [
  | inl s ↦ ap (slab.get ds) s ∙ (up.changed ∙ sym (ap (slab.get cs) s ∙ is))
  | inr ne ↦ up.others g ne
]

pub kept_add : (ps : Places) (cs ds : Clusters) → Kept ps cs → (h core : ℕ) (c d : Cluster) → map.get ps core ≡ None → slab.get cs h ≡ Some c → slab.Updates cs ds h (Some d)
    → d.members ≡ c.members ++ core ∷ [] → d.label ≡ min c.label core → Kept (map.insert ps core (record { cluster = h; at = length c.members })) ds
kept_add ps cs ds k h core c d new there up is label =
    added ps cs ds k h core d c.members new (λ x e. ap (λ (y : Cluster). y.members) (same_value e there)) (k.listed h c there) up is
    (subst (λ n. IsLeastOf n d.members) (sym label) (subst (IsLeastOf (min c.label core)) (sym is) (lesser_label c.label c.members core (k.least h c there))))

pub same_label : (a b : ℕ) → a ≡ b → (to : ℕ) → relabel a to b ≡ to
same_label a b e to = elim (eqb_tells b a) [ inl t ↦ ap (λ x. cond x to b) t.0 | inr f ↦ absurd (f.1 (sym e)) ]

pub other_label : (a b : ℕ) → (b ≡ a → ⊥) → (to : ℕ) → relabel a to b ≡ b
other_label a b ne to = elim (eqb_tells b a) [ inl t ↦ absurd (ne t.1) | inr f ↦ ap (λ x. cond x to b) f.0 ]

-- the new label of a core that had one
moved : (ps : Places) (cs ds : Clusters) → Kept ps cs → (label to : ℕ) (p : Place) (c d : Cluster) → map.get ps label ≡ Some p → slab.get cs p.cluster ≡ Some c → c.label ≡ label
    → slab.Updates cs ds p.cluster (Some d) → d.label ≡ to → (q : ℕ) (r : Place) → map.get ps q ≡ Some r → label_at ds r ≡ relabel label to (label_at cs r)
moved ps cs ds k label to p c d at there named up lesser q r is = elim (cases_eq r.cluster p.cluster) [
  | inl s ↦
      let was : label_at cs r ≡ label = ap (λ h. label_or (slab.get cs h)) s ∙ (ap label_or there ∙ named) in
      ap (λ h. label_or (slab.get ds h)) s ∙ (ap label_or up.changed ∙ (lesser ∙ sym (same_label label (label_at cs r) (sym was) to)))
  | inr ne ↦
      let b = some_and (slab.get cs r.cluster) _ (k.placed q r is) in
      let apart_from : label_at cs r ≡ label → ⊥ = λ e.
      let its : b.0.label ≡ label = sym (ap label_or b.1) ∙ e in
      ne (sym (one_cluster ps cs k r.cluster b.0 b.1 p (subst (λ n. map.get ps n ≡ Some p) (sym its) at))) in
      ap label_or (up.others r.cluster ne) ∙ sym (other_label label (label_at cs r) apart_from to)
]

pub labels_add : (ps : Places) (cs ds : Clusters) → Kept ps cs → (label core : ℕ) (p : Place) (c d : Cluster) → map.get ps label ≡ Some p → map.get ps core ≡ None → slab.get cs p.cluster ≡ Some c → c.label ≡ label
    → slab.Updates cs ds p.cluster (Some d) → d.label ≡ min label core
    → IsWith (labels_of ps cs) label core (labels_of (map.insert ps core (record { cluster = p.cluster; at = length c.members })) ds)
labels_add ps cs ds k label core p c d at new there named up lesser q =
    let n : Place = record { cluster = p.cluster; at = length c.members } in
    let to = min label core in
    elim (eqb_tells q core) [
      | inl t ↦
          ap (map.get (labels_of (map.insert ps core n) ds)) t.1
          ∙ (get_label _ ds core ∙ (ap (option_map (label_at ds)) (here ps core n) ∙ (ap (λ o. Some (label_or o)) up.changed ∙ (ap (λ l. Some l) lesser
          ∙ sym (ap (λ b. cond b (Some to) (option_map (relabel label to) (map.get (labels_of ps cs) q))) t.0)))))
      | inr f ↦
          get_label _ ds q
          ∙ (ap (option_map (label_at ds)) (apart ps core n q f.1)
          ∙ (elim (known (map.get ps q)) [
            | inl gone ↦ ap (option_map (label_at ds)) gone ∙ sym (ap (λ o. option_map (relabel label to) (option_map (label_at cs) o)) gone)
            | inr r ↦
                ap (option_map (label_at ds)) r.1
                ∙ (ap (λ l. Some l) (moved ps cs ds k label to p c d at there named up lesser q r.0 r.1) ∙ sym (ap (λ o. option_map (relabel label to) (option_map (label_at cs) o)) r.1))
          ]
          ∙ (ap (option_map (relabel label to)) (sym (get_label ps cs q)) ∙ sym (ap (λ b. cond b (Some to) (option_map (relabel label to) (map.get (labels_of ps cs) q))) f.0))))
    ]

-- what the loan of a cluster leaves
pub lent : (cs : Clusters) (h : ℕ) (c d : Cluster) → Some c ≡ slab.get cs h → slab.Updates cs (slab.with_value cs h d) h (Some d)
lent cs h c d there = Updates-with_value cs h d (subst IsSome there refl)

pub add_ok : (ps new : Places) (cs : Clusters) → Kept ps cs → (label core : ℕ) (p : Place) (f g d : Cluster) (at : ℕ) → Some p ≡ map.get ps label → map.get (labels_of ps cs) label ≡ Some label
    → map.get (labels_of ps cs) core ≡ None → Some f ≡ slab.get cs p.cluster → Some g ≡ slab.get cs p.cluster → at ≡ length f.members → new ≡ map.insert ps core (record { cluster = p.cluster; at = at })
    → d ≡ record { label = min g.label core; members = g.members ++ core ∷ [] }
    → Kept new (slab.with_value cs p.cluster d) × IsWith (labels_of ps cs) label core (labels_of new (slab.with_value cs p.cluster d)) × (g.label ≡ label)
add_ok ps new cs k label core p f g d at placed has none there again len put is =
    let ds = slab.with_value cs p.cluster d in
    let same : f ≡ g = same_value (sym there) (sym again) in
    let to : new ≡ map.insert ps core (record { cluster = p.cluster; at = length g.members }) = put ∙ ap (λ n. map.insert ps core (record { cluster = p.cluster; at = n })) (len ∙ ap (λ (x : Cluster). length x.members) same) in
    let named : g.label ≡ label = same_value (labelled_at ps cs label p g (sym placed) (sym again)) has in
    let up = lent cs p.cluster g d again in
    let free = unplaced ps cs core none in
    let least : d.label ≡ min g.label core = ap (λ (x : Cluster). x.label) is in (
      subst (λ m. Kept m ds) (sym to) (kept_add ps cs ds k p.cluster core g d free (sym again) up (ap (λ (x : Cluster). x.members) is) least),
      subst (λ m. IsWith (labels_of ps cs) label core (labels_of m ds)) (sym to)
          (labels_add ps cs ds k label core p g d (sym placed) free (sym again) named up (least ∙ ap (λ n. min n core) named)),
      named,
    )

pub add_err : (ps new : Places) (cs : Clusters) → Kept ps cs → (core h at : ℕ) (g d : Cluster) → map.get (labels_of ps cs) core ≡ None → Some g ≡ slab.get cs h
    → new ≡ map.remove (map.insert ps core (record { cluster = h; at = at })) core → d ≡ g
    → Kept new (slab.with_value cs h d) × (labels_of new (slab.with_value cs h d) ≡ labels_of ps cs)
add_err ps new cs k core h at g d none again put is =
    let up : slab.Updates cs (slab.with_value cs h d) h (Some g) = subst (λ x. slab.Updates cs (slab.with_value cs h d) h (Some x)) is (lent cs h g d again) in
    let f = λ (q : ℕ). ap (λ m. map.get m q) put ∙ put_out ps core (record { cluster = h; at = at }) (unplaced ps cs core none) q in
    let e = same_again cs (slab.with_value cs h d) h g (sym again) up in
    (kept_alike ps new cs (slab.with_value cs h d) k f e, labels_alike ps new cs (slab.with_value cs h d) f e)
