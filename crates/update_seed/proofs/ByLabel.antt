-- Numbers beside their labels: in order, in parts, and split by label.
use Rattle.std.proofs.Common.{◌≡◌, ℕ, zero, suc, ◌+◌, ◌-◌, ◌<◌, ◌≤◌, true, false, Bool, nat_eq, List, [], ◌∷◌, ◌++◌, length, refl, sym, ap, subst, ◌∙◌, None, Some, inl, inr, ◌⊎◌, slice_get, get_or, arith}
use Rattle.std.specs.declared.option.Option.{Option}
use Rattle.std.specs.Option.{option_map}
use Rattle.std.specs.List.{Contains, IsDistinct}
use Rattle.std.specs.List.Sorted.{IsPermutation, IsNonDecreasingBy, IsPartitionPoint}
use Rattle.std.specs.Cmp.{nat_eq_equiv}
use Rattle.std.proofs.lemmas.Bool.{cases_lt, ltb-true, ltb-false, leb-true, leb-false}
use lib.Dec.{ltb, leb}
use Rattle.std.proofs.lemmas.Bool.Decides.{eqb_tells}
use Rattle.std.proofs.lemmas.List.Sorted.{Contains-permutation, IsPermutation-map, IsPermutation-sym}
use Rattle.std.proofs.lemmas.Map.Keys.{IsDistinct-IsPermutation, apart_from_distinct}
use Rattle.std.proofs.lemmas.Option.{slice_get_within, slice_get-get_or, get_or_from_slice_get, slice_get-map}
use Rattle.label_book.specs.Labels.{IsMember, EachOnce}
use Rattle.label_book.proofs.Views.{same_value, no_value}
use Rattle.label_book.proofs.Counting.{once_distinct}
use Rattle.label_book.proofs.Joined.{pushed, pushed_old, pushed_new}
use Rattle.label_book.proofs.Parted.{once_more}
use Rattle.update_seed.specs.declared.labelled.Labelled.{Labelled}
use Rattle.update_seed.specs.declared.former.Former.{Former}
use Rattle.update_seed.specs.inside.Ties.{IsRising}
use Rattle.update_seed.specs.inside.Split.{numbers_of, Has, IsByLabel, IsReordered, AreUnder, AreLabelsOf, AreSplit, IsPart, HasBefore, AreLabelsBefore, AreMade}
use Rattle.update_seed.proofs.Lists.{none}
use Rattle.update_seed.proofs.Heads.{rising_more}

-- a place that is there
pub present : {X : Type 0} (xs : List X) (k : ℕ) → k < length xs → (x : X) × (slice_get xs k ≡ Some x)
present [] k h = absurd (omega arith)
present (x ∷ xs) zero h = (x, refl)
present (x ∷ xs) (suc k) h = present xs k (omega arith)

-- what stands at a place of a list with one more
pub place_or : {X : Type 0} (xs : List X) (y : X) (i : ℕ) (a : X) → slice_get (xs ++ y ∷ []) i ≡ Some a → (slice_get xs i ≡ Some a) ⊎ ((i ≡ length xs) × (a ≡ y))
place_or [] y zero a e = inr (refl, sym (same_value refl e))
place_or [] y (suc i) a e = absurd (no_value refl e)
place_or (x ∷ xs) y zero a e = inl e
place_or (x ∷ xs) y (suc i) a e = elim (place_or xs y i a e) [ inl h ↦ inl h | inr r ↦ inr (omega (arith, r.0), r.1) ]

pub length_more : {X : Type 0} (xs : List X) (y : X) → length (xs ++ y ∷ []) ≡ suc (length xs)
length_more [] y = refl
length_more (x ∷ xs) y = ap suc (length_more xs y)

pub number_at : (list : List Labelled) (k : ℕ) (p : Labelled) → slice_get list k ≡ Some p → slice_get (numbers_of list) k ≡ Some p.number
number_at list k p e = slice_get-map (λ (p : Labelled). p.number) list k ∙ ap (option_map (λ (p : Labelled). p.number)) e

pub at_number : (list : List Labelled) (k q : ℕ) → slice_get (numbers_of list) k ≡ Some q → (p : Labelled) × ((slice_get list k ≡ Some p) × (p.number ≡ q))
at_number list k q e = at (slice_get list k) refl (sym (slice_get-map (λ (p : Labelled). p.number) list k) ∙ e)
  where
    at : (o : Option Labelled) → slice_get list k ≡ o → option_map (λ (p : Labelled). p.number) o ≡ Some q → (p : Labelled) × ((slice_get list k ≡ Some p) × (p.number ≡ q))
    at None is h = absurd (no_value refl h)
    at (Some p) is h = (p, (is, same_value refl h))

to_contains : {X : Type 0} (xs : List X) (k : ℕ) (x : X) → slice_get xs k ≡ Some x → Contains xs x
to_contains xs k x e = (k, slice_get_within xs k x e, get_or_from_slice_get xs k x x e)

from_contains : {X : Type 0} (xs : List X) (x : X) → Contains xs x → (k : ℕ) × (slice_get xs k ≡ Some x)
from_contains xs x c = (c.0, slice_get-get_or xs c.0 x c.1 ∙ ap (λ y. Some y) c.2)

pub moved : (xs ys : List Labelled) → IsPermutation xs ys → (l q : ℕ) → Has xs l q → Has ys l q
moved xs ys p l q h =
    let c = from_contains ys h.1.0 (Contains-permutation xs ys h.1.0 p (to_contains xs h.0 h.1.0 h.1.1.0)) in
    (c.0, (h.1.0, (c.1, h.1.1.1)))

distinct_lt : (ys : List ℕ) (i j core : ℕ) → IsDistinct nat_eq ys → i < j → slice_get ys i ≡ Some core → slice_get ys j ≡ Some core → ⊥
distinct_lt ys i j core d lt a b =
    let apart = apart_from_distinct nat_eq ys i j core d lt (slice_get_within ys j core b) in
    let x : get_or ys i core ≡ core = get_or_from_slice_get ys i core core a in
    let y : get_or ys j core ≡ core = get_or_from_slice_get ys j core core b in
    elim (eqb_tells (get_or ys i core) (get_or ys j core)) [
      | inl t ↦ let f : false ≡ true = sym apart ∙ t.0 in absurd (cc)
      | inr f ↦ f.1 (x ∙ sym y)
    ]

pub distinct_once : (ys : List ℕ) → IsDistinct nat_eq ys → EachOnce ys
distinct_once ys d i j core a b = elim (cases_lt i j) [
  | inl lt ↦ absurd (distinct_lt ys i j core d lt a b)
  | inr ge ↦ elim (cases_lt j i) [
    | inl lt ↦ absurd (distinct_lt ys j i core d lt b a)
    | inr le ↦ omega (arith, ge, le)
  ]
]

pub once_moved : (xs ys : List ℕ) → IsPermutation xs ys → EachOnce xs → EachOnce ys
once_moved xs ys p o = distinct_once ys (IsDistinct-IsPermutation nat_eq (λ x y. nat_eq_equiv.symm x y) xs ys p (once_distinct xs o))

pub reordered : (xs ys : List Labelled) → IsPermutation xs ys → IsReordered xs ys
reordered xs ys p = record {
  same = λ l q. (moved xs ys p l q, moved ys xs (IsPermutation-sym xs ys p) l q);
  once = once_moved (numbers_of xs) (numbers_of ys) (IsPermutation-map (λ (p : Labelled). p.number) xs ys p);
}

pub by_label : (xs : List Labelled) → IsNonDecreasingBy (λ (p : Labelled). p.label) xs → IsByLabel xs
by_label xs up i j p r le a b =
    let n = up i j p le (slice_get_within xs j r b) in
    let x : get_or xs i p ≡ p = get_or_from_slice_get xs i p p a in
    let y : get_or xs j p ≡ r = get_or_from_slice_get xs j r p b in
    let x' = ap (λ (s : Labelled). s.label) x in
    let y' = ap (λ (s : Labelled). s.label) y in
    omega (arith, n, x', y')

pub up_by_label : (xs : List Labelled) → IsByLabel xs → IsNonDecreasingBy (λ (p : Labelled). p.label) xs
up_by_label xs up i j d le h = up i j (get_or xs i d) (get_or xs j d) le (slice_get-get_or xs i d (omega (arith, le, h))) (slice_get-get_or xs j d h)

-- parts
pub part_none : (list : List Labelled) (start : ℕ) (r : List ℕ) → r ≡ [] → IsPart list start start r
part_none list start r e = record {
  are = λ q. (
    λ m. absurd (none q (subst (λ xs. IsMember xs q) e m)),
    λ h. let a = h.1.0 in let b = h.1.1.0 in absurd (omega (arith, a, b)),
  );
  once = λ o. subst EachOnce (sym e) (λ i j core a b. absurd (no_value refl a));
}

pub part_more : (list : List Labelled) (start i : ℕ) (p : Labelled) (r more : List ℕ) → IsPart list start i r → start ≤ i → slice_get list i ≡ Some p → more ≡ r ++ p.number ∷ []
    → IsPart list start (i + 1) more
part_more list start i p r more part low at is = record {
  are = λ q. (
    λ m. elim (pushed r p.number q (subst (λ xs. IsMember xs q) is m)) [
      | inl o ↦ let h = (part.are q).0 o in let less = h.1.1.0 in (h.0, (h.1.0, (omega (arith, less), h.1.1.1)))
      | inr e ↦ (i, (low, (omega arith, number_at list i p at ∙ ap (λ n. Some n) (sym e))))
    ],
    λ h. subst (λ xs. IsMember xs q) (sym is) (elim (cases_lt h.0 i) [
      | inl lt ↦ pushed_old r p.number q ((part.are q).1 (h.0, (h.1.0, (lt, h.1.1.1))))
      | inr ge ↦
          let less = h.1.1.0 in
          let same : h.0 ≡ i = omega (arith, ge, less) in
          let e = same_value (number_at list i p at) (subst (λ k. slice_get (numbers_of list) k ≡ Some q) same h.1.1.1) in
          subst (IsMember (r ++ p.number ∷ [])) e (pushed_new r p.number)
    ]),
  );
  once = λ o. subst EachOnce (sym is) (once_more r p.number (part.once o) (λ m.
      let h = (part.are p.number).0 m in
      let same = o h.0 i p.number h.1.1.1 (number_at list i p at) in
      let less = h.1.1.0 in
      absurd (omega (arith, same, less))));
}

-- the places from the first one with a label on, up to the last one, have it
pub part_under : (list : List Labelled) (start end label : ℕ) (r : List ℕ) → IsPart list start end r
    → ((k : ℕ) (p : Labelled) → slice_get list k ≡ Some p → k < start → p.label < label) → ((k : ℕ) (p : Labelled) → slice_get list k ≡ Some p → start ≤ k → label ≤ p.label)
    → ((k : ℕ) (p : Labelled) → slice_get list k ≡ Some p → k < end → p.label ≤ label) → ((k : ℕ) (p : Labelled) → slice_get list k ≡ Some p → end ≤ k → label < p.label)
    → AreUnder list label r
part_under list start end label r part before from within past = record {
  are = λ q. (
    λ m.
        let h = (part.are q).0 m in
        let p = at_number list h.0 q h.1.1.1 in
        let low = from h.0 p.0 p.1.0 h.1.0 in
        let high = within h.0 p.0 p.1.0 h.1.1.0 in
        (h.0, (p.0, (p.1.0, (omega (arith, low, high), p.1.1)))),
    λ h.
        let p = h.1.0 in
        let e = h.1.1.1.0 in
        let low : start ≤ h.0 = elim (cases_lt h.0 start) [ inl lt ↦ let l = before h.0 p h.1.1.0 lt in absurd (omega (arith, l, e)) | inr ge ↦ ge ] in
        let high : h.0 < end = elim (cases_lt h.0 end) [ inl lt ↦ lt | inr ge ↦ let l = past h.0 p h.1.1.0 ge in absurd (omega (arith, l, e)) ] in
        (part.are q).1 (h.0, (low, (high, number_at list h.0 p h.1.1.0 ∙ ap (λ n. Some n) h.1.1.1.1))),
  );
  once = part.once;
}

-- labels
pub labels_none : (list : List Labelled) (r : List ℕ) → r ≡ [] → AreLabelsBefore list 0 r
labels_none list r e = record {
  rising = subst IsRising (sym e) (λ i j a b lt x y. absurd (no_value refl x));
  are = λ l. (
    λ m. absurd (none l (subst (λ xs. IsMember xs l) e m)),
    λ h. let a = h.1.0 in absurd (omega (arith, a)),
  );
}

before_more : (list : List Labelled) (i l : ℕ) → HasBefore list i l → HasBefore list (i + 1) l
before_more list i l h = let a = h.1.0 in (h.0, (omega (arith, a), h.1.1))

-- a label above all before it
pub labels_more : (list : List Labelled) (i : ℕ) (p : Labelled) (r more : List ℕ) → AreLabelsBefore list i r → slice_get list i ≡ Some p
    → ((k : ℕ) (s : Labelled) → k < i → slice_get list k ≡ Some s → s.label < p.label) → more ≡ r ++ p.label ∷ [] → AreLabelsBefore list (i + 1) more
labels_more list i p r more b at above is = record {
  rising = subst IsRising (sym is) (rising_more r p.label b.rising (λ x m.
      let h = (b.are x).0 m in
      let less = above h.0 h.1.1.0 h.1.0 h.1.1.1.0 in
      let e = h.1.1.1.1 in
      omega (arith, less, e)));
  are = λ l. (
    λ m. elim (pushed r p.label l (subst (λ xs. IsMember xs l) is m)) [
      | inl o ↦ before_more list i l ((b.are l).0 o)
      | inr e ↦ (i, (omega arith, (p, (at, sym e))))
    ],
    λ h. subst (λ xs. IsMember xs l) (sym is) (elim (cases_lt h.0 i) [
      | inl lt ↦ pushed_old r p.label l ((b.are l).1 (h.0, (lt, h.1.1)))
      | inr ge ↦
          let less = h.1.0 in
          let same : h.0 ≡ i = omega (arith, ge, less) in
          let s = same_value at (subst (λ k. slice_get list k ≡ Some h.1.1.0) same h.1.1.1.0) in
          subst (IsMember (r ++ p.label ∷ [])) (ap (λ (x : Labelled). x.label) s ∙ h.1.1.1.1) (pushed_new r p.label)
    ]),
  );
}

-- the label of the one before it
pub labels_same : (list : List Labelled) (i : ℕ) (p : Labelled) (r : List ℕ) → AreLabelsBefore list i r → slice_get list i ≡ Some p → HasBefore list i p.label
    → AreLabelsBefore list (i + 1) r
labels_same list i p r b at has = record {
  rising = b.rising;
  are = λ l. (
    λ m. before_more list i l ((b.are l).0 m),
    λ h. elim (cases_lt h.0 i) [
      | inl lt ↦ (b.are l).1 (h.0, (lt, h.1.1))
      | inr ge ↦
          let less = h.1.0 in
          let same : h.0 ≡ i = omega (arith, ge, less) in
          let s = same_value at (subst (λ k. slice_get list k ≡ Some h.1.1.0) same h.1.1.1.0) in
          subst (IsMember r) (ap (λ (x : Labelled). x.label) s ∙ h.1.1.1.1) ((b.are p.label).1 has)
    ],
  );
}

pub labels_all : (list : List Labelled) (i : ℕ) (r : List ℕ) → AreLabelsBefore list i r → length list ≤ i → AreLabelsOf list r
labels_all list i r b high = record {
  rising = b.rising;
  are = λ l. (
    λ m. let h = (b.are l).0 m in (h.1.1.0.number, (h.0, (h.1.1.0, (h.1.1.1.0, (h.1.1.1.1, refl))))),
    λ h.
        let short = slice_get_within list h.1.0 h.1.1.0 h.1.1.1.0 in
        (b.are l).1 (h.1.0, (omega (arith, short, high), (h.1.1.0, (h.1.1.1.0, h.1.1.1.1.0)))),
  );
}

-- the label of the one before is less, or the same
pub above_last : (list : List Labelled) (i : ℕ) (d : Labelled) → IsByLabel list → i < length list → (get_or list (i - 1) d).label < (get_or list i d).label
    → (k : ℕ) (s : Labelled) → k < i → slice_get list k ≡ Some s → s.label < (get_or list i d).label
above_last list i d by h less k s lt at =
    let le = by k (i - 1) s (get_or list (i - 1) d) (omega (arith, lt)) at (slice_get-get_or list (i - 1) d (omega (arith, h))) in
    omega (arith, le, less)

pub same_last : (list : List Labelled) (i : ℕ) (d : Labelled) → IsByLabel list → i < length list → 0 < i → (get_or list i d).label ≤ (get_or list (i - 1) d).label
    → HasBefore list i (get_or list i d).label
same_last list i d by h some least =
    let at = slice_get-get_or list (i - 1) d (omega (arith, h)) in
    let le = by (i - 1) i (get_or list (i - 1) d) (get_or list i d) (omega arith) at (slice_get-get_or list i d h) in
    (i - 1, (omega (arith, some), (get_or list (i - 1) d, (at, omega (arith, le, least)))))

-- where a test turns
pub turns : (test : Labelled → Bool) (list : List Labelled) (i : ℕ) → IsPartitionPoint (λ y. test y ≡ true) (λ y. test y ≡ false) list i
    → ((k : ℕ) (p : Labelled) → slice_get list k ≡ Some p → k < i → test p ≡ true) × ((k : ℕ) (p : Labelled) → slice_get list k ≡ Some p → i ≤ k → test p ≡ false)
turns test list i point = (
  λ k p e h. subst (λ x. test x ≡ true) (get_or_from_slice_get list k p p e) (point.0 k p (omega arith) h),
  λ k p e h. subst (λ x. test x ≡ false) (get_or_from_slice_get list k p p e) (point.1 k p h (slice_get_within list k p e)),
)

-- the part between the two turns
pub between : (list : List Labelled) (start end i label : ℕ) (r : List ℕ) → IsPart list start i r → end ≤ i → (start ≤ end → i ≤ end) → end ≤ length list → start ≤ length list
    → IsPartitionPoint (λ (y : Labelled). ltb y.label label ≡ true) (λ (y : Labelled). ltb y.label label ≡ false) list start
    → IsPartitionPoint (λ (y : Labelled). leb y.label label ≡ true) (λ (y : Labelled). leb y.label label ≡ false) list end
    → AreUnder list label r
between list start end i label r part high low within first one two =
    let s = turns (λ (p : Labelled). ltb p.label label) list start one in
    let e = turns (λ (p : Labelled). leb p.label label) list end two in
    let order : start ≤ end = elim (cases_lt end start) [
      | inl lt ↦
          let p = present list end (omega (arith, lt, first)) in
          let less = ltb-true p.0.label label (s.0 end p.0 p.1 lt) in
          let more = leb-false p.0.label label (e.1 end p.0 p.1 (omega arith)) in
          absurd (omega (arith, less, more))
      | inr ge ↦ ge
    ] in
    let up = low order in
    let same : i ≡ end = omega (arith, high, up) in
    part_under list start end label r (subst (λ k. IsPart list start k r) same part)
    (λ k p at h. ltb-true p.label label (s.0 k p at h)) (λ k p at h. ltb-false p.label label (s.1 k p at h))
    (λ k p at h. leb-true p.label label (e.0 k p at h)) (λ k p at h. leb-false p.label label (e.1 k p at h))

-- the former clusters
pub made_none : (lost seeds : List Labelled) (labels : List ℕ) (list : List Former) → list ≡ [] → AreMade lost seeds labels 0 list
made_none lost seeds labels list e = subst (AreMade lost seeds labels 0) (sym e) (record {
  long = refl;
  label = λ j f a. absurd (no_value refl a);
  lost_are = λ j f a. absurd (no_value refl a);
  seeds_are = λ j f a. absurd (no_value refl a);
})

pub made_more : (lost seeds : List Labelled) (labels : List ℕ) (i : ℕ) (list more : List Former) (g : Former) → AreMade lost seeds labels i list → slice_get labels i ≡ Some g.label
    → AreUnder lost g.label g.lost → AreUnder seeds g.label g.seeds → more ≡ list ++ g ∷ [] → AreMade lost seeds labels (i + 1) more
made_more lost seeds labels i list more g m at under_lost under_seeds is = subst (AreMade lost seeds labels (i + 1)) (sym is) (record {
  long = let e = length_more list g in let l = m.long in omega (arith, e, l);
  label = λ j f a. elim (place_or list g j f a) [
    | inl b ↦ m.label j f b
    | inr b ↦ subst (λ k. slice_get labels k ≡ Some f.label) (sym (b.0 ∙ m.long)) (at ∙ ap (λ (x : Former). Some x.label) (sym b.1))
  ];
  lost_are = λ j f a. elim (place_or list g j f a) [
    | inl b ↦ m.lost_are j f b
    | inr b ↦ subst (λ (x : Former). AreUnder lost x.label x.lost) (sym b.1) under_lost
  ];
  seeds_are = λ j f a. elim (place_or list g j f a) [
    | inl b ↦ m.seeds_are j f b
    | inr b ↦ subst (λ (x : Former). AreUnder seeds x.label x.seeds) (sym b.1) under_seeds
  ];
})

-- what stands under a label doesn't hang on the order
pub under_before : (xs ys : List Labelled) (label : ℕ) (r : List ℕ) → IsReordered xs ys → AreUnder ys label r → AreUnder xs label r
under_before xs ys label r o u = record {
  are = λ q. (λ m. (o.same label q).1 ((u.are q).0 m), λ h. (u.are q).1 ((o.same label q).0 h));
  once = λ x. u.once (o.once x);
}

pub split : (lost seeds lost' seeds' : List Labelled) (labels : List ℕ) (i : ℕ) (list : List Former) → IsReordered lost lost' → IsReordered seeds seeds' → AreLabelsOf lost' labels
    → AreMade lost' seeds' labels i list → length labels ≤ i → AreSplit lost seeds list
split lost seeds lost' seeds' labels i list ol os are m high = record {
  lost_are = λ j f e. under_before lost lost' f.label f.lost ol (m.lost_are j f e);
  seeds_are = λ j f e. under_before seeds seeds' f.label f.seeds os (m.seeds_are j f e);
  some = λ j f e. let h = (are.are f.label).0 (j, m.label j f e) in (h.0, (ol.same f.label h.0).1 h.1);
  all = λ l q h.
      let at = (are.are l).1 (q, (ol.same l q).0 h) in
      let short = slice_get_within labels at.0 l at.1 in
      let long = m.long in
      let f = present list at.0 (omega (arith, short, high, long)) in
      (at.0, (f.0, (f.1, same_value (m.label at.0 f.0 f.1) at.1)));
  rising = λ j k f g lt a b. are.rising j k f.label g.label lt (m.label j f a) (m.label k g b);
}
