-- A cluster parts: the lists leave it, the groups become clusters, and the rest stays one.
use Rattle.std.proofs.Common.{◌≡◌, ◌≢◌, ℕ, Bool, true, false, zero, suc, ◌+◌, ◌<◌, List, [], ◌∷◌, ◌++◌, length, refl, sym, ap, subst, ◌∙◌, None, Some, IsSome, IsSomeAnd, is_some, inl, inr, ◌⊎◌, slice_get, get_or, take, min, arith, length-take}
use Rattle.std.proofs.lemmas.Bool.{cases_eq}
use Rattle.std.proofs.lemmas.List.{take_more}
use Rattle.std.proofs.lemmas.Option.{slice_get_read, slice_get_within}
use Rattle.std.specs.declared.option.Option.{Option}
use Rattle.std.specs.FinMap as map
use Rattle.label_book.specs.Labels.{Labels, HasLeast, IsMember, EachOnce, IsLeastOf, IsFounded}
use Rattle.label_book.specs.Parting.{IsGrouped, AreApart, IsParting, IsRest, IsLeastRest, IsParted, AreNewLabels}
use Rattle.label_book.specs.inside.Steps.{IsHeadless, IsWithout, IsWithoutGroups, IsCleared, AreFounded, IsOneFounded}
use Rattle.label_book.proofs.Views.{same_value, no_value, known, some_and}
use Rattle.label_book.proofs.Added.{some_is, last_or}
use Rattle.label_book.proofs.Taken.{removed_same, removed_other}
use Rattle.label_book.proofs.Joined.{member_or, pushed, pushed_old, pushed_new}

further : (g : List ℕ) (gs : List (List ℕ)) (q : ℕ) → (IsMember g q → ⊥) → (IsGrouped gs q → ⊥) → (j : ℕ) (f : List ℕ) → slice_get (g ∷ gs) j ≡ Some f → IsMember f q → ⊥
further g gs q n far zero f e m = n (subst (λ ys. IsMember ys q) (sym (same_value refl e)) m)
further g gs q n far (suc j) f e m = far (j, (f, (e, m)))

-- the core stands in a group or it doesn't
pub grouped_or : (groups : List (List ℕ)) (q : ℕ) → IsGrouped groups q ⊎ (IsGrouped groups q → ⊥)
grouped_or [] q = inr (λ m. no_value refl m.1.1.0)
grouped_or (g ∷ gs) q = elim (member_or g q) [
  | inl m ↦ inl (0, (g, (refl, m)))
  | inr n ↦ elim (grouped_or gs q) [
    | inl f ↦ inl (suc f.0, f.1)
    | inr far ↦ inr (λ f. further g gs q n far f.0 f.1.0 f.1.1.0 f.1.1.1)
  ]
]

front : (gs : List (List ℕ)) (g : List ℕ) (j : ℕ) (f : List ℕ) → slice_get gs j ≡ Some f → slice_get (gs ++ g ∷ []) j ≡ Some f
front [] g j f e = absurd (no_value refl e)
front (h ∷ gs) g zero f e = e
front (h ∷ gs) g (suc j) f e = front gs g j f e

-- groups of which the first ones are looked at
pub early : (gs : List (List ℕ)) (g : List ℕ) (q : ℕ) → IsGrouped gs q → IsGrouped (gs ++ g ∷ []) q
early gs g q f = (f.0, (f.1.0, (front gs g f.0 f.1.0 f.1.1.0, f.1.1.1)))

end : (gs : List (List ℕ)) (g : List ℕ) → slice_get (gs ++ g ∷ []) (length gs) ≡ Some g
end [] g = refl
end (h ∷ gs) g = end gs g

pub late : (gs : List (List ℕ)) (g : List ℕ) (q : ℕ) → IsMember g q → IsGrouped (gs ++ g ∷ []) q
late gs g q m = (length gs, (g, (end gs g, m)))

either : (gs : List (List ℕ)) (g : List ℕ) (j : ℕ) (f : List ℕ) → slice_get (gs ++ g ∷ []) j ≡ Some f → (slice_get gs j ≡ Some f) ⊎ (f ≡ g)
either [] g zero f e = inr (sym (same_value refl e))
either [] g (suc j) f e = absurd (no_value refl e)
either (h ∷ gs) g zero f e = inl e
either (h ∷ gs) g (suc j) f e = either gs g j f e

pub last_group : (gs : List (List ℕ)) (g : List ℕ) (q : ℕ) (f : IsGrouped (gs ++ g ∷ []) q) → ((of : IsGrouped gs q) × (of.1.0 ≡ f.1.0)) ⊎ (f.1.0 ≡ g)
last_group gs g q f = elim (either gs g f.0 f.1.0 f.1.1.0) [
  | inl e ↦ inl ((f.0, (f.1.0, (e, f.1.1.1))), refl)
  | inr s ↦ inr s
]

alone : (core q : ℕ) → (q ≡ core → ⊥) → IsMember ([] ++ core ∷ []) q → ⊥
alone core q ne m = elim (pushed [] core q m) [ inl f ↦ no_value refl f.1 | inr s ↦ ne s ]

-- one core left, or it is the label
pub left_more : (old now new : Labels) (done : List ℕ) (core label : ℕ) → IsWithout old done label now → IsWithout now ([] ++ core ∷ []) label new → IsWithout old (done ++ core ∷ []) label new
left_more old now new done core label was is = record {
  gone = λ q ne m. elim (pushed done core q m) [
    | inl f ↦ elim (cases_eq q core) [
      | inl s ↦ is.gone q ne (0, ap (λ n. Some n) (sym s))
      | inr other ↦ is.others q (λ _ m. alone core q other m) ∙ was.gone q ne f
    ]
    | inr s ↦ is.gone q ne (0, ap (λ n. Some n) (sym s))
  ];
  others = λ q n.
      is.others q (λ ne m. n ne (elim (pushed [] core q m) [ inl f ↦ absurd (no_value refl f.1) | inr s ↦ subst (IsMember (done ++ core ∷ [])) (sym s) (pushed_new done core) ]))
      ∙ was.others q (λ ne m. n ne (pushed_old done core q m));
}

pub left_none : (old : Labels) (label : ℕ) → IsWithout old [] label old
left_none old label = record { gone = λ q ne m. absurd (no_value refl m.1); others = λ q n. refl }

pub groups_none : (old : Labels) (label : ℕ) → IsWithoutGroups old [] label old
groups_none old label = record { gone = λ q ne f. absurd (no_value refl f.1.1.0); others = λ q n. refl }

-- one group more left
pub groups_more : (old now new : Labels) (done : List (List ℕ)) (g : List ℕ) (label : ℕ) → IsWithoutGroups old done label now → IsWithout now g label new → IsWithoutGroups old (done ++ g ∷ []) label new
groups_more old now new done g label was is = record {
  gone = λ q ne f. elim (member_or g q) [
    | inl m ↦ is.gone q ne m
    | inr n ↦ is.others q (λ _ m. n m) ∙ (elim (last_group done g q f) [
      | inl of ↦ was.gone q ne of.0
      | inr s ↦ absurd (n (subst (λ ys. IsMember ys q) s f.1.1.1))
    ])
  ];
  others = λ q n. is.others q (λ ne m. n ne (late done g q m)) ∙ was.others q (λ ne f. n ne (early done g q f));
}

-- the lists left, and the label isn't among them
pub cleared_kept : (old m n : Labels) (label : ℕ) (lost : List ℕ) (groups : List (List ℕ)) → HasLeast old → IsParting old label lost groups → IsWithout old lost label m → IsWithoutGroups m groups label n
    → (IsMember lost label → ⊥) → (IsGrouped groups label → ⊥) → IsCleared old label lost groups (Some label) n
cleared_kept old m n label lost groups least p a b not_lost not_grouped =
    let apart_l : (q : ℕ) → IsMember lost q → q ≢ label = λ q f s. not_lost (subst (IsMember lost) s f) in
    let apart_g : (q : ℕ) → IsGrouped groups q → q ≢ label = λ q f s. not_grouped (subst (IsGrouped groups) s f) in
    let stays : (q : ℕ) → (IsMember lost q → ⊥) → (IsGrouped groups q → ⊥) → map.get n q ≡ map.get old q = λ q f g. b.others q (λ _ x. g x) ∙ a.others q (λ _ x. f x) in
    record {
      gone = λ q f. b.others q (λ _ x. p.apart q f x) ∙ a.gone q (apart_l q f) f;
      free = λ q f. b.gone q (apart_g q f) f;
      rest = λ q r. (stays q r.kept r.alone ∙ r.member, refl);
      some = λ l e.
          let s : label ≡ l = same_value refl e in
          subst (IsLeastRest old label lost groups) s
          (record { member = p.label_is; kept = not_lost; alone = not_grouped }, λ q r. (least q label r.member).0);
      others = λ q ne. stays q (λ f. ne (p.lost_in q f)) (λ f. ne (p.grouped_in q f));
    }

-- the lists left, the label among them
pub cleared_moved : (old m n new : Labels) (label : ℕ) (to : Option ℕ) (lost : List ℕ) (groups : List (List ℕ)) → IsParting old label lost groups → IsWithout old lost label m → IsWithoutGroups m groups label n
    → IsMember lost label ⊎ IsGrouped groups label → IsHeadless n label to new → IsCleared old label lost groups to new
cleared_moved old m n new label to lost groups p a b listed h =
    let stays : (q : ℕ) → (IsMember lost q → ⊥) → (IsGrouped groups q → ⊥) → map.get n q ≡ map.get old q = λ q f g. b.others q (λ _ x. g x) ∙ a.others q (λ _ x. f x) in
    let absent : (q : ℕ) → map.get n q ≡ None → map.get new q ≡ None = λ q e. h.others q (λ f. no_value e f) ∙ e in
    let lost_gone : (q : ℕ) → q ≢ label → IsMember lost q → map.get n q ≡ None = λ q ne f. b.others q (λ _ x. p.apart q f x) ∙ a.gone q ne f in
    let rest_apart : (q : ℕ) → IsRest old label lost groups q → q ≢ label = λ q r s. elim listed [ inl f ↦ r.kept (subst (IsMember lost) (sym s) f) | inr f ↦ r.alone (subst (IsGrouped groups) (sym s) f) ] in
    record {
      gone = λ q f. elim (cases_eq q label) [ inl s ↦ ap (map.get new) s ∙ h.gone | inr ne ↦ absent q (lost_gone q ne f) ];
      free = λ q f. elim (cases_eq q label) [ inl s ↦ ap (map.get new) s ∙ h.gone | inr ne ↦ absent q (b.gone q ne f) ];
      rest = λ q r. h.moved q (rest_apart q r) (stays q r.kept r.alone ∙ r.member);
      some = λ l e.
          let s = h.some l e in
          let not_lost : IsMember lost l → ⊥ = λ f. no_value (lost_gone l s.0 f) s.1 in
          let not_grouped : IsGrouped groups l → ⊥ = λ f. no_value (b.gone l s.0 f) s.1 in (
            record { member = sym (stays l not_lost not_grouped) ∙ s.1; kept = not_lost; alone = not_grouped },
            λ q r. h.least l q e (rest_apart q r) (stays q r.kept r.alone ∙ r.member),
          );
      others = λ q ne.
          let same_as : map.get n q ≡ map.get old q = stays q (λ f. ne (p.lost_in q f)) (λ f. ne (p.grouped_in q f)) in
          h.others q (λ e. ne (sym same_as ∙ e)) ∙ same_as;
    }

pub label_present : (old m n : Labels) (label : ℕ) (lost : List ℕ) (groups : List (List ℕ)) → IsParting old label lost groups → IsWithout old lost label m → IsWithoutGroups m groups label n → map.get n label ≡ Some label
label_present old m n label lost groups p a b = b.others label (λ ne _. ne refl) ∙ (a.others label (λ ne _. ne refl) ∙ p.label_is)

-- before the first group
pub founded_none : (old : Labels) → AreFounded old [] [] old
founded_none old = record {
  grouped = λ q f. absurd (no_value refl f.1.1.0);
  others = λ q n. refl;
  each = λ l m. absurd (no_value refl m.1);
  once = λ i j q e f. absurd (no_value refl e);
}

-- one group more is a cluster
pub groups_founded : (old now new : Labels) (done : List (List ℕ)) (g : List ℕ) (labels more : List ℕ) → ((q : ℕ) → IsMember g q → IsGrouped done q → ⊥)
    → AreFounded old done labels now → IsOneFounded now g labels new more → AreFounded old (done ++ g ∷ []) more new
groups_founded old now new done g labels more apart_from was is = record {
  grouped = λ q f. elim (last_group done g q f) [
    | inl of ↦
        let before = some_and (map.get now q) _ (was.grouped q of.0) in
        some_is (λ l. IsLeastOf l f.1.0 × IsMember more l) (is.others q (λ m. apart_from q m of.0) ∙ before.1)
        (subst (IsLeastOf before.0) of.1 before.2.0, is.kept before.0 before.2.1)
    | inr s ↦ subst (λ ys. IsSomeAnd (map.get new q) (λ l. IsLeastOf l ys × IsMember more l)) (sym s) (is.member q (subst (λ ys. IsMember ys q) s f.1.1.1))
  ];
  others = λ q n. is.others q (λ m. n (late done g q m)) ∙ was.others q (λ f. n (early done g q f));
  each = λ l m. elim (is.each l m) [
    | inl f ↦ let w = was.each l f in (early done g l w.0, is.others l (λ x. apart_from l x w.0) ∙ w.1)
    | inr f ↦ (late done g l f.0, f.1)
  ];
  once = is.once was.once (λ l f x. apart_from l x (was.each l f).0);
}

-- a group that is empty makes no cluster
pub founded_empty : (old : Labels) (g labels : List ℕ) → g ≡ [] → IsOneFounded old g labels old labels
founded_empty old g labels none =
    let never : (q : ℕ) → IsMember g q → ⊥ = λ q m. no_value refl (subst (λ ys. slice_get ys m.0 ≡ Some q) none m.1) in
    record {
      member = λ q m. absurd (never q m);
      others = λ q n. refl;
      each = λ l m. inl m;
      kept = λ l m. m;
      once = λ o n. o;
    }

pub once_more : (xs : List ℕ) (y : ℕ) → EachOnce xs → (IsMember xs y → ⊥) → EachOnce (xs ++ y ∷ [])
once_more xs y o n i j q e f = elim (last_or xs y i q e) [
  | inl a ↦ elim (last_or xs y j q f) [ inl b ↦ o i j q a b | inr b ↦ absurd (n (i, subst (λ x. slice_get xs i ≡ Some x) b.1 a)) ]
  | inr a ↦ elim (last_or xs y j q f) [ inl b ↦ absurd (n (j, subst (λ x. slice_get xs j ≡ Some x) a.1 b)) | inr b ↦ a.0 ∙ sym b.0 ]
]

pub founded_one : (old new : Labels) (g labels more : List ℕ) (l : ℕ) → IsLeastOf l g → IsFounded old g l new → more ≡ labels ++ l ∷ [] → IsOneFounded old g labels new more
founded_one old new g labels more l least is put = record {
  member = λ q m. some_is (λ x. IsLeastOf x g × IsMember more x) ((is q).0 m) (least, subst (λ ys. IsMember ys l) (sym put) (pushed_new labels l));
  others = λ q n. (is q).1 n;
  each = λ x m. elim (pushed labels l x (subst (λ ys. IsMember ys x) put m)) [
    | inl f ↦ inl f
    | inr s ↦ inr (subst (λ y. IsMember g y × (map.get new y ≡ Some y)) (sym s) (least.0, (is l).0 least.0))
  ];
  kept = λ x m. subst (λ ys. IsMember ys x) (sym put) (pushed_old labels l x m);
  once = λ o n. subst EachOnce (sym put) (once_more labels l o (λ m. n l m least.0));
}

some_or : {o : Option ℕ} → o ≡ None → IsSome o → ⊥
some_or e s = let x = sym (ap is_some e) ∙ s in cc

-- all of it, in the words of the contract
pub parted : (old m new : Labels) (label : ℕ) (to : Option ℕ) (lost : List ℕ) (groups : List (List ℕ)) (labels : List ℕ) → IsParting old label lost groups → IsCleared old label lost groups to m → AreFounded m groups labels new
    → IsParted old label lost groups new
parted old m new label to lost groups labels p c f = record {
  gone = λ q l. f.others q (λ g. p.apart q l g) ∙ c.gone q l;
  grouped = λ q of. let s = some_and (map.get new q) _ (f.grouped q of) in some_is (λ l. IsLeastOf l of.1.0) s.1 s.2.0;
  rest = λ q r.
      let w = c.rest q r in
      let t = elim (known to) as (λ _. (l : ℕ) × (to ≡ Some l)) [ inl none ↦ absurd (some_or none w.1) | inr l ↦ l ] in
      some_is (IsLeastRest old label lost groups) (f.others q r.alone ∙ (w.0 ∙ t.1)) (c.some t.0 t.1);
  others = λ q ne. f.others q (λ g. ne (p.grouped_in q g)) ∙ c.others q ne;
}

-- the labels of the groups, and that of the rest if there is any, are the new labels
pub new_labels : (old m new : Labels) (label : ℕ) (to : Option ℕ) (lost : List ℕ) (groups : List (List ℕ)) (labels all : List ℕ) → IsParting old label lost groups → IsCleared old label lost groups to m → AreFounded m groups labels new
    → ((l : ℕ) → IsMember all l → IsMember labels l ⊎ (to ≡ Some l)) → ((l : ℕ) → IsMember labels l ⊎ (to ≡ Some l) → IsMember all l) → AreNewLabels old label new all
new_labels old m new label to lost groups labels all p c f back forth = record {
  each = λ l x. elim (back l x) [
    | inl a ↦ let w = f.each l a in (l, record { was = p.grouped_in l w.0; is = w.1 })
    | inr e ↦
        let r = c.some l e in
        (l, record { was = r.0.member; is = f.others l r.0.alone ∙ ((c.rest l r.0).0 ∙ e) })
  ];
  all = λ l q h. elim (grouped_or groups q) [
    | inl g ↦ let s = some_and (map.get new q) _ (f.grouped q g) in forth l (inl (subst (IsMember labels) (same_value s.1 h.is) s.2.1))
    | inr n ↦ elim (member_or lost q) [
      | inl g ↦ absurd (no_value (f.others q n ∙ c.gone q g) h.is)
      | inr k ↦ forth l (inr (sym (c.rest q (record { member = h.was; kept = k; alone = n })).0 ∙ (sym (f.others q n) ∙ h.is)))
    ]
  ];
}

-- the label of the rest is none of the groups' labels
pub rest_new : (old m new : Labels) (label : ℕ) (to : Option ℕ) (lost : List ℕ) (groups : List (List ℕ)) (labels : List ℕ) → IsCleared old label lost groups to m → AreFounded m groups labels new → (l : ℕ) → to ≡ Some l → IsMember labels l → ⊥
rest_new old m new label to lost groups labels c f l e x = (c.some l e).0.alone (f.each l x).0

-- the core is the label, and stays
pub label_stays : (old : Labels) (core label : ℕ) → core ≡ label → IsWithout old (core ∷ []) label old
label_stays old core label s = record {
  gone = λ q ne m. elim (pushed [] core q m) [ inl f ↦ absurd (no_value refl f.1) | inr t ↦ absurd (ne (t ∙ s)) ];
  others = λ q n. refl;
}

pub core_left : (old new : Labels) (core label : ℕ) → (core ≡ label → ⊥) → new ≡ map.remove old core → IsWithout old (core ∷ []) label new
core_left old new core label ne is = record {
  gone = λ q other m. elim (pushed [] core q m) [
    | inl f ↦ absurd (no_value refl f.1)
    | inr s ↦ ap (map.get new) s ∙ (ap (λ m. map.get m core) is ∙ removed_same old core)
  ];
  others = λ q n.
      let differs : q ≡ core → ⊥ = λ s. n (λ t. ne (sym s ∙ t)) (0, ap (λ x. Some x) (sym s)) in
      ap (λ m. map.get m q) is ∙ removed_other old core q differs;
}

-- the next group is at its place, and its cores are in none of the first ones
pub group_at : (groups : List (List ℕ)) (i : ℕ) (g : List ℕ) → i < length groups → g ≡ get_or groups i g → slice_get groups i ≡ Some g
group_at groups i g within is = slice_get_read groups (length groups) i g refl within is

whole : (groups : List (List ℕ)) (i j : ℕ) (g : List ℕ) → slice_get (take i groups) j ≡ Some g → slice_get groups j ≡ Some g
whole groups zero j g e = absurd (no_value refl e)
whole [] (suc i) j g e = absurd (no_value refl e)
whole (x ∷ xs) (suc i) zero g e = e
whole (x ∷ xs) (suc i) (suc j) g e = whole xs i j g e

pub in_groups : (groups : List (List ℕ)) (i q : ℕ) → IsGrouped (take i groups) q → IsGrouped groups q
in_groups groups i q f = (f.0, (f.1.0, (whole groups i f.0 f.1.0 f.1.1.0, f.1.1.1)))

pub fresh_group : (groups : List (List ℕ)) (i : ℕ) (g : List ℕ) → AreApart groups → i < length groups → g ≡ get_or groups i g → (q : ℕ) → IsMember g q → IsGrouped (take i groups) q → ⊥
unfolding in_groups
fresh_group groups i g apart_from within is q m f =
    let one : f.0 ≡ i = apart_from q (in_groups groups i q f) (i, (g, (group_at groups i g within is, m))) in
    let low : f.0 < length (take i groups) = slice_get_within (take i groups) f.0 f.1.0 f.1.1.0 in
    let len : length (take i groups) ≡ min i (length groups) = length-take i groups in
    omega (arith, one, low, len)

-- the first groups with the next one
pub groups_next : (groups : List (List ℕ)) (i : ℕ) (g : List ℕ) → i < length groups → g ≡ get_or groups i g → take (i + 1) groups ≡ take i groups ++ g ∷ []
groups_next groups i g within is = take_more groups i g within ∙ ap (λ x. take i groups ++ x ∷ []) (sym is)

-- the next group's cores still have the label, since they stand in none of the first groups
pub group_members : (old now : Labels) (groups : List (List ℕ)) (i : ℕ) (g : List ℕ) (label : ℕ) → AreApart groups → ((q : ℕ) → IsGrouped groups q → map.get old q ≡ Some label) → i < length groups → g ≡ get_or groups i g
    → IsWithoutGroups old (take i groups) label now → (q : ℕ) → IsMember g q → map.get now q ≡ Some label
group_members old now groups i g label apart_from members within is was q m =
    was.others q (λ _ f. fresh_group groups i g apart_from within is q m f) ∙ members q (i, (g, (group_at groups i g within is, m)))

pub group_left : (old now new : Labels) (groups : List (List ℕ)) (i : ℕ) (g : List ℕ) (label : ℕ) → i < length groups → g ≡ get_or groups i g → IsWithoutGroups old (take i groups) label now → IsWithout now g label new
    → IsWithoutGroups old (take (i + 1) groups) label new
group_left old now new groups i g label within is was left = subst (λ gs. IsWithoutGroups old gs label new) (sym (groups_next groups i g within is)) (groups_more old now new (take i groups) g label was left)

pub group_free : (old now : Labels) (groups : List (List ℕ)) (i : ℕ) (g labels : List ℕ) → AreApart groups → ((q : ℕ) → IsGrouped groups q → map.get old q ≡ None) → i < length groups → g ≡ get_or groups i g
    → AreFounded old (take i groups) labels now → (q : ℕ) → IsMember g q → map.get now q ≡ None
group_free old now groups i g labels apart_from free within is was q m =
    was.others q (λ f. fresh_group groups i g apart_from within is q m f) ∙ free q (i, (g, (group_at groups i g within is, m)))

pub group_founded : (old now new : Labels) (groups : List (List ℕ)) (i : ℕ) (g labels more : List ℕ) → AreApart groups → i < length groups → g ≡ get_or groups i g → AreFounded old (take i groups) labels now
    → IsOneFounded now g labels new more → AreFounded old (take (i + 1) groups) more new
group_founded old now new groups i g labels more apart_from within is was one =
    subst (λ gs. AreFounded old gs more new) (sym (groups_next groups i g within is))
    (groups_founded old now new (take i groups) g labels more (fresh_group groups i g apart_from within is) was one)

-- the core stands in none of the first groups and not in the next one
pub not_yet : (groups : List (List ℕ)) (i : ℕ) (g : List ℕ) (core : ℕ) → i < length groups → g ≡ get_or groups i g → (IsGrouped (take i groups) core → ⊥) → (IsMember g core → ⊥) → IsGrouped (take (i + 1) groups) core → ⊥
not_yet groups i g core within is n m f = elim (last_group (take i groups) g core (subst (λ gs. IsGrouped gs core) (groups_next groups i g within is) f)) [
  | inl of ↦ n of.0
  | inr s ↦ m (subst (λ ys. IsMember ys core) s (subst (λ gs. IsGrouped gs core) (groups_next groups i g within is) f).1.1.1)
]

pub not_both : (b : Bool) → b ≡ false → b ≡ true → ⊥
not_both b e t = let f : false ≡ true = sym e ∙ t in cc
