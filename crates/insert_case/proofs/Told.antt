-- What is told of the groups, and in which order.
use Rattle.std.proofs.Common.{◌≡◌, ◌≢◌, ◌↔◌, ℕ, suc, ◌+◌, ◌<◌, Bool, true, false, ◌&&◌, List, [], ◌∷◌, ◌++◌, take, map, get_or, nat_eq, Ordering, refl, sym, ap, subst, ◌∙◌, Some, inl, inr, ◌⊎◌, slice_get, arith}
use Rattle.std.specs.Prelude.{All, AllPairs, Contains}
use Rattle.std.specs.List.{AllByRecursion, IsDistinct}
use Rattle.std.specs.List.Sorted.{IsSortedByKey, IsPermutation}
use Rattle.std.specs.Ordering.{nat_cmp, is_lt, ordering_then}
use Rattle.std.specs.Cmp.{IsTotalOrder, nat_cmp_total, then_total, on_total}
use Rattle.std.proofs.lemmas.Bool.{cases_lt}
use Rattle.std.proofs.lemmas.Bool.Decides.{nat_tests, eqb_tells}
use Rattle.std.proofs.lemmas.List.Elements.{All-cons, All-contains, Contains-append_left, Contains-append_right, Contains-append_cases}
use Rattle.std.proofs.lemmas.List.Sorted.{ranks_by, sorted_far, Contains-permutation, IsPermutation-sym}
use Rattle.std.proofs.lemmas.Map.Keys.{IsDistinct-head, IsDistinct-tail, IsDistinct-cons, IsDistinct-from_apart, apart_from_distinct}
use Rattle.vec_record.specs.declared.event.Event.{Event}
use Rattle.vec_record.specs.declared.event.Kind.{Kind}
use Rattle.vec_record.specs.declared.event.Kind.TheVariants as kind
use Rattle.plain_dbscan.specs.Cases.{event, growth}
use Rattle.plain_dbscan.proofs.Chains.{Member}
use Rattle.label_book.specs.Labels.{Labels, EachOnce, AreFree}
use Rattle.label_book.proofs.Views.{same_value}
use Rattle.update_seed.specs.declared.groups.InGroup.{InGroup}
use Rattle.update_seed.specs.Groups.{AreGathered}
use Rattle.update_seed.proofs.Lists.{Apart, once_apart}
use Rattle.insert_case.specs.Joining.{IsLabelOf, ComesBefore, IsOfGroup, AreTold, AreToldNow}
use Rattle.insert_case.specs.inside.Joins.{is_tied, AreUntied}
use Rattle.insert_case.proofs.Joined.{took, takes, one_least, one_label}

-- lists of which no two items are alike
contains_head : {X : Type 0} (x : X) (xs : List X) → Contains (x ∷ xs) x
contains_head x xs = (0, omega arith, refl)

contains_tail : {X : Type 0} (x y : X) (xs : List X) → Contains xs y → Contains (x ∷ xs) y
contains_tail x y xs c = let lt = c.1 in (suc c.0, omega (arith, lt), c.2)

each_contained : {X : Type 0} (P : X → Type 0) (xs : List X) → ((x : X) → Contains xs x → P x) → AllByRecursion P xs
each_contained P [] h = tt
each_contained P (x ∷ xs) h = (h x (contains_head x xs), each_contained P xs (λ y c. h y (contains_tail x y xs c)))

all_appended : {X : Type 0} (P : X → Type 0) (xs ys : List X) → AllByRecursion P xs → AllByRecursion P ys → AllByRecursion P (xs ++ ys)
all_appended P [] ys a b = b
all_appended P (x ∷ xs) ys a b = (a.0, all_appended P xs ys a.1 b)

distinct_appended : {X : Type 0} (e : X → X → Bool) (xs ys : List X) → IsDistinct e xs → IsDistinct e ys → ((x y : X) → Contains xs x → Contains ys y → e x y ≡ false) → IsDistinct e (xs ++ ys)
distinct_appended e [] ys dx dy across = dy
distinct_appended e (x ∷ xs) ys dx dy across =
    IsDistinct-cons e x (xs ++ ys)
    (all_appended (λ y. e x y ≡ false) xs ys (IsDistinct-head e x xs dx) (each_contained (λ y. e x y ≡ false) ys (λ y c. across x y (contains_head x xs) c)))
    (distinct_appended e xs ys (IsDistinct-tail e x xs dx) dy (λ a b ca cb. across a b (contains_tail x a xs ca) cb))

distinct_none : {X : Type 0} (e : X → X → Bool) → IsDistinct e []
distinct_none e = IsDistinct-from_apart e [] (λ i j d lt h. absurd (omega arith))

distinct_one : {X : Type 0} (e : X → X → Bool) (x : X) → IsDistinct e (x ∷ [])
distinct_one e x = IsDistinct-cons e x [] tt (distinct_none e)

-- the place of an event in the order
other_to : (e f : Event) → e.to ≢ f.to → is_tied e f ≡ false
other_to e f ne = elim (eqb_tells e.to f.to) [ inl t ↦ absurd (ne t.1) | inr n ↦ ap (λ b. b && nat_eq e.from f.from) n.0 ]

other_from : (k : Kind) (l x y : ℕ) → x ≢ y → is_tied (event k x l) (event k y l) ≡ false
other_from k l x y ne = elim (eqb_tells x y) [ inl t ↦ absurd (ne t.1) | inr n ↦ second (nat_eq l l) (nat_eq x y) n.0 ]
  where
    second : (p q : Bool) → q ≡ false → (p && q) ≡ false
    second true q e = e
    second false q e = refl

pub tied_back : (e f : Event) → is_tied e f ≡ is_tied f e
tied_back e f = ap (λ b. b && nat_eq e.from f.from) (turned e.to f.to) ∙ ap (λ b. nat_eq f.to e.to && b) (turned e.from f.from)
  where
    turned : (x y : ℕ) → nat_eq x y ≡ nat_eq y x
    turned x y = grind (arith, nat_tests)

-- the events of one group
abbrev told_each : Kind → ℕ → List ℕ → List Event
told_each k l olds = map (λ o. event k o l) olds

each_to : (k : Kind) (l : ℕ) (olds : List ℕ) → All (λ (e : Event). e.to ≡ l) (told_each k l olds)
each_to k l [] = λ i d h. absurd (omega arith)
each_to k l (o ∷ olds) = All-cons (λ (e : Event). e.to ≡ l) (event k o l) (told_each k l olds) refl (each_to k l olds)

growth_all : (l : ℕ) (olds : List ℕ) → All (λ (e : Event). e.to ≡ l) (growth l olds)
growth_all l [] = All-cons (λ (e : Event). e.to ≡ l) (event kind.Created 0 l) [] refl (each_to kind.Created l [])
growth_all l (o ∷ []) = each_to kind.Absorbed l (o ∷ [])
growth_all l (o ∷ p ∷ olds) = each_to kind.Merged l (o ∷ p ∷ olds)

pub growth_to : (l : ℕ) (olds : List ℕ) (e : Event) → Contains (growth l olds) e → e.to ≡ l
growth_to l olds e c = All-contains (λ (x : Event). x.to ≡ l) (growth l olds) e (growth_all l olds) c

none_tied : (k : Kind) (l x : ℕ) (olds : List ℕ) → (Member x olds → ⊥) → AllByRecursion (λ e. is_tied (event k x l) e ≡ false) (told_each k l olds)
none_tied k l x [] n = tt
none_tied k l x (o ∷ olds) n = (other_from k l x o (λ s. n (inl s)), none_tied k l x olds (λ m. n (inr m)))

each_untied : (k : Kind) (l : ℕ) (olds : List ℕ) → Apart olds → AreUntied (told_each k l olds)
each_untied k l [] a = distinct_none is_tied
each_untied k l (o ∷ olds) a = IsDistinct-cons is_tied (event k o l) (told_each k l olds) (none_tied k l o olds a.0) (each_untied k l olds a.1)

growth_untied : (l : ℕ) (olds : List ℕ) → Apart olds → AreUntied (growth l olds)
growth_untied l [] a = distinct_one is_tied (event kind.Created 0 l)
growth_untied l (o ∷ []) a = distinct_one is_tied (event kind.Absorbed o l)
growth_untied l (o ∷ p ∷ olds) a = each_untied kind.Merged l (o ∷ p ∷ olds) a

-- the events of the first groups, in any order
pub record AreOf (groups : List InGroup) (events : List Event) : Type 0 where
  pub exact : (e : Event) → Contains events e ↔ IsOfGroup groups e
  pub untied : AreUntied events

pub of_none : (groups : List InGroup) → AreOf (take 0 groups) []
of_none groups = record {
  exact = λ e. (
    (λ c. let lt = c.1 in absurd (omega (arith, lt))),
    (λ h. let t = took groups 0 h.place h.group h.at in absurd (let lt = t.0 in omega (arith, lt))),
  );
  untied = distinct_none is_tied;
}

module _ (old : Labels) (groups : List InGroup) (cores : List ℕ) (gathered : AreGathered old cores groups) (free : AreFree old cores) where
  module _ (n : ℕ) (g : InGroup) (at : slice_get groups n ≡ Some g) (once : EachOnce g.old_labels) (events : List Event) (are : AreOf (take n groups) events) (label : ℕ) (is : IsLabelOf g label) where
    abbrev more : List Event
    more = events ++ growth label g.old_labels

    widen : (e : Event) → IsOfGroup (take n groups) e → IsOfGroup (take (n + 1) groups) e
    widen e h =
        let t = took groups n h.place h.group h.at in
        let lt = t.0 in
        record {
          place = h.place;
          group = h.group;
          at = takes groups (n + 1) h.place h.group (omega (arith, lt)) t.1;
          label = h.label;
          is_label = h.is_label;
          told = h.told;
        }

    newest : (e : Event) → Contains (growth label g.old_labels) e → IsOfGroup (take (n + 1) groups) e
    newest e c = record { place = n; group = g; at = takes groups (n + 1) n g (omega arith) at; label = label; is_label = is; told = c }

    back : (e : Event) → IsOfGroup (take (n + 1) groups) e → Contains more e
    back e h =
        let t = took groups (n + 1) h.place h.group h.at in
        elim (cases_lt h.place n) [
          | inl lt ↦ Contains-append_left events (growth label g.old_labels) e
              ((are.exact e).1 (record { place = h.place; group = h.group; at = takes groups n h.place h.group lt t.1; label = h.label; is_label = h.is_label; told = h.told }))
          | inr le ↦
              let lt = t.0 in
              let e_n : h.place ≡ n = omega (arith, le, lt) in
              let same : h.group ≡ g = same_value (subst (λ k. slice_get groups k ≡ Some h.group) e_n t.1) at in
              let l : h.label ≡ label = one_least h.label label g (subst (λ (x : InGroup). IsLabelOf x h.label) same h.is_label) is in
              Contains-append_right events (growth label g.old_labels) e
              (subst (λ k. Contains (growth k g.old_labels) e) l (subst (λ (x : InGroup). Contains (growth h.label x.old_labels) e) same h.told))
        ]

    across : (x y : Event) → Contains events x → Contains (growth label g.old_labels) y → is_tied x y ≡ false
    across x y cx cy =
        let h = (are.exact x).0 cx in
        let t = took groups n h.place h.group h.at in
        let lt = t.0 in
        let to = growth_to h.label h.group.old_labels x h.told in
        let to' = growth_to label g.old_labels y cy in
        other_to x y (λ same.
        let l : h.label ≡ label = sym to ∙ same ∙ to' in
        let p = one_label old groups cores gathered free h.place n h.group g label t.1 at (subst (IsLabelOf h.group) l h.is_label) is in
        absurd (omega (arith, p, lt)))

    pub of_more : AreOf (take (n + 1) groups) more
    of_more = record {
      exact = λ e. (
        (λ c. elim (Contains-append_cases events (growth label g.old_labels) e c) [
          | inl i ↦ widen e ((are.exact e).0 i)
          | inr i ↦ newest e i
        ]),
        back e,
      );
      untied = distinct_appended is_tied events (growth label g.old_labels) are.untied (growth_untied label g.old_labels (once_apart g.old_labels once)) across;
    }

-- the order of the events
abbrev pub Key : Type 0
Key = ℕ × ℕ

abbrev pub key_of : Event → Key
key_of e = (e.to, e.from)

abbrev pub key_cmp : Key → Key → Ordering
key_cmp a b = ordering_then (nat_cmp a.0 b.0) (nat_cmp a.1 b.1)

key_total : IsTotalOrder key_cmp
key_total = then_total (on_total (λ (a : Key). a.0) nat_cmp_total) (on_total (λ (a : Key). a.1) nat_cmp_total)

falls_not : (a b c d : ℕ) → is_lt (ordering_then (nat_cmp c a) (nat_cmp d b)) ≡ false → (nat_eq a c && nat_eq b d) ≡ false → (a < c) ⊎ ((a ≡ c) × (b < d))
falls_not a b c d h n = elim (cases_lt a c) [
  | inl lt ↦ inl lt
  | inr le ↦ elim (cases_lt c a) [
    | inl lt ↦ absurd (grind (arith, nat_tests))
    | inr le' ↦
        let e : a ≡ c = omega arith in
        elim (cases_lt b d) [
          | inl lt ↦ inr (e, lt)
          | inr low ↦ elim (cases_lt d b) [ inl lt ↦ absurd (grind (arith, nat_tests)) | inr low' ↦ absurd (grind (arith, nat_tests)) ]
        ]
  ]
]

pub in_order : (events : List Event) → IsSortedByKey key_of key_cmp events → AreUntied events → AllPairs ComesBefore events
in_order events up untied i j d lt short =
    let far = sorted_far (λ x y. is_lt (key_cmp (key_of x) (key_of y))) (ranks_by key_total key_of) events up i j d (omega arith) short in
    let apart = apart_from_distinct is_tied events i j d untied lt short in
    falls_not (get_or events i d).to (get_or events i d).from (get_or events j d).to (get_or events j d).from far apart

-- all of it, once the events are in order
pub told_in_order : (groups : List InGroup) (events ordered : List Event) → AreOf groups events → IsPermutation events ordered → AllPairs ComesBefore ordered → AreTold groups ordered
told_in_order groups events ordered are p rising = record {
  rising = rising;
  exact = λ e. (
    (λ c. (are.exact e).0 (Contains-permutation ordered events e (IsPermutation-sym events ordered p) c)),
    (λ h. Contains-permutation events ordered e p ((are.exact e).1 h)),
  );
}

-- all of it, behind what was told before
pub told_now : (groups : List InGroup) (ordered before after : List Event) → AreTold groups ordered → after ≡ before ++ ordered → AreToldNow groups before after
told_now groups ordered before after are e = record { told = ordered; are_told = are; behind = e }
