-- Lists of events in order: two with the same members are one, and so is what is told cluster by cluster.
use Rattle.std.proofs.Common.{◌≡◌, ℕ, zero, suc, ◌<◌, List, [], ◌∷◌, ◌++◌, length, map, get_or, refl, sym, ap, subst, ◌∙◌, inl, inr, ◌⊎◌, arith}
use Rattle.std.specs.Prelude.{AllPairs, Contains}
use Rattle.std.specs.List.{flat_map}
use Rattle.vec_record.specs.declared.event.Event.{Event}
use Rattle.vec_record.specs.declared.event.Kind.{Kind}
use Rattle.vec_record.specs.declared.event.Kind.TheVariants as kind
use Rattle.plain_dbscan.specs.Cases.{event, growth}
use Rattle.plain_dbscan.proofs.Chains.{Member}
use Rattle.plain_dbscan.proofs.Members.{Rises}
use Rattle.update_seed.proofs.Lists.{Apart}
use Rattle.insert_case.specs.Joining.{ComesBefore}

-- membership and order by recursion
abbrev pub Within : Event → List Event → Type 0
Within e [] = ⊥
Within e (x ∷ xs) = (e ≡ x) ⊎ Within e xs

abbrev pub Climbs : List Event → Type 0
Climbs [] = Unit {0}
Climbs (x ∷ xs) = ((e : Event) → Within e xs → ComesBefore x e) × Climbs xs

at_within : (xs : List Event) (e : Event) (k : ℕ) → k < length xs → get_or xs k e ≡ e → Within e xs
at_within [] e k h is = absurd (omega arith)
at_within (x ∷ xs) e zero h is = inl (sym is)
at_within (x ∷ xs) e (suc k) h is = inr (at_within xs e k (omega arith) is)

pub within_contained : (xs : List Event) (e : Event) → Contains xs e → Within e xs
within_contained xs e c = at_within xs e c.0 c.1 c.2

pub contained_within : (xs : List Event) (e : Event) → Within e xs → Contains xs e
contained_within [] e w = absurd w
contained_within (x ∷ xs) e (inl is) = (0, omega arith, sym is)
contained_within (x ∷ xs) e (inr w) = let c = contained_within xs e w in let lt = c.1 in (suc c.0, omega (arith, lt), c.2)

pub climbs_pairs : (xs : List Event) → AllPairs ComesBefore xs → Climbs xs
climbs_pairs [] h = tt
climbs_pairs (x ∷ xs) h = (
  λ e w.
      let c = contained_within xs e w in
      let lt = c.1 in
      subst (ComesBefore x) c.2 (h 0 (suc c.0) e (omega arith) (omega (arith, lt))),
  climbs_pairs xs (λ i j d lt short. h (suc i) (suc j) d (omega (arith, lt)) (omega (arith, short))),
)

-- the order is strict
never_both : (e f : Event) → ComesBefore e f → ComesBefore f e → ⊥
never_both e f (inl a) (inl b) = absurd (omega arith)
never_both e f (inl a) (inr b) = let s = b.0 in absurd (omega (arith, s))
never_both e f (inr a) (inl b) = let s = a.0 in absurd (omega (arith, s))
never_both e f (inr a) (inr b) = let s = a.1 in let t = b.1 in absurd (omega (arith, s, t))

-- two lists in order with the same members are equal
pub same_events : (xs ys : List Event) → Climbs xs → Climbs ys → ((e : Event) → Within e xs → Within e ys) → ((e : Event) → Within e ys → Within e xs) → xs ≡ ys
same_events [] [] a b there back = refl
same_events [] (y ∷ ys) a b there back = absurd (back y (inl refl))
same_events (x ∷ xs) [] a b there back = absurd (there x (inl refl))
same_events (x ∷ xs) (y ∷ ys) a b there back =
    ap (λ z. z ∷ xs) one
    ∙ ap (λ zs. y ∷ zs) (same_events xs ys a.1 b.1 (λ e w. later e w (there e (inr w))) (λ e w. sooner e w (back e (inr w))))
  where
    one : x ≡ y
    one = elim (there x (inl refl)) [
      | inl s ↦ s
      | inr w ↦ elim (back y (inl refl)) [ inl s ↦ sym s | inr v ↦ absurd (never_both x y (a.0 y v) (b.0 x w)) ]
    ]

    later : (e : Event) → Within e xs → Within e (y ∷ ys) → Within e ys
    later e w (inl s) = let up = subst (ComesBefore x) (s ∙ sym one) (a.0 e w) in absurd (never_both x x up up)
    later e w (inr v) = v

    sooner : (e : Event) → Within e ys → Within e (x ∷ xs) → Within e xs
    sooner e w (inl s) = let up = subst (ComesBefore y) (s ∙ one) (b.0 e w) in absurd (never_both y y up up)
    sooner e w (inr v) = v

-- lists end to end
pub in_left : (xs ys : List Event) (e : Event) → Within e xs → Within e (xs ++ ys)
in_left [] ys e w = absurd w
in_left (x ∷ xs) ys e (inl s) = inl s
in_left (x ∷ xs) ys e (inr w) = inr (in_left xs ys e w)

pub in_right : (xs ys : List Event) (e : Event) → Within e ys → Within e (xs ++ ys)
in_right [] ys e w = w
in_right (x ∷ xs) ys e w = inr (in_right xs ys e w)

pub in_either : (xs ys : List Event) (e : Event) → Within e (xs ++ ys) → Within e xs ⊎ Within e ys
in_either [] ys e w = inr w
in_either (x ∷ xs) ys e (inl s) = inl (inl s)
in_either (x ∷ xs) ys e (inr w) = elim (in_either xs ys e w) [ inl v ↦ inl (inr v) | inr v ↦ inr v ]

climbs_on : (xs ys : List Event) → Climbs xs → Climbs ys → ((x y : Event) → Within x xs → Within y ys → ComesBefore x y) → Climbs (xs ++ ys)
climbs_on [] ys a b across = b
climbs_on (x ∷ xs) ys a b across = (
  λ e w. elim (in_either xs ys e w) [ inl v ↦ a.0 e v | inr v ↦ across x e (inl refl) v ],
  climbs_on xs ys a.1 b (λ f g v w. across f g (inr v) w),
)

-- the events of one cluster
told_of : (k : Kind) (l : ℕ) (olds : List ℕ) (e : Event) → Within e (map (λ o. event k o l) olds) → (o : ℕ) × (Member o olds × (e ≡ event k o l))
told_of k l [] e w = absurd w
told_of k l (o ∷ olds) e (inl s) = (o, (inl refl, s))
told_of k l (o ∷ olds) e (inr w) = let r = told_of k l olds e w in (r.0, (inr r.1.0, r.1.1))

of_told : (k : Kind) (l : ℕ) (olds : List ℕ) (o : ℕ) → Member o olds → Within (event k o l) (map (λ p. event k p l) olds)
of_told k l [] o m = absurd m
of_told k l (p ∷ olds) o (inl s) = inl (ap (λ x. event k x l) s)
of_told k l (p ∷ olds) o (inr m) = inr (of_told k l olds o m)

each_climbs : (k : Kind) (l : ℕ) (olds : List ℕ) → Rises olds → Climbs (map (λ o. event k o l) olds)
each_climbs k l [] r = tt
each_climbs k l (o ∷ olds) r = (
  λ e w.
      let t = told_of k l olds e w in
      subst (ComesBefore (event k o l)) (sym t.1.1) (inr (refl, r.0 t.0 t.1.0)),
  each_climbs k l olds r.1,
)

growth_climbs : (l : ℕ) (olds : List ℕ) → Rises olds → Climbs (growth l olds)
growth_climbs l [] r = ((λ e w. absurd w), tt)
growth_climbs l (o ∷ []) r = ((λ e w. absurd w), tt)
growth_climbs l (o ∷ p ∷ olds) r = each_climbs kind.Merged l (o ∷ p ∷ olds) r

growth_at : (l : ℕ) (olds : List ℕ) (e : Event) → Within e (growth l olds) → e.to ≡ l
growth_at l [] e (inl s) = ap (λ (x : Event). x.to) s
growth_at l [] e (inr w) = absurd w
growth_at l (o ∷ []) e (inl s) = ap (λ (x : Event). x.to) s
growth_at l (o ∷ []) e (inr w) = absurd w
growth_at l (o ∷ p ∷ olds) e w = let t = told_of kind.Merged l (o ∷ p ∷ olds) e w in ap (λ (x : Event). x.to) t.1.1

-- those of several clusters
pub in_cluster : (f : ℕ → List ℕ) (ls : List ℕ) (e : Event) → Within e (flat_map (λ l. growth l (f l)) ls) → (l : ℕ) × (Member l ls × Within e (growth l (f l)))
in_cluster f [] e w = absurd w
in_cluster f (l ∷ ls) e w = elim (in_either (growth l (f l)) (flat_map (λ k. growth k (f k)) ls) e w) [
  | inl v ↦ (l, (inl refl, v))
  | inr v ↦ let r = in_cluster f ls e v in (r.0, (inr r.1.0, r.1.1))
]

pub of_cluster : (f : ℕ → List ℕ) (ls : List ℕ) (l : ℕ) (e : Event) → Member l ls → Within e (growth l (f l)) → Within e (flat_map (λ k. growth k (f k)) ls)
of_cluster f [] l e m w = absurd m
of_cluster f (k ∷ ls) l e (inl s) w = in_left (growth k (f k)) (flat_map (λ k. growth k (f k)) ls) e (subst (λ (x : ℕ). Within e (growth x (f x))) s w)
of_cluster f (k ∷ ls) l e (inr m) w = in_right (growth k (f k)) (flat_map (λ k. growth k (f k)) ls) e (of_cluster f ls l e m w)

pub clusters_climb : (f : ℕ → List ℕ) → ((l : ℕ) → Rises (f l)) → (ls : List ℕ) → Rises ls → Climbs (flat_map (λ l. growth l (f l)) ls)
clusters_climb f rise [] r = tt
clusters_climb f rise (l ∷ ls) r =
    climbs_on (growth l (f l)) (flat_map (λ k. growth k (f k)) ls) (growth_climbs l (f l) (rise l)) (clusters_climb f rise ls r.1)
    (λ x y v w.
    let c = in_cluster f ls y w in
    let low = growth_at l (f l) x v in
    let high = growth_at c.0 (f c.0) y c.1.1 in
    let lt = r.0 c.0 c.1.0 in
    inl (omega (arith, low, high, lt)))

-- the order of old labels is nothing to the events of a cluster
abbrev pub SameMembers : List ℕ → List ℕ → Type 0
SameMembers xs ys = ((q : ℕ) → Member q xs → Member q ys) × ((q : ℕ) → Member q ys → Member q xs)

one_only : (x y z : ℕ) → Member y (x ∷ []) → Member z (x ∷ []) → y ≡ z
one_only x y z (inl s) (inl t) = s ∙ sym t
one_only x y z (inl s) (inr m) = absurd m
one_only x y z (inr m) n = absurd m

two_not_one : (x y z : ℕ) (zs : List ℕ) → Apart (y ∷ z ∷ zs) → ((q : ℕ) → Member q (y ∷ z ∷ zs) → Member q (x ∷ [])) → ⊥
two_not_one x y z zs once all = once.0 (inl (one_only x y z (all y (inl refl)) (all z (inr (inl refl)))))

pub growth_same : (l : ℕ) (xs ys : List ℕ) → Apart xs → Apart ys → SameMembers xs ys → (e : Event) → Within e (growth l xs) → Within e (growth l ys)
growth_same l [] [] a b same e w = w
growth_same l [] (y ∷ ys) a b same e w = absurd (same.1 y (inl refl))
growth_same l (x ∷ xs) [] a b same e w = absurd (same.0 x (inl refl))
growth_same l (x ∷ []) (y ∷ []) a b same e w =
    let s : x ≡ y = elim (same.0 x (inl refl)) [ inl t ↦ t | inr m ↦ absurd m ] in
    subst (λ (o : ℕ). Within e (growth l (o ∷ []))) s w
growth_same l (x ∷ []) (y ∷ z ∷ ys) a b same e w = absurd (two_not_one x y z ys b same.1)
growth_same l (x ∷ w ∷ xs) (y ∷ []) a b same e v = absurd (two_not_one y x w xs a same.0)
growth_same l (x ∷ w ∷ xs) (y ∷ z ∷ ys) a b same e v =
    let t = told_of kind.Merged l (x ∷ w ∷ xs) e v in
    subst (λ (o : Event). Within o (growth l (y ∷ z ∷ ys))) (sym t.1.1) (of_told kind.Merged l (y ∷ z ∷ ys) t.0 (same.0 t.0 t.1.0))

pub rises_apart : (xs : List ℕ) → Rises xs → Apart xs
rises_apart [] r = tt
rises_apart (x ∷ xs) r = ((λ m. absurd (let lt = r.0 x m in omega (arith, lt))), rises_apart xs r.1)
