-- There are as many clusters as cores that are their own label.
use Rattle.std.proofs.Common.{◌≡◌, ℕ, zero, suc, ◌+◌, ◌<◌, ◌≤◌, Bool, true, false, cond, ◌&&◌, ◌||◌, nat_eq, List, [], ◌∷◌, length, count_by, refl, sym, ap, subst, ◌∙◌, None, Some, is_some, inl, inr, slice_get, get_or, arith}
use Rattle.std.proofs.lemmas.Bool.Decides.{eqb_tells}
use Rattle.std.proofs.lemmas.Option.{slice_get-get_or}
use Rattle.std.proofs.lemmas.List.Recursion.{is_count_by}
use Rattle.std.proofs.lemmas.Map.Keys.{IsDistinct-from_apart}
use Rattle.std.proofs.lemmas.Map.Made.{length-le_from_is_member}
use Rattle.std.specs.declared.option.Option.{Option}
use Rattle.std.specs.declared.cmp.Ordering.{Ordering}
use Rattle.std.specs.declared.cmp.Ordering.TheVariants.{Less, Equal, Greater}
use Rattle.std.specs.List.{list_any, IsDistinct}
use Rattle.std.specs.Ordering.{nat_cmp, is_lt, is_eq}
use Rattle.std.specs.Cmp.{nat_eq_equiv, unsigned_tied}
use Rattle.std.specs.FinMap as map
use Rattle.std.specs.FinMap.Entries.{below_all}
use lib.Dec.{T}
use Rattle.slab.specs.Slab as slab
use Rattle.label_book.specs.declared.cluster.Place.{Place}
use Rattle.label_book.specs.declared.cluster.Cluster.{Cluster}
use Rattle.label_book.specs.Labels.{IsMember, EachOnce, cluster_count}
use Rattle.label_book.specs.inside.Kept.{Places, Clusters, Kept, labels_of}
use Rattle.label_book.proofs.Views.{same_value, no_value, member_labelled, with_label, one_cluster}

-- the keys that are their own values
abbrev pub owned : List (ℕ × ℕ) → List ℕ
owned [] = []
owned (e ∷ es) = cond (nat_eq e.0 e.1) (e.0 ∷ owned es) (owned es)

long : (b : Bool) (x : ℕ) (xs : List ℕ) → length (cond b (x ∷ xs) xs) ≡ cond b (1 + length xs) (length xs)
long true x xs = omega arith
long false x xs = refl

length_owned : (es : List (ℕ × ℕ)) → length (owned es) ≡ count_by (λ e. nat_eq e.0 e.1) es
length_owned es = is_count_by (λ ys. length (owned ys)) (λ e. nat_eq e.0 e.1) refl (λ e ys. long (nat_eq e.0 e.1) e.0 (owned ys)) es

first_true : (a b : Bool) → T (a && b) → T a
first_true true b p = tt
first_true false b p = absurd p

second_true : (a b : Bool) → T (a && b) → T b
second_true true b p = p
second_true false b p = absurd p

untied_below : (o : Ordering) → T (is_lt o) → is_eq o ≡ false
untied_below Less h = refl
untied_below Equal h = absurd h
untied_below Greater h = absurd h

at_later : (x : ℕ) (xs : List ℕ) (q : ℕ) → (x ≡ q → ⊥) → (i : ℕ) → slice_get (x ∷ xs) i ≡ Some q → IsMember xs q
at_later x xs q ne zero e = absurd (ne (same_value refl e))
at_later x xs q ne (suc i) e = (i, e)

lower : (h g : ℕ) → suc h ≡ suc g → h ≡ g
lower h g e = omega (arith, e)

above : (g : ℕ) → 0 ≡ suc g → ⊥
above g e = omega (arith, e)

-- a key below all others is not among them
not_after : (x : ℕ) (es : List (ℕ × ℕ)) → T (below_all nat_cmp x es) → map.find nat_cmp x es ≡ None
not_after x [] h = refl
not_after x (e ∷ es) h =
    ap (λ b. cond b (Some e.1) (map.find nat_cmp x es)) (untied_below (nat_cmp x e.0) (first_true (is_lt (nat_cmp x e.0)) _ h)) ∙ not_after x es (second_true (is_lt (nat_cmp x e.0)) _ h)

-- a member of a list with one more in front
later : (x : ℕ) (xs : List ℕ) (q : ℕ) → (x ≡ q → ⊥) → IsMember (x ∷ xs) q → IsMember xs q
later x xs q ne m = at_later x xs q ne m.0 m.1

-- the keys that are their own values are those that are found so
owned_found : (es : List (ℕ × ℕ)) → T (map.is_sorted nat_cmp es) → (q : ℕ) → (IsMember (owned es) q → map.find nat_cmp q es ≡ Some q) × (map.find nat_cmp q es ≡ Some q → IsMember (owned es) q)
owned_found [] h q = (λ m. absurd (no_value refl m.1), λ e. absurd (no_value refl e))
owned_found (e ∷ es) h q =
    let rest = owned_found es (second_true (below_all nat_cmp e.0 es) _ h) q in
    let head = not_after e.0 es (first_true (below_all nat_cmp e.0 es) _ h) in
    let rest_of : List ℕ = owned es in
    elim (eqb_tells q e.0) [
      | inl t ↦
          let found : map.find nat_cmp q (e ∷ es) ≡ Some e.1 = ap (λ b. cond b (Some e.1) (map.find nat_cmp q es)) (unsigned_tied q e.0 ∙ t.0) in
          elim (eqb_tells e.0 e.1) [
            | inl own ↦ (
              λ m. found ∙ ap (λ n. Some n) (sym own.1 ∙ sym t.1),
              λ f. subst (λ ys. IsMember ys q) (sym (ap (λ b. cond b (e.0 ∷ rest_of) rest_of) own.0)) (0, ap (λ n. Some n) (sym t.1)),
            )
            | inr other ↦ (
              λ m.
                  let n : IsMember rest_of q = subst (λ ys. IsMember ys q) (ap (λ b. cond b (e.0 ∷ rest_of) rest_of) other.0) m in
                  absurd (no_value (subst (λ x. map.find nat_cmp x es ≡ None) (sym t.1) head) (rest.0 n)),
              λ f. absurd (other.1 (sym t.1 ∙ sym (same_value found f))),
            )
          ]
      | inr ne ↦
          let found : map.find nat_cmp q (e ∷ es) ≡ map.find nat_cmp q es = ap (λ b. cond b (Some e.1) (map.find nat_cmp q es)) (unsigned_tied q e.0 ∙ ne.0) in
          elim (eqb_tells e.0 e.1) [
            | inl own ↦ (
              λ m. found ∙ rest.0 (later e.0 rest_of q (λ s. ne.1 (sym s)) (subst (λ ys. IsMember ys q) (ap (λ b. cond b (e.0 ∷ rest_of) rest_of) own.0) m)),
              λ f. let m = rest.1 (sym found ∙ f) in subst (λ ys. IsMember ys q) (sym (ap (λ b. cond b (e.0 ∷ rest_of) rest_of) own.0)) (suc m.0, m.1),
            )
            | inr other ↦ (
              λ m. found ∙ rest.0 (subst (λ ys. IsMember ys q) (ap (λ b. cond b (e.0 ∷ rest_of) rest_of) other.0) m),
              λ f. subst (λ ys. IsMember ys q) (sym (ap (λ b. cond b (e.0 ∷ rest_of) rest_of) other.0)) (rest.1 (sym found ∙ f)),
            )
          ]
    ]

cons_once : (x : ℕ) (xs : List ℕ) → (IsMember xs x → ⊥) → EachOnce xs → EachOnce (x ∷ xs)
cons_once x xs n o zero zero q e f = refl
cons_once x xs n o zero (suc j) q e f = absurd (n (j, f ∙ sym e))
cons_once x xs n o (suc i) zero q e f = absurd (n (i, e ∙ sym f))
cons_once x xs n o (suc i) (suc j) q e f = ap suc (o i j q e f)

owned_once : (es : List (ℕ × ℕ)) → T (map.is_sorted nat_cmp es) → EachOnce (owned es)
owned_once [] h = λ i j q e f. absurd (no_value refl e)
owned_once (e ∷ es) h =
    let sorted = second_true (below_all nat_cmp e.0 es) _ h in
    let head = not_after e.0 es (first_true (below_all nat_cmp e.0 es) _ h) in
    elim (nat_eq e.0 e.1) as (λ b. EachOnce (cond b (e.0 ∷ owned es) (owned es))) [
      | true ↦ cons_once e.0 (owned es) (λ m. no_value head ((owned_found es sorted e.0).0 m)) (owned_once es sorted)
      | false ↦ owned_once es sorted
    ]

-- the labels of the clusters, by their keys
abbrev pub named : List (Option Cluster) → List ℕ
named [] = []
named (None ∷ slots) = named slots
named (Some c ∷ slots) = c.label ∷ named slots

one_named : (o : Option Cluster) (slots : List (Option Cluster)) → length (named (o ∷ slots)) ≡ cond (is_some o) (1 + length (named slots)) (length (named slots))
one_named None slots = refl
one_named (Some c) slots = omega arith

length_named : (slots : List (Option Cluster)) → length (named slots) ≡ count_by is_some slots
length_named slots = is_count_by (λ s. length (named s)) is_some refl one_named slots

-- a label of the list is one of a cluster, and the other way round
named_at : (slots : List (Option Cluster)) (i q : ℕ) → slice_get (named slots) i ≡ Some q → (h : ℕ) × ((c : Cluster) × ((get_or slots h None ≡ Some c) × (c.label ≡ q)))
named_at [] i q e = absurd (no_value refl e)
named_at (None ∷ slots) i q e = let n = named_at slots i q e in (suc n.0, n.1)
named_at (Some c ∷ slots) zero q e = (0, (c, (refl, same_value refl e)))
named_at (Some c ∷ slots) (suc i) q e = let n = named_at slots i q e in (suc n.0, n.1)

at_named : (slots : List (Option Cluster)) (h : ℕ) (c : Cluster) → get_or slots h None ≡ Some c → IsMember (named slots) c.label
at_named [] h c e = absurd (no_value refl e)
at_named (None ∷ slots) zero c e = absurd (no_value refl e)
at_named (None ∷ slots) (suc h) c e = at_named slots h c e
at_named (Some d ∷ slots) zero c e = (0, ap (λ (x : Cluster). Some x.label) (same_value refl e))
at_named (Some d ∷ slots) (suc h) c e = let m = at_named slots h c e in (suc m.0, m.1)

named_once : (slots : List (Option Cluster)) → ((h g : ℕ) (c d : Cluster) → get_or slots h None ≡ Some c → get_or slots g None ≡ Some d → c.label ≡ d.label → h ≡ g) → EachOnce (named slots)
named_once [] apart = λ i j q e f. absurd (no_value refl e)
named_once (None ∷ slots) apart = named_once slots (λ h g c d e f s. lower h g (apart (suc h) (suc g) c d e f s))
named_once (Some x ∷ slots) apart =
    cons_once x.label (named slots)
    (λ m. let n = named_at slots m.0 x.label m.1 in above n.0 (apart 0 (suc n.0) x n.1.0 refl n.1.1.0 (sym n.1.1.1)))
    (named_once slots (λ h g c d e f s. lower h g (apart (suc h) (suc g) c d e f s)))

-- membership as a test
pub any_at : (xs : List ℕ) (q i : ℕ) → slice_get xs i ≡ Some q → list_any (nat_eq q) xs ≡ true
any_at [] q i e = absurd (no_value refl e)
any_at (x ∷ xs) q zero e = elim (eqb_tells q x) [ inl t ↦ ap (λ b. b || list_any (nat_eq q) xs) t.0 | inr f ↦ absurd (f.1 (sym (same_value refl e))) ]
any_at (x ∷ xs) q (suc i) e = elim (nat_eq q x) as (λ b. (b || list_any (nat_eq q) xs) ≡ true) [ true ↦ refl | false ↦ any_at xs q i e ]

pub at_any : (xs : List ℕ) (q : ℕ) → list_any (nat_eq q) xs ≡ true → IsMember xs q
at_any [] q h = absurd (cc)
at_any (x ∷ xs) q h = elim (eqb_tells q x) [
  | inl t ↦ (0, ap (λ n. Some n) (sym t.1))
  | inr f ↦ let m = at_any xs q (sym (ap (λ b. b || list_any (nat_eq q) xs) f.0) ∙ h) in (suc m.0, m.1)
]

pub once_distinct : (xs : List ℕ) → EachOnce xs → IsDistinct nat_eq xs
once_distinct xs o = IsDistinct-from_apart nat_eq xs (λ i j d lt within. elim (eqb_tells (get_or xs i d) (get_or xs j d)) [
  | inl t ↦
      let low : i < length xs = omega (arith, lt, within) in
      let one : i ≡ j = o i j (get_or xs j d) (slice_get-get_or xs i d low ∙ ap (λ n. Some n) t.1) (slice_get-get_or xs j d within) in
      absurd (omega (arith, one, lt))
  | inr f ↦ f.0
])

as_long : (xs ys : List ℕ) → EachOnce xs → ((q : ℕ) → IsMember xs q → IsMember ys q) → length xs ≤ length ys
as_long xs ys o f = length-le_from_is_member nat_eq_equiv xs ys (once_distinct xs o) (λ q h. let m = f q (at_any xs q h) in any_at ys q m.0 m.1)

pub clusters_counted : (ps : Places) (cs : Clusters) → Kept ps cs → slab.slab_len cs ≡ cluster_count (labels_of ps cs)
clusters_counted ps cs k =
    let es = map.entries (labels_of ps cs) in
    let sorted = map.entries_sorted (labels_of ps cs) in
    let xs = owned es in
    let ys = named cs.slots in
    let apart : (h g : ℕ) (c d : Cluster) → slab.get cs h ≡ Some c → slab.get cs g ≡ Some d → c.label ≡ d.label → h ≡ g
    = λ h g c d e f s.
    let l = k.least h c e in
    let p : Place = record { cluster = h; at = l.0.0 } in
    let at : map.get ps c.label ≡ Some p = k.listed h c e l.0.0 c.label l.0.1 in
    one_cluster ps cs k g d f p (subst (λ n. map.get ps n ≡ Some p) s at) in
    let there : (q : ℕ) → IsMember xs q → IsMember ys q = λ q m.
    let has : map.get (labels_of ps cs) q ≡ Some q = map.get-entries (labels_of ps cs) q ∙ (owned_found es sorted q).0 m in
    let s = with_label ps cs k q q has in
    subst (IsMember ys) s.1 (at_named cs.slots s.0.place.cluster s.0.cluster s.0.is) in
    let here : (q : ℕ) → IsMember ys q → IsMember xs q = λ q m.
    let n = named_at cs.slots m.0 q m.1 in
    let l = k.least n.0 n.1.0 n.1.1.0 in
    let has : map.get (labels_of ps cs) n.1.0.label ≡ Some n.1.0.label = member_labelled ps cs k n.0 n.1.0 n.1.1.0 n.1.0.label l.0 in
    (owned_found es sorted q).1 (sym (map.get-entries (labels_of ps cs) q) ∙ subst (λ x. map.get (labels_of ps cs) x ≡ Some x) n.1.1.1 has) in
    let more = as_long xs ys (owned_once es sorted) there in
    let less_or = as_long ys xs (named_once cs.slots apart) here in
    let same_length : length ys ≡ length xs = omega (arith, more, less_or) in
    sym (length_named cs.slots) ∙ (same_length ∙ length_owned es)
