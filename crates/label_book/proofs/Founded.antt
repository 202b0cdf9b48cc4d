-- A cluster that grows by one core after the other.
use Rattle.std.proofs.Common.{◌≡◌, ℕ, ◌<◌, List, [], ◌∷◌, ◌++◌, length, refl, sym, ap, subst, ◌∙◌, cond, None, Some, inl, inr, slice_get, min, take, drop, get_or, ◌+◌, arith, length-take}
use Rattle.std.proofs.lemmas.Bool.Decides.{eqb_tells}
use Rattle.std.proofs.lemmas.List.{take_more, take-append-drop}
use Rattle.std.proofs.lemmas.Option.{slice_get-get_or, slice_get_within}
use Rattle.std.specs.Option.{option_map}
use Rattle.std.specs.FinMap as map
use Rattle.label_book.specs.Labels.{Labels, HasLeast, IsMember, EachOnce, IsLeastOf, IsFounded}
use Rattle.label_book.specs.inside.Steps.{IsWith, relabel}
use Rattle.label_book.proofs.Views.{known, no_value}
use Rattle.label_book.proofs.Added.{in_front, at_end, last_or, lesser_label, alone, here, apart, same_label, other_label}

-- a label that is not that of the cluster stays
pub stays : (old : Labels) → HasLeast old → (label to q : ℕ) → map.get old label ≡ None → option_map (relabel label to) (map.get old q) ≡ map.get old q
stays old least label to q free = elim (known (map.get old q)) [
  | inl gone ↦ ap (option_map (relabel label to)) gone ∙ sym gone
  | inr r ↦
      let differs : r.0 ≡ label → ⊥ = λ e. no_value free (subst (λ n. map.get old n ≡ Some n) e (least q r.0 r.1).1) in
      ap (option_map (relabel label to)) r.1 ∙ (ap (λ n. Some n) (other_label label r.0 differs to) ∙ sym r.1)
]

pub founded_alone : (old new : Labels) (core : ℕ) → new ≡ map.insert old core core → IsFounded old ([] ++ core ∷ []) core new
founded_alone old new core is q = (
  λ m. elim (last_or [] core m.0 q m.1) [
    | inl f ↦ absurd (no_value refl f)
    | inr g ↦ ap (λ n. map.get n q) is ∙ (ap (map.get (map.insert old core core)) g.1 ∙ here old core core)
  ],
  λ out. ap (λ n. map.get n q) is ∙ apart old core core q (λ e. out (0, subst (λ n. slice_get ([] ++ core ∷ []) 0 ≡ Some n) (sym e) refl)),
)

pub founded_more : (old m new : Labels) → HasLeast old → (xs : List ℕ) (label core : ℕ) → IsLeastOf label xs → map.get old label ≡ None → IsFounded old xs label m → IsWith m label core new → IsFounded old (xs ++ core ∷ []) (min label core) new
founded_more old m new least xs label core has free was w q =
    let to = min label core in
    let rest = option_map (relabel label to) (map.get m q) in
    elim (eqb_tells q core) [
      | inl t ↦ (
        λ _. w q ∙ ap (λ b. cond b (Some to) rest) t.0,
        λ out. absurd (out (length xs, subst (λ n. slice_get (xs ++ core ∷ []) (length xs) ≡ Some n) (sym t.1) (at_end xs core))),
      )
      | inr f ↦ (
        λ mem. elim (last_or xs core mem.0 q mem.1) [
          | inl i ↦ w q ∙ (ap (λ b. cond b (Some to) rest) f.0 ∙ (ap (option_map (relabel label to)) ((was q).0 (mem.0, i)) ∙ ap (λ n. Some n) (same_label label label refl to)))
          | inr g ↦ absurd (f.1 g.1)
        ],
        λ out.
            let old_one : map.get m q ≡ map.get old q = (was q).1 (λ mem. out (mem.0, in_front xs (core ∷ []) mem.0 q mem.1)) in
            w q ∙ (ap (λ b. cond b (Some to) rest) f.0 ∙ (ap (option_map (relabel label to)) old_one ∙ stays old least label to q free)),
      )
    ]

-- a number that stands in the first ones stands in the list
pub in_whole : (xs : List ℕ) (i q : ℕ) → IsMember (take i xs) q → IsMember xs q
in_whole xs i q m = (m.0, subst (λ ys. slice_get ys m.0 ≡ Some q) (take-append-drop i xs) (in_front (take i xs) (drop i xs) m.0 q m.1))

-- the next number does not stand in the first ones
pub next_new : (xs : List ℕ) (i : ℕ) → i < length xs → EachOnce xs → IsMember (take i xs) (get_or xs i 0) → ⊥
unfolding in_whole
next_new xs i within once m =
    let same : m.0 ≡ i = once m.0 i (get_or xs i 0) (in_whole xs i _ m).1 (slice_get-get_or xs i 0 within) in
    let short : m.0 < length (take i xs) = slice_get_within (take i xs) m.0 _ m.1 in
    omega (arith, same, short, length-take i xs)

pub next_free : (old m : Labels) (xs : List ℕ) (i label : ℕ) → i < length xs → EachOnce xs → ((q : ℕ) → IsMember xs q → map.get old q ≡ None) → IsFounded old (take i xs) label m → map.get m (get_or xs i 0) ≡ None
next_free old m xs i label within once free was = (was (get_or xs i 0)).1 (next_new xs i within once) ∙ free _ (i, slice_get-get_or xs i 0 within)

pub first_alone : (xs : List ℕ) → 0 < length xs → IsLeastOf (get_or xs 0 0) (take 1 xs)
first_alone xs some = let one : take 1 xs ≡ [] ++ get_or xs 0 0 ∷ [] = take_more xs 0 0 some in subst (IsLeastOf (get_or xs 0 0)) (sym one) (alone (get_or xs 0 0))

pub first_founded : (old new : Labels) (xs : List ℕ) → 0 < length xs → new ≡ map.insert old (get_or xs 0 0) (get_or xs 0 0) → IsFounded old (take 1 xs) (get_or xs 0 0) new
first_founded old new xs some is =
    let one : take 1 xs ≡ [] ++ get_or xs 0 0 ∷ [] = take_more xs 0 0 some in
    subst (λ ys. IsFounded old ys (get_or xs 0 0) new) (sym one) (founded_alone old new (get_or xs 0 0) is)

pub next_least : (xs : List ℕ) (i label to : ℕ) → i < length xs → IsLeastOf label (take i xs) → to ≡ min label (get_or xs i 0) → IsLeastOf to (take (i + 1) xs)
next_least xs i label to within has is = subst (λ n. IsLeastOf n (take (i + 1) xs)) (sym is) (subst (IsLeastOf (min label (get_or xs i 0))) (sym (take_more xs i 0 within)) (lesser_label label (take i xs) (get_or xs i 0) has))

pub next_founded : (old m new : Labels) → HasLeast old → (xs : List ℕ) (i label to : ℕ) → i < length xs → ((q : ℕ) → IsMember xs q → map.get old q ≡ None) → IsLeastOf label (take i xs)
    → IsFounded old (take i xs) label m → IsWith m label (get_or xs i 0) new → to ≡ min label (get_or xs i 0) → IsFounded old (take (i + 1) xs) to new
next_founded old m new least xs i label to within free has was w is =
    subst (λ n. IsFounded old (take (i + 1) xs) n new) (sym is)
    (subst (λ ys. IsFounded old ys (min label (get_or xs i 0)) new) (sym (take_more xs i 0 within))
    (founded_more old m new least (take i xs) label (get_or xs i 0) has (free label (in_whole xs i label has.0)) was w))
