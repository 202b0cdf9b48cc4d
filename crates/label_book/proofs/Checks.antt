-- What the tests' own checks of lists tell.
use Rattle.std.proofs.Common.{◌≡◌, ℕ, zero, suc, ◌<◌, ◌+◌, ◌⊎◌, Bool, true, false, not, nat_eq, List, [], ◌∷◌, ◌++◌, length, take, refl, sym, ap, subst, ◌∙◌, None, Some, inl, inr, slice_get, get_or}
use Rattle.std.specs.declared.option.Option.{Option}
use Rattle.std.specs.Option.{option_eq}
use Rattle.std.proofs.lemmas.Bool.{not-false}
use Rattle.std.proofs.lemmas.Bool.Decides.{eqb_tells}
use Rattle.std.specs.FinMap as map
use Rattle.label_book.specs.Labels.{Labels, IsMember, EachOnce}
use Rattle.label_book.specs.Parting.{IsGrouped, AreEachOnce, AreApart}
use Rattle.std.proofs.lemmas.List.{take_more}
use Rattle.label_book.proofs.Views.{same_value, no_value}
use Rattle.label_book.proofs.Joined.{pushed}
use Rattle.label_book.proofs.Parted.{once_more, groups_next}

-- The groups hold members of the cluster alone, none twice and none that is lost.
pub record AreGroups (m : Labels) (label : ℕ) (lost : List ℕ) (groups : List (List ℕ)) : Type 0 where
  pub in_cluster : (core : ℕ) → IsGrouped groups core → map.get m core ≡ Some label
  pub once : AreEachOnce groups
  pub apart : (core : ℕ) → IsMember lost core → IsGrouped groups core → ⊥
  pub one_group : AreApart groups

equal : (a o : Option ℕ) → option_eq nat_eq a o ≡ true → a ≡ o
equal None None e = refl
equal None (Some y) e = let f : false ≡ true = e in cc
equal (Some x) None e = let f : false ≡ true = e in cc
equal (Some x) (Some y) e = elim (eqb_tells x y) [ inl a ↦ ap (λ n. Some n) a.1 | inr a ↦ let f : false ≡ true = sym a.0 ∙ e in cc ]

-- what isn't found to differ is the same
pub same_label : (b : Bool) (a o : Option ℕ) → b ≡ not (option_eq nat_eq a o) → b ≡ false → a ≡ o
same_label b a o is e = equal a o (not-false (option_eq nat_eq a o) (sym is ∙ e))

-- a fact of the first numbers and of the next one holds of one number more
pub member_more : (F : ℕ → Type 0) (xs : List ℕ) (i : ℕ) → i < length xs → ((q : ℕ) → IsMember (take i xs) q → F q) → F (get_or xs i 0) → (q : ℕ) → IsMember (take (i + 1) xs) q → F q
member_more F xs i within first next q m = elim (pushed (take i xs) (get_or xs i 0) q (subst (λ ys. IsMember ys q) (take_more xs i 0 within) m)) [
  | inl f ↦ first q f
  | inr e ↦ subst F (sym e) next
]

-- no number stands twice in the first ones and the next one
pub once_next : (xs : List ℕ) (i : ℕ) → i < length xs → EachOnce (take i xs) → (IsMember (take i xs) (get_or xs i 0) → ⊥) → EachOnce (take (i + 1) xs)
once_next xs i within once fresh = subst EachOnce (sym (take_more xs i 0 within)) (once_more (take i xs) (get_or xs i 0) once fresh)

place_of : (gs : List (List ℕ)) (g : List ℕ) (j : ℕ) (f : List ℕ) → slice_get (gs ++ g ∷ []) j ≡ Some f → (slice_get gs j ≡ Some f) ⊎ ((j ≡ length gs) × (f ≡ g))
place_of [] g zero f e = inr (refl, sym (same_value refl e))
place_of [] g (suc j) f e = absurd (no_value refl e)
place_of (h ∷ gs) g zero f e = inl e
place_of (h ∷ gs) g (suc j) f e = elim (place_of gs g j f e) [ inl a ↦ inl a | inr b ↦ inr (ap suc b.0, b.1) ]

-- the groups looked at so far, and the next one
groups_more : (m : Labels) (label : ℕ) (lost : List ℕ) (gs : List (List ℕ)) (g : List ℕ) → AreGroups m label lost gs → EachOnce g → ((q : ℕ) → IsMember g q → map.get m q ≡ Some label) → ((q : ℕ) → IsMember g q → IsMember lost q → ⊥)
    → ((q : ℕ) → IsMember g q → IsGrouped gs q → ⊥) → AreGroups m label lost (gs ++ g ∷ [])
groups_more m label lost gs g was one_g in_g lost_g early_g = record {
  in_cluster = λ q f. elim (place_of gs g f.0 f.1.0 f.1.1.0) [
    | inl a ↦ was.in_cluster q (f.0, (f.1.0, (a, f.1.1.1)))
    | inr b ↦ in_g q (subst (λ ys. IsMember ys q) b.1 f.1.1.1)
  ];
  once = λ j h e. elim (place_of gs g j h e) [ inl a ↦ was.once j h a | inr b ↦ subst EachOnce (sym b.1) one_g ];
  apart = λ q l f. elim (place_of gs g f.0 f.1.0 f.1.1.0) [
    | inl a ↦ was.apart q l (f.0, (f.1.0, (a, f.1.1.1)))
    | inr b ↦ lost_g q (subst (λ ys. IsMember ys q) b.1 f.1.1.1) l
  ];
  one_group = λ q f h. elim (place_of gs g f.0 f.1.0 f.1.1.0) [
    | inl a ↦ elim (place_of gs g h.0 h.1.0 h.1.1.0) [
      | inl b ↦ was.one_group q (f.0, (f.1.0, (a, f.1.1.1))) (h.0, (h.1.0, (b, h.1.1.1)))
      | inr b ↦ absurd (early_g q (subst (λ ys. IsMember ys q) b.1 h.1.1.1) (f.0, (f.1.0, (a, f.1.1.1))))
    ]
    | inr a ↦ elim (place_of gs g h.0 h.1.0 h.1.1.0) [
      | inl b ↦ absurd (early_g q (subst (λ ys. IsMember ys q) a.1 f.1.1.1) (h.0, (h.1.0, (b, h.1.1.1))))
      | inr b ↦ a.0 ∙ sym b.0
    ]
  ];
}

pub groups_next_one : (m : Labels) (label : ℕ) (lost : List ℕ) (groups : List (List ℕ)) (i : ℕ) (g : List ℕ) → i < length groups → g ≡ get_or groups i g → AreGroups m label lost (take i groups) → EachOnce g
    → ((q : ℕ) → IsMember g q → map.get m q ≡ Some label) → ((q : ℕ) → IsMember g q → IsMember lost q → ⊥) → ((q : ℕ) → IsMember g q → IsGrouped (take i groups) q → ⊥)
    → AreGroups m label lost (take (i + 1) groups)
groups_next_one m label lost groups i g within is was one_g in_g lost_g early_g =
    subst (AreGroups m label lost) (sym (groups_next groups i g within is)) (groups_more m label lost (take i groups) g was one_g in_g lost_g early_g)
