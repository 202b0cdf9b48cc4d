-- The entries of a side: their number, their sums, and what holds of each.
use Rattle.std.proofs.Common.{◌≡◌, ℕ, suc, ◌+◌, ◌≤◌, Bool, true, false, cond, List, [], ◌∷◌, length, map, get_or, sum_by, count_by, Some, refl, ap, arith, inl, inr}
use Rattle.std.specs.List.{AllByRecursion, slice_get}
use Rattle.std.proofs.lemmas.Bool.{cases_Bool}
use Rattle.std.proofs.lemmas.List.Sums.{sum_by-cons}
use Rattle.mtree_split.specs.Sides.{is_on}
use Rattle.mtree_index.specs.Split.{row, on_side, with_parents}

none_right : (sides : List Bool) → ((k : ℕ) → get_or sides k false ≡ false) → count_by (λ x. x) sides ≡ 0
none_right [] none = refl
none_right (true ∷ sides) none = let wrong : true ≡ false = none 0 in cc
none_right (false ∷ sides) none = omega (arith, none_right sides (λ k. none (suc k)))

module _ {A : Type 0} where
  pub with_row : (dist : List ℕ → List ℕ → ℕ) (object : A → List ℕ) (set : ℕ → A → A) (o : List ℕ) (es : List A)
      → with_parents set (row dist o (map object es)) es ≡ map (λ e. set (dist o (object e)) e) es
  with_row dist object set o [] = refl
  with_row dist object set o (e ∷ es) = ap (λ xs. set (dist o (object e)) e ∷ xs) (with_row dist object set o es)

  pub length_right : (sides : List Bool) (es : List A) → length es ≤ length sides → ((k : ℕ) → length es ≤ k → get_or sides k false ≡ false) → length (on_side true sides es) ≡ count_by (λ x. x) sides
  length_right [] es l none = refl
  length_right (true ∷ sides) [] l none = let wrong : true ≡ false = none 0 (omega arith) in cc
  length_right (false ∷ sides) [] l none = omega (arith, none_right sides (λ k. none (suc k) (omega arith)))
  length_right (true ∷ sides) (e ∷ es) l none = omega (arith, length_right sides es (omega arith) (λ k h. none (suc k) (omega (arith, h))), sum_by-cons (λ (x : Bool). cond x 1 0) true sides)
  length_right (false ∷ sides) (e ∷ es) l none = omega (arith, length_right sides es (omega arith) (λ k h. none (suc k) (omega (arith, h))))

  pub length_both : (sides : List Bool) (es : List A) → length es ≤ length sides → length (on_side true sides es) + length (on_side false sides es) ≡ length es
  length_both [] [] l = refl
  length_both [] (e ∷ es) l = absurd (omega (arith, l))
  length_both (true ∷ sides) [] l = refl
  length_both (false ∷ sides) [] l = refl
  length_both (true ∷ sides) (e ∷ es) l = omega (arith, length_both sides es (omega arith))
  length_both (false ∷ sides) (e ∷ es) l = omega (arith, length_both sides es (omega arith))

  module _ (f : A → A) where
    pub length_on : (side : Bool) (sides : List Bool) (es : List A) → length (on_side side sides (map f es)) ≡ length (on_side side sides es)
    length_on side [] es = refl
    length_on side (b ∷ sides) [] = refl
    length_on side (b ∷ sides) (e ∷ es) =
        elim (cases_Bool (is_on side b)) [ inl on ↦ rw on (omega (arith, length_on side sides es)) | inr off ↦ rw off (length_on side sides es) ]

    pub all_on : (P : A → Type 0) (side : Bool) (sides : List Bool) (es : List A) → ((k : ℕ) (e : A) → slice_get es k ≡ Some e → is_on side (get_or sides k false) ≡ true → P (f e))
        → AllByRecursion P (on_side side sides (map f es))
    all_on P side [] es k = tt
    all_on P side (b ∷ sides) [] k = tt
    all_on P side (b ∷ sides) (e ∷ es) k =
        let rest = all_on P side sides es (λ n x g on. k (suc n) x g on) in
        elim (cases_Bool (is_on side b)) [ inl on ↦ rw on (k 0 e refl on, rest) | inr off ↦ rw off rest ]

  -- what is taken from both sides, each moved in its own way
  pub sum_both : (f h : A → A) (g : A → ℕ) (sides : List Bool) (es : List A) → ((e : A) → g (f e) ≡ g e) → ((e : A) → g (h e) ≡ g e) → length es ≤ length sides
      → sum_by g (on_side false sides (map f es)) + sum_by g (on_side true sides (map h es)) ≡ sum_by g es
  sum_both f h g [] [] left right l = refl
  sum_both f h g [] (e ∷ es) left right l = absurd (omega (arith, l))
  sum_both f h g (true ∷ sides) [] left right l = refl
  sum_both f h g (false ∷ sides) [] left right l = refl
  sum_both f h g (true ∷ sides) (e ∷ es) left right l = omega (arith, right e, sum_both f h g sides es left right (omega arith), sum_by-cons g (h e) (on_side true sides (map h es)), sum_by-cons g e es)
  sum_both f h g (false ∷ sides) (e ∷ es) left right l = omega (arith, left e, sum_both f h g sides es left right (omega arith), sum_by-cons g (f e) (on_side false sides (map f es)), sum_by-cons g e es)
