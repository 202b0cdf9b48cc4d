-- The greatest sum of a side is at least each sum, and is one of them.
use Rattle.std.proofs.Common.{◌≡◌, ℕ, zero, suc, ◌+◌, ◌<◌, ◌≤◌, ◌⊎◌, min, List, Bool, true, false, length, ap, ◌∙◌, arith, inl, inr, slice_index, slice_index_or}
use Rattle.std.proofs.lemmas.Bool.{cases_Bool, cases_lt}
use Rattle.mtree_split.specs.Sides.{is_on, greatest_sum, side_radius}
use Rattle.mtree_split.specs.Laws.{IsRadius}
use Rattle.mtree_split.proofs.Turns.{sum_of_none, sum_takes, sum_passes}

module _ (row radii : List ℕ) (right : List Bool) (side : Bool) where
  sum_covers : (n k : ℕ) → k < n → is_on side (slice_index_or right k false) ≡ true → slice_index row k + slice_index radii k ≤ greatest_sum row radii right side n
  sum_covers zero k l on = absurd (omega arith)
  sum_covers (suc n) k l on =
      let now : suc n ≡ n + 1 = omega arith in
      rw now (elim (cases_lt k n) [
        | inl before ↦ elim (cases_Bool (is_on side (slice_index_or right n false))) [
          | inl t ↦ omega (arith, sum_covers n k before on, sum_takes row radii right side n t)
          | inr f ↦ omega (arith, sum_covers n k before on, sum_passes row radii right side n f)
        ]
        | inr here ↦ let at : k ≡ n = omega arith in rw at (omega (arith, sum_takes row radii right side n (rw at at on)))
      ])

  sum_attained : (n : ℕ) → (greatest_sum row radii right side n ≡ 0)
      ⊎ ((k : ℕ) × (k < n) × (is_on side (slice_index_or right k false) ≡ true) × (greatest_sum row radii right side n ≡ slice_index row k + slice_index radii k))
  sum_attained zero = inl (sum_of_none row radii right side)
  sum_attained (suc n) =
      let now : suc n ≡ n + 1 = omega arith in
      let old = greatest_sum row radii right side n in
      rw now (elim (cases_Bool (is_on side (slice_index_or right n false))) [
        | inl t ↦ elim (cases_lt old (slice_index row n + slice_index radii n)) [
          | inl less ↦ inr (n, omega arith, t, omega (arith, less, sum_takes row radii right side n t))
          | inr more ↦ elim (sum_attained n) [
            | inl none ↦ inl (omega (arith, none, more, sum_takes row radii right side n t))
            | inr some ↦ inr (some.0, omega (arith, some.1), some.2, omega (arith, some.3, more, sum_takes row radii right side n t))
          ]
        ]
        | inr f ↦ elim (sum_attained n) [
          | inl none ↦ inl (sum_passes row radii right side n f ∙ none)
          | inr some ↦ inr (some.0, omega (arith, some.1), some.2, sum_passes row radii right side n f ∙ some.3)
        ]
      ])

  pub is_radius : (greatest : ℕ) → IsRadius greatest row radii right side (side_radius greatest row radii right side)
  is_radius greatest = record {
    covers = λ k l on. omega (arith, sum_covers (length row) k l on);
    attained = elim (sum_attained (length row)) [
      | inl none ↦ inl (omega (arith, none))
      | inr some ↦ inr (some.0, some.1, some.2, ap (λ n. min n greatest) some.3)
    ];
  }
