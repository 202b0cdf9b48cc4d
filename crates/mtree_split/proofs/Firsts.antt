-- The first place of the least rank, found from the front.
use Rattle.std.proofs.Common.{◌≡◌, ℕ, zero, suc, ◌+◌, ◌<◌, ◌≤◌, refl, sym, ap, ◌∙◌, arith, inl, inr, add-one}
use Rattle.std.proofs.lemmas.Bool.{cases_lt}
use Rattle.std.proofs.lemmas.Bool.Decides.{leb_tells}
use Rattle.mtree_split.specs.Least.{first_least}

module _ (rank : ℕ → ℕ) where
  pub first_taken : (n : ℕ) → rank n < rank (first_least rank n) → first_least rank (n + 1) ≡ n
  unfolding first_least
  first_taken n m = rw add-one (elim (leb_tells (suc (rank n)) (rank (first_least rank n))) [ inl t ↦ rw t.0 refl | inr f ↦ absurd (omega (arith, f.1)) ])

  pub first_kept : (n : ℕ) → rank (first_least rank n) ≤ rank n → first_least rank (n + 1) ≡ first_least rank n
  unfolding first_least
  first_kept n m = rw add-one (elim (leb_tells (suc (rank n)) (rank (first_least rank n))) [ inl t ↦ absurd (omega (arith, t.1)) | inr f ↦ rw f.0 refl ])

  pub first_inside : (n : ℕ) → 0 < n → first_least rank n < n
  unfolding first_least
  first_inside zero l = absurd (omega arith)
  first_inside (suc zero) l = elim (leb_tells (suc (rank 0)) (rank 0)) [ inl t ↦ absurd (omega (arith, t.1)) | inr f ↦ rw f.0 (omega arith) ]
  first_inside (suc (suc n)) l =
      elim (leb_tells (suc (rank (suc n))) (rank (first_least rank (suc n)))) [
        | inl t ↦ rw t.0 (omega arith)
        | inr f ↦ rw f.0 (omega (arith, first_inside (suc n) (omega arith)))
      ]

  pub first_of_none : first_least rank 0 ≡ 0
  unfolding first_least
  first_of_none = refl

  -- a loop that keeps the best place so far and its rank
  pub takes : (k best least new best_then least_then : ℕ) → best ≡ first_least rank k → least ≡ rank best → new ≡ rank k → new < least → best_then ≡ k → least_then ≡ new
      → (best_then ≡ first_least rank (k + 1)) × (least_then ≡ rank best_then)
  takes k best least new best_then least_then at is here less to with =
      let before : rank (first_least rank k) ≡ least = ap rank (sym at) ∙ sym is in
      (to ∙ sym (first_taken k (omega arith)), with ∙ here ∙ ap rank (sym to))

  pub keeps : (k best least best_then least_then : ℕ) → best ≡ first_least rank k → least ≡ rank best → least ≤ rank k → best_then ≡ best → least_then ≡ least
      → (best_then ≡ first_least rank (k + 1)) × (least_then ≡ rank best_then)
  keeps k best least best_then least_then at is more to with =
      let before : rank (first_least rank k) ≡ least = ap rank (sym at) ∙ sym is in
      (to ∙ at ∙ sym (first_kept k (omega arith)), with ∙ is ∙ ap rank (sym to))

  -- no place below the bound has a lesser rank, and none before the first has the same
  pub first_is_least : (n k : ℕ) → k < n → rank (first_least rank n) ≤ rank k
  unfolding first_least
  first_is_least zero k l = absurd (omega arith)
  first_is_least (suc n) k l =
      elim (cases_lt k n) [
        | inl before ↦ elim (leb_tells (suc (rank n)) (rank (first_least rank n))) [
          | inl t ↦ rw t.0 (omega (arith, t.1, first_is_least n k before))
          | inr f ↦ rw f.0 (first_is_least n k before)
        ]
        | inr here ↦
            let at : k ≡ n = omega arith in
            rw at (elim (leb_tells (suc (rank n)) (rank (first_least rank n))) [ inl t ↦ rw t.0 (omega arith) | inr f ↦ rw f.0 (omega (arith, f.1)) ])
      ]

  pub first_is_first : (n k : ℕ) → k < first_least rank n → rank (first_least rank n) < rank k
  unfolding first_least
  first_is_first zero k l = absurd (omega (arith, l))
  first_is_first (suc n) k l =
      elim (leb_tells (suc (rank n)) (rank (first_least rank n))) [
        | inl t ↦ let before : k < n = rw t.0 at l in rw t.0 (omega (arith, t.1, first_is_least n k before))
        | inr f ↦ let before : k < first_least rank n = rw f.0 at l in rw f.0 (first_is_first n k before)
      ]
