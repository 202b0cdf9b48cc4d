-- The first place of the least rank, by a loop that begins with no place.
use Rattle.std.proofs.Common.{◌≡◌, ℕ, ◌+◌, ◌<◌, ◌≤◌, sym, ap, ◌∙◌, arith, inl, inr}
use Rattle.std.proofs.lemmas.Bool.{cases_eq}
use Rattle.mtree_split.specs.Least.{first_least}
use Rattle.mtree_split.proofs.Firsts.{first_of_none, first_taken, first_kept}

module _ (rank : ℕ → ℕ) where
  first_of_one : first_least rank (0 + 1) ≡ 0
  first_of_one = let same : rank (first_least rank 0) ≤ rank 0 = rw (first_of_none rank) (omega arith) in first_kept rank 0 same ∙ first_of_none rank

  pub taken : (i least new place : ℕ) → place ≡ first_least rank i → (0 < i → least ≡ rank place) → new ≡ rank i → new < least → i ≡ first_least rank (i + 1)
  taken i least new place at is here less = elim (cases_eq i 0) [
    | inl none ↦ none ∙ sym (ap (λ (k : ℕ). first_least rank (k + 1)) none ∙ first_of_one)
    | inr some ↦
        let before : least ≡ rank (first_least rank i) = is (omega (arith, some)) ∙ ap rank at in
        sym (first_taken rank i (omega (arith, before, here, less)))
  ]

  pub kept : (i least place : ℕ) → place ≡ first_least rank i → least ≡ rank place → least ≤ rank i → place ≡ first_least rank (i + 1)
  kept i least place at is more =
      let before : least ≡ rank (first_least rank i) = is ∙ ap rank at in
      at ∙ sym (first_kept rank i (omega (arith, before, more)))

pub some_before : (i least most : ℕ) → (i ≡ 0 → least ≡ most) → least < most → 0 < i
some_before i least most none less = elim (cases_eq i 0) [ inl z ↦ absurd (omega (arith, none z, less)) | inr some ↦ omega (arith, some) ]
