-- However a pair's entries are parted, its greater radius is at least what the nearer object asks.
use Rattle.std.proofs.Common.{◌≡◌, ℕ, zero, suc, ◌+◌, ◌/◌, ◌%◌, ◌<◌, ◌≤◌, min, max, List, Bool, true, false, length, refl, sym, ap, ◌∙◌, arith, inl, inr, add-one, slice_index, slice_index_or, leb, IsTrue}
use Rattle.std.proofs.lemmas.Bool.{cases_Bool}
use Rattle.std.proofs.lemmas.Bool.Decides.{leb_tells}
use Rattle.mtree_split.specs.Sides.{greatest_sum, nearer_sum}
use Rattle.mtree_split.specs.Choice.{row_of, parting_of, pair_rank}
use Rattle.mtree_split.proofs.Turns.{sum_takes, sum_passes}
use Rattle.mtree_split.proofs.Pairs.{rank_at}

module _ (left_row right_row radii : List ℕ) where
  pub nearer_of_none : nearer_sum left_row right_row radii 0 ≡ 0
  unfolding nearer_sum
  nearer_of_none = refl

  pub nearer_more : (k : ℕ)
      → nearer_sum left_row right_row radii (k + 1) ≡ max (nearer_sum left_row right_row radii k) (min (slice_index left_row k) (slice_index right_row k) + slice_index radii k)
  unfolding nearer_sum
  nearer_more k = rw add-one refl

  pub nearer_at_most : (right : List Bool) (n : ℕ) → nearer_sum left_row right_row radii n ≤ max (greatest_sum left_row radii right false n) (greatest_sum right_row radii right true n)
  nearer_at_most right zero = omega (arith, nearer_of_none)
  nearer_at_most right (suc k) =
      let now : suc k ≡ k + 1 = omega arith in
      let before = nearer_at_most right k in
      rw now (elim (cases_Bool (slice_index_or right k false)) [
        | inl t ↦ omega (arith, before, nearer_more k, sum_takes right_row radii right true k t, sum_passes left_row radii right false k (rw t refl))
        | inr f ↦ omega (arith, before, nearer_more k, sum_passes right_row radii right true k f, sum_takes left_row radii right false k (rw f refl))
      ])

pub hopeless : (count : ℕ) (matrix radii : List ℕ) (greatest place : ℕ) → place / count < place % count
    → length (row_of count matrix (place / count)) ≡ count → length (row_of count matrix (place % count)) ≡ count
    → min (nearer_sum (row_of count matrix (place / count)) (row_of count matrix (place % count)) radii count) greatest ≤ pair_rank count matrix radii greatest place
unfolding parting_of
hopeless count matrix radii greatest place l left right =
    rw (rank_at count matrix radii greatest place l) (rw (left, right) (omega (arith, nearer_at_most (row_of count matrix (place / count)) (row_of count matrix (place % count)) radii (parting_of count matrix radii greatest (place / count) (place % count)).sides count)))

pub hopeless_at : (count : ℕ) (matrix radii : List ℕ) (greatest place : ℕ) (left_row right_row : List ℕ) (bound least : ℕ) → place / count < place % count
    → left_row ≡ row_of count matrix (place / count) → right_row ≡ row_of count matrix (place % count) → length left_row ≡ count → length right_row ≡ count
    → bound ≡ min (nearer_sum left_row right_row radii (length left_row)) greatest → IsTrue (leb least bound) → least ≤ pair_rank count matrix radii greatest place
hopeless_at count matrix radii greatest place left_row right_row bound least l is_left is_right left right is test =
    let sums : nearer_sum left_row right_row radii (length left_row) ≡ nearer_sum (row_of count matrix (place / count)) (row_of count matrix (place % count)) radii count =
    ap (λ n. nearer_sum left_row right_row radii n) left ∙ ap (λ xs. nearer_sum xs right_row radii count) is_left
    ∙ ap (λ xs. nearer_sum (row_of count matrix (place / count)) xs radii count) is_right in
    let whole = hopeless count matrix radii greatest place l (sym (ap length is_left) ∙ left) (sym (ap length is_right) ∙ right) in
    elim (leb_tells least bound) [ inl t ↦ omega (arith, t.1, is, sums, whole) | inr f ↦ absurd (let wrong : false ≡ true = rw f.0 at test in cc) ]
