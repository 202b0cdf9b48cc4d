-- The places that the first pruning test leaves are places.
use Rattle.std.proofs.Common.{ℕ, zero, suc, ◌+◌, ◌<◌, ◌≤◌, Bool, true, false, not, List, [], ◌∷◌, length, slice_index, cond, Option, arith}
use Rattle.std.specs.List.{AllByRecursion, filter, range_with_len}
use Rattle.mtree_node.specs.Cost.{is_skipped}
use Rattle.mtree_index.specs.Pruned.{places_left}

-- what passes a test is among the places
pub inside_filter : (P : ℕ → Type 0) (p : ℕ → Bool) (xs : List ℕ) → AllByRecursion P xs → AllByRecursion P (filter p xs)
inside_filter P p [] all = tt
inside_filter P p (x ∷ xs) all =
    let rest = inside_filter P p xs all.1 in
    elim (p x) as (λ b. AllByRecursion P (cond b (x ∷ filter p xs) (filter p xs))) [ true ↦ (all.0, rest) | false ↦ rest ]

inside_range : (a n size : ℕ) → a + n ≤ size → AllByRecursion (λ k. k < size) (range_with_len a n)
inside_range a zero size h = tt
inside_range a (suc n) size h = (omega arith, inside_range (a + 1) n size (omega arith))

-- the places that are left are places
pub inside_left : (o : Option ℕ) (radius : ℕ) (ps : List ℕ) (size : ℕ) → length ps ≤ size → AllByRecursion (λ k. k < size) (places_left o radius ps)
inside_left o radius ps size h =
    inside_filter (λ k. k < size) (λ k. not (is_skipped o radius (slice_index ps k))) (range_with_len 0 (length ps)) (inside_range 0 (length ps) size (omega arith))
