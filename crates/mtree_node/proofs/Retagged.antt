-- The loop that sets the tags below entries.
use Rattle.std.proofs.Common.{◌≡◌, ℕ, ◌+◌, List, [], ◌∷◌, ◌++◌, ◌≤◌, take, drop, slice_set, sum_by, Some, sym, ap, subst, ◌∙◌, arith, append_assoc}
use Rattle.std.specs.List.{slice_get, AllByRecursion}
use Rattle.std.proofs.lemmas.List.Sums.{sum_by-cons}
use Rattle.mtree_node.specs.declared.node.InnerEntry.{InnerEntry, out-InnerEntry}
use Rattle.mtree_node.specs.Preorder.{size, retagged_entry, retagged_below, retagged_from}
use Rattle.mtree_node.proofs.Changed.{next_is, front_is}
use Rattle.mtree_node.proofs.Sizes.{child_size}

module _ (tags : List ℕ) (h : ℕ) (now old : List InnerEntry) (i : ℕ) (e : InnerEntry) (same : drop i now ≡ drop i old) (get : slice_get now i ≡ Some e) where
  -- what holds of the entries that are left holds of the next one and of those behind it
  pub left_hold : (P : InnerEntry → Type 0) → AllByRecursion P (drop i old) → AllByRecursion P (e ∷ drop (i + 1) old)
  left_hold P all = subst (AllByRecursion P) (next_is now old i e same get) all

  left_sizes : sum_by (child_size h) (drop i old) ≡ child_size h e + sum_by (child_size h) (drop (i + 1) old)
  left_sizes = ap (sum_by (child_size h)) (next_is now old i e same get) ∙ sum_by-cons (child_size h) e (drop (i + 1) old)

  pub room : (at all most : ℕ) → at + sum_by (child_size h) (drop i old) ≡ all → all ≤ most → at + child_size h e ≤ most
  room at all most was fits = omega (arith, left_sizes, was, fits)

  pub next_place : (at next all : ℕ) → next ≡ at + child_size h e → at + sum_by (child_size h) (drop i old) ≡ all → next + sum_by (child_size h) (drop (i + 1) old) ≡ all
  next_place at next all is was = omega (arith, left_sizes, is, was)

  pub one_more : (whole : List InnerEntry) (at next : ℕ) (new : InnerEntry) → new ≡ retagged_entry (retagged_from tags h at) (out-InnerEntry e) → next ≡ at + child_size h e
      → take i now ++ retagged_below (size h) (retagged_from tags h) at (drop i old) ≡ whole
      → take (i + 1) (slice_set now i new) ++ retagged_below (size h) (retagged_from tags h) next (drop (i + 1) old) ≡ whole
  one_more whole at next new is place was =
      let below = retagged_below (size h) (retagged_from tags h) in
      let rest = drop (i + 1) old in
      ap (λ (xs : List InnerEntry). xs ++ below next rest) (front_is now old i e same get new)
      ∙ append_assoc (take i now) (new ∷ []) (below next rest)
      ∙ ap (λ (x : InnerEntry). take i now ++ x ∷ below next rest) is
      ∙ ap (λ (p : ℕ). take i now ++ retagged_entry (retagged_from tags h at) (out-InnerEntry e) ∷ below p rest) place
      ∙ ap (λ (xs : List InnerEntry). take i now ++ below at xs) (sym (next_is now old i e same get))
      ∙ was
