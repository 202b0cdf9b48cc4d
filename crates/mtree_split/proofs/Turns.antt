-- One turn more, and one entry more of a side.
use Rattle.std.proofs.Common.{◌≡◌, ℕ, ◌+◌, ◌%◌, ◌≤◌, max, List, Bool, true, false, length, refl, sym, ap, ◌∙◌, inl, inr, add-one, slice_index, slice_index_or, replicate, take, slice_set}
use Rattle.std.proofs.lemmas.Bool.Decides.{eqb_tells}
use Rattle.std.proofs.lemmas.List.{take-replicate}
use Rattle.mtree_split.specs.Sides.{Sides, nearest_left, all_left, with_nearest, after_turns, is_on, greatest_sum}

module _ (left_row right_row : List ℕ) where
  pub at_first : after_turns left_row right_row 0 ≡ all_left (length left_row)
  unfolding after_turns
  at_first = refl

  pub right_turn : (t : ℕ) → t % 2 ≡ 1 → after_turns left_row right_row (t + 1) ≡ with_nearest right_row true (after_turns left_row right_row t)
  unfolding after_turns
  right_turn t odd = rw add-one (elim (eqb_tells (t % 2) 1) [ inl h ↦ rw h.0 refl | inr h ↦ absurd (h.1 odd) ])

  pub left_turn : (t : ℕ) → (t % 2 ≡ 1 → ⊥) → after_turns left_row right_row (t + 1) ≡ with_nearest left_row false (after_turns left_row right_row t)
  unfolding after_turns
  left_turn t even = rw add-one (elim (eqb_tells (t % 2) 1) [ inl h ↦ absurd (even h.1) | inr h ↦ rw h.0 refl ])

module _ (row radii : List ℕ) (right : List Bool) (side : Bool) where
  pub sum_of_none : greatest_sum row radii right side 0 ≡ 0
  unfolding greatest_sum
  sum_of_none = refl

  pub sum_takes : (k : ℕ) → is_on side (slice_index_or right k false) ≡ true
      → greatest_sum row radii right side (k + 1) ≡ max (greatest_sum row radii right side k) (slice_index row k + slice_index radii k)
  unfolding greatest_sum
  sum_takes k on = rw add-one (rw on refl)

  pub sum_passes : (k : ℕ) → is_on side (slice_index_or right k false) ≡ false → greatest_sum row radii right side (k + 1) ≡ greatest_sum row radii right side k
  unfolding greatest_sum
  sum_passes k off = rw add-one (rw off refl)

pub false_front : (n : ℕ) → n ≤ 36 → take n (replicate 36 false) ≡ replicate n false
false_front n l = take-replicate n 36 false l

pub turn_more : (row : List ℕ) (to_right : Bool) (before after : Sides) (taken sides taken_then sides_then : List Bool) → taken ≡ before.taken → sides ≡ before.right
    → taken_then ≡ slice_set taken (nearest_left row taken) true → sides_then ≡ slice_set sides (nearest_left row taken) to_right
    → after ≡ with_nearest row to_right before → (taken_then ≡ after.taken) × (sides_then ≡ after.right)
turn_more row to_right before after taken sides taken_then sides_then p q more_taken more_sides e = (
  more_taken ∙ ap (λ (xs : List Bool). slice_set xs (nearest_left row xs) true) p ∙ sym (ap (λ (s : Sides). s.taken) e),
  more_sides ∙ ap (λ (xs : List Bool). slice_set sides (nearest_left row xs) to_right) p ∙ ap (λ (ys : List Bool). slice_set ys (nearest_left row before.taken) to_right) q ∙ sym (ap (λ (s : Sides). s.right) e),
)
