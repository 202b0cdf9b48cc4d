-- The slot of a number among the slots of watchers.
use Rattle.std.proofs.Common.{◌≡◌, ℕ, ◌-◌, ◌≤◌, ◌==◌, false, List, [], ◌∷◌, length, set, Option, None, zero, suc, refl, arith}
use Rattle.std.proofs.lemmas.List.{map-set}
use Rattle.std.proofs.Math.Dec.{eqb-suc-zero}
use Rattle.std.specs.Option.{option_map}
use Rattle.std.specs.List.{slice_get}
use Rattle.event_feed.specs.Meanings.{Meaning, meanings, slot_or_none, is_full, without_slot}

not_zero : (k : ℕ) → (k ≡ 0 → ⊥) → k == 0 ≡ false
not_zero zero h = absurd (h refl)
not_zero (suc k) h = eqb-suc-zero k

past_index : {A : Type 0} (says : A → Meaning) (items : List (Option A)) (i : ℕ) → length items ≤ i → slot_or_none (slice_get (meanings says items) i) ≡ None
past_index says [] i le = refl
past_index says (y ∷ ys) zero le = absurd (omega (arith, le))
past_index says (y ∷ ys) (suc i) le = past_index says ys i (omega (arith, le))

-- a slot past the end is not full
pub is_full_past : {A : Type 0} (says : A → Meaning) (items : List (Option A)) (k : ℕ) → (k ≡ 0 → ⊥) → length items ≤ k - 1 → false ≡ is_full k (meanings says items)
is_full_past says items k h le = rw (not_zero k h) (rw (past_index says items (k - 1) le) refl)

-- an emptied slot
pub meanings_without : {A : Type 0} (says : A → Meaning) (items : List (Option A)) (k : ℕ) (slot : Option A) → (k ≡ 0 → ⊥) → slot ≡ None → meanings says (set items (k - 1) slot) ≡ without_slot k (meanings says items)
meanings_without says items k slot h e = rw (not_zero k h, e) (map-set (option_map says) items (k - 1) None)
