-- Records that are taken over one by one.
use Rattle.std.specs.Prelude.{◌≡◌, ◌⊎◌, ℕ, ◌≤◌, List, None, Some, IsSome}
use Rattle.std.specs.FinMap as map
use Rattle.vec_record.specs.Held.{Held, Rows}
use Rattle.label_book.specs.Labels.{IsMember}
use Rattle.insert_case.specs.Inserted.{with_record}

-- The record of a number was added with the vector that it had elsewhere, if it was there.
abbrev pub IsTakenOver : ℕ → Held → Held → Held → Type 0
IsTakenOver number from old new =
    ((map.get from.vectors number ≡ None) × (new ≡ old))
    ⊎ ((v : List ℕ) × ((map.get from.vectors number ≡ Some v) × (new ≡ with_record old number v)))

-- A record has moved, or is where it was.
abbrev pub HasMoved : Rows → Rows → Rows → ℕ → Type 0
HasMoved all left moved q =
    ((map.get moved q ≡ map.get all q) × (map.get left q ≡ None))
    ⊎ ((map.get moved q ≡ None) × (map.get left q ≡ map.get all q))

-- All records have moved or are where they were, and those that are there still have one of the
-- numbers that are left.
pub record AreMoving (all left moved : Held) (done : ℕ) (numbers : List ℕ) : Type 0 where
  pub left_width : left.width ≡ all.width
  pub moved_width : moved.width ≡ all.width
  pub few : map.len moved.vectors ≤ done
  pub each : (q : ℕ) → HasMoved all.vectors left.vectors moved.vectors q
  pub pending : (q : ℕ) → IsSome (map.get left.vectors q) → IsMember numbers q
