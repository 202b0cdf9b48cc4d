-- One less is counted at one record after another.
use Rattle.std.specs.Prelude.{◌≡◌, ◌⊎◌, ◌↔◌, ℕ, List, [], ◌∷◌, ◌++◌}
use Rattle.std.specs.Option.{option_map}
use Rattle.std.specs.FinMap as map
use Rattle.count_book.specs.Counted.{Counted, CeasedToBeCore, updated}
use Rattle.label_book.specs.Labels.{IsMember, EachOnce}
use Rattle.delete_case.specs.Counting.{lowered}

-- the number comes behind the lost ones exactly where it ceased to be core
abbrev pub IsPushed : Type 0 → ℕ → List ℕ → List ℕ → Type 0
IsPushed P q lost lost' = (P × (lost' ≡ lost ++ q ∷ [])) ⊎ ((P → ⊥) × (lost' ≡ lost))

-- the book and the lost ones after one less was counted at one number
pub record IsLowered (q : ℕ) (old new : Counted) (lost lost' : List ℕ) : Type 0 where
  pub book : new ≡ updated lowered old q
  pub pushed : IsPushed (CeasedToBeCore old new q) q lost lost'

-- the book and the lost ones after one less was counted at each of these
pub record AreLowered (done : List ℕ) (old new : Counted) (lost : List ℕ) : Type 0 where
  pub minpts_kept : new.minpts ≡ old.minpts
  pub near :
      (q : ℕ) → IsMember done q → map.get new.rows q ≡ option_map lowered (map.get old.rows q)
  pub far : (q : ℕ) → (IsMember done q → ⊥) → map.get new.rows q ≡ map.get old.rows q
  pub lost_are : (q : ℕ) → IsMember lost q ↔ (IsMember done q × CeasedToBeCore old new q)
  pub lost_once : EachOnce lost
