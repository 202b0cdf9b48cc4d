-- What is found near lost cores so far.
use Rattle.std.specs.Prelude.{◌≡◌, ◌↔◌, ◌⊎◌, ℕ, Bool, false, not, ◌&&◌, nat_eq, List, ◌∷◌, [], ◌++◌, filter, Option, None, Some, IsSome, IsTrue}
use Rattle.std.specs.FinMap as map
use Rattle.count_book.specs.Counted.{Counted, IsCore, anchor_in}
use Rattle.label_book.specs.Labels.{Labels, IsMember, EachOnce}
use Rattle.update_seed.specs.declared.labelled.Labelled.{Labelled}
use Rattle.update_seed.specs.declared.found.Found.{Found}
use Rattle.update_seed.specs.Books.{core_in}
use Rattle.update_seed.specs.Outgoing.{IsLost, IsNearLost, AreLoose}
use Rattle.update_seed.specs.inside.Ties.{Same}
use Rattle.update_seed.specs.inside.Split.{numbers_of, AreLabelled}

-- the numbers of the seeds
abbrev pub seeds_of : Found → List ℕ
seeds_of f = numbers_of f.seeds.items

-- the seeds stand beside their labels, each once, and those that were seen are the seeds
pub record IsKept (labels : Labels) (f : Found) : Type 0 where
  pub labelled : AreLabelled labels f.seeds.items
  pub once : EachOnce (seeds_of f)
  pub seen : (q : ℕ) → IsSome (map.get f.seen q) ↔ IsMember (seeds_of f) q

-- a seed was put in, unless it was there
abbrev pub IsAdded : Labelled → Found → Found → Type 0
IsAdded seed old new =
    (IsSome (map.get old.seen seed.number) × (new ≡ old))
    ⊎ ((map.get old.seen seed.number ≡ None)
    × ((new.seeds.items ≡ old.seeds.items ++ seed ∷ [])
    × ((new.seen ≡ map.insert old.seen seed.number tt) × (new.loose ≡ old.loose))))

-- whether an anchor is this core
abbrev pub is_at : ℕ → Option ℕ → Bool
is_at core None = false
is_at core (Some anchor) = nat_eq anchor core

-- whether a record isn't core and has this core as anchor
abbrev pub hangs_on : Counted → ℕ → ℕ → Bool
hangs_on counts core q = not (core_in counts q) && is_at core (anchor_in (map.get counts.rows q))

-- the number is core and has the label of a lost core
abbrev pub IsKin : Counted → Labels → ℕ → ℕ → Type 0
IsKin counts labels core q = IsCore counts q × Same labels core q

-- what is found after all these near a core were looked at
pub record IsLooked
    (counts : Counted) (labels : Labels) (core : ℕ) (near : List ℕ) (old new : Found) : Type 0 where
  pub kept : IsKept labels new
  pub seeds :
      (q : ℕ) → IsMember (seeds_of new) q
      ↔ (IsMember (seeds_of old) q ⊎ (IsMember near q × IsKin counts labels core q))
  pub loose : new.loose ≡ old.loose ++ filter (hangs_on counts core) near

-- no number is near this one
abbrev pub HasNoneNear : (ℕ → ℕ → Bool) → ℕ → Type 0
HasNoneNear near a = (q : ℕ) → IsTrue (near a q) → ⊥

-- what is found once all these lost cores were looked around, and the record that is gone
pub record AreFound
    (near : ℕ → ℕ → Bool) (counts : Counted) (labels : Labels) (gone : ℕ)
    (around lost : List ℕ) (f : Found) : Type 0 where
  pub kept : IsKept labels f
  pub seeds :
      (q : ℕ) → IsMember (seeds_of f) q
      ↔ (IsCore counts q
      × ((b : ℕ) × (IsLost labels gone lost b
      × (IsNearLost near gone around b q × Same labels b q))))
  pub loose : AreLoose near counts labels gone around lost f.loose
