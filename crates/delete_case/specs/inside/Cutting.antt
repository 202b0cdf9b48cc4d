-- One former cluster is cut.
use Rattle.std.specs.Prelude.{◌≡◌, ◌↔◌, ℕ, Bool, List, [], ◌∷◌, ◌++◌, Some}
use Rattle.std.specs.FinMap as map
use Rattle.vec_record.specs.declared.event.Event.{Event}
use Rattle.plain_dbscan.specs.Cases.{decline}
use Rattle.label_book.specs.Labels.{Labels, IsMember}
use Rattle.label_book.specs.Parting.{IsParting}
use Rattle.update_seed.specs.declared.former.Former.{Former}
use Rattle.delete_case.specs.Parting.{Remains, IsSeeded, AreClasses, IsCut, AreRisen, AreAsked}

-- the list has exactly what is left of the cluster
abbrev pub AreRemaining : (ℕ → Bool) → Labels → ℕ → List ℕ → Type 0
AreRemaining core labels l members = (a : ℕ) → IsMember members a ↔ Remains core labels l a

-- the groups may be cut out, and are classes where the cluster was seeded
pub record IsCutBy
    (core : ℕ → Bool) (near : ℕ → ℕ → Bool) (labels : Labels) (f : Former)
    (groups : List (List ℕ)) : Type 0 where
  pub parting : IsParting labels f.label f.lost groups
  pub split : IsSeeded core near labels f → AreClasses core near labels f.label groups

-- the cluster was cut, and no other label changed
pub record IsOneCut
    (core : ℕ → Bool) (near : ℕ → ℕ → Bool) (old : Labels) (f : Former) (new : Labels) : Type 0
  where
    pub cut : IsCut core near old f new
    pub others :
        (q : ℕ) → (map.get old q ≡ Some f.label → ⊥) → map.get new q ≡ map.get old q

-- its events were appended
pub record IsOneTold
    (old : Labels) (f : Former) (new : Labels) (out out' : List Event) : Type 0 where
  pub labels : List ℕ
  pub risen : AreRisen old f.label new labels
  pub told : out' ≡ out ++ decline f.label labels

-- the queries were paid for, where the cluster was seeded
abbrev pub IsOnePaid :
    (ℕ → Bool) → (ℕ → ℕ → Bool) → (ℕ → ℕ) → Labels → Former → ℕ → ℕ → Type 0
IsOnePaid core near cost labels f steps steps' =
    IsSeeded core near labels f → AreAsked core near cost labels (f ∷ []) steps steps'
