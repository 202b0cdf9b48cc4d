-- Pages that load are due exactly where the warehouse is clustered.
use Rattle.std.proofs.Common.{◌≡◌, ◌↔◌, ℕ, Bool, List, Ok}
use Rattle.vec_record.specs.Distance.{distance_of}
use Rattle.vec_record.specs.Limits.{width_of}
use Rattle.store_image.specs.Images.{Image}
use Rattle.store_image.specs.Loading.{load_of}
use Rattle.store_image.specs.Placing.{IsKept}
use Rattle.store_image.specs.Stores.{AreDueIn, DueLinesStand}
use Rattle.warehouse_core.specs.States.{IsClustered, StandBy}
use Rattle.warehouse_core.specs.Inside.{state_of}
use Rattle.warehouse_core.proofs.Moments.{inside, outside}

module _ (law : DueLinesStand) (i : Image) (pages : List (List ℕ)) (loads : load_of pages ≡ Ok i) where
  -- clusters that stand have their lines in the pages
  pub stand_due : StandBy (distance_of i.head.values.metric) i.head.values i.records i.kept → AreDueIn pages
  stand_due by = (law pages i loads).1 by.stand

  pub due_or_not : (stored failed : Bool) → i.records.width ≡ width_of i.head.values.metric i.head.values.dim → IsKept i.head.values i.records i.kept
      → AreDueIn pages ↔ IsClustered (state_of i pages stored failed)
  due_or_not stored failed width kept = (
    λ due. outside i pages stored failed _ (λ _. state_of i pages stored failed) width (record { eps = kept.eps; minpts = kept.minpts; stand = (law pages i loads).0 due }),
    λ is. stand_due (inside i pages stored failed _ (λ _. state_of i pages stored failed) width is),
  )
