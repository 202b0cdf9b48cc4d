-- For the inside of a warehouse alone: what its fields are seen as, and what holds of them until it has failed.
use Rattle.std.specs.Prelude.{◌≡◌, ◌⊎◌, ◌<◌, ◌≤◌, ℕ, Bool, true, List, None, IsSome, Result, Ok, Err, OnOk}
use Rattle.std.specs.List.{AllByRecursion}
use Rattle.std.specs.FinMap as map
use Rattle.vec_record.specs.Limits.{width_of}
use Rattle.vec_record.specs.declared.kind.MetricKind.{MetricKind}
use Rattle.vec_record.specs.declared.change.Change.{Change}
use Rattle.vec_record.specs.declared.change.Change.TheVariants.{Insert, Delete}
use Rattle.page_layout.specs.Heads.{Values}
use Rattle.store_image.specs.declared.loaded.Places.{Places}
use Rattle.store_image.specs.Images.{Image}
use Rattle.store_image.specs.Loading.{load_of}
use Rattle.store_image.specs.Placing.{CanStand, IsPaged, IsKept}
use Rattle.vec_record.specs.Held as held
use Rattle.site_disk.specs.State.{SiteState, Safe}
use Rattle.page_gate.specs.Gate.{opening, Opens}
use Rattle.page_gate.specs.Promises.{Holds}
use Rattle.store_image.specs.Stores.{IsStore}
use Rattle.warehouse_core.specs.declared.refusal.Refusal.{Refusal}
use Rattle.warehouse_core.specs.declared.refusal.Refusal.TheVariants.{Memory}
use Rattle.warehouse_core.specs.States.{State, StandBy}

-- a warehouse with this store in memory and these pages
abbrev pub state_of : Image → List (List ℕ) → Bool → Bool → State
state_of i pages stored failed = record {
  values = i.head.values;
  pages = pages;
  rows = i.records.vectors;
  batches = i.head.batches;
  stored = stored;
  failed = failed;
  kept = i.kept;
}

-- records whose numbers and vectors a store with these parameters can hold
pub record AreHeld (v : Values) (records : held.Held) : Type 0 where
  pub width : records.width ≡ width_of v.metric v.dim
  pub each : AllByRecursion (CanStand v) (map.entries records.vectors)

-- and no more of them than it may have
pub record CanHold (v : Values) (records : held.Held) : Type 0 where
  pub held : AreHeld v records
  pub few : map.len records.vectors ≤ v.cap

-- a change that can apply: an absent number and room for one more, or a number that is there
abbrev pub CanFollow : ℕ → held.Rows → Change → Type 0
CanFollow cap rows (Insert n v) = (map.get rows n ≡ None) × (map.len rows < cap)
CanFollow cap rows (Delete n) = IsSome (map.get rows n)

-- the metric is that of the parameters, the clusters fit the records, and where there is a store it has the pages, which
-- load as it where the clusters stand for the records
pub record Stands
    (dist : List ℕ → List ℕ → ℕ) (kind : MetricKind) (stored : Bool) (i : Image) (places : Places)
    (pages : List (List ℕ)) : Type 0 where
  pub paged : stored ≡ true → IsPaged i.head places pages
  pub loads : stored ≡ true → StandBy dist i.head.values i.records i.kept → load_of pages ≡ Ok i
  pub kind_is : i.head.values.metric ≡ kind
  pub holds : CanHold i.head.values i.records
  pub kept : IsKept i.head.values i.records i.kept

-- Nothing is said, and each image, at each moment, has the old pages or is a store with what is saved; want of memory
-- comes before the first write, and after Ok the only image has the new pages.
pub record Saves (old : List (List ℕ)) (values : Values) (rows : held.Rows) (batches : ℕ) (new : List (List ℕ)) (result : Result Unit Refusal) (a b : SiteState) : Type 0 where
  pub safe : Safe a b (λ s c. (s ≡ a.said) × ((opening c ≡ Opens old) ⊎ IsStore values rows batches c))
  pub said : b.said ≡ a.said
  pub holds : OnOk result (Holds new b)
  pub unsaved : result ≡ Err Memory → Safe a b (λ s c. (s ≡ a.said) × (opening c ≡ Opens old))
