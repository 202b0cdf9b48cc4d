-- The opening of a store. The code alone speaks of this.
use Rattle.std.specs.Prelude.{◌≡◌, ◌≢◌, ◌↔◌, ℕ, Bool, true, false, List, [], Some, None, Result, OnOk, MatchResult}
use Rattle.site_disk.specs.State.{SiteState, Safe}
use Rattle.page_gate.specs.Gate.{opening}
use Rattle.page_gate.specs.Promises.{Holds, IsAsWas}
use Rattle.page_gate.specs.declared.fault.OpenFault.{OpenFault}
use Rattle.page_gate.specs.declared.fault.OpenFault.TheVariants.{Blank, Foreign, Damaged, SiteFault, Memory}
use Rattle.store_image.specs.declared.fault.StoreFault as store
use Rattle.store_image.specs.declared.fault.StoreFault.TheVariants as store_fault
use Rattle.store_image.specs.Stores.{IsStore, AreDueIn, AreDueOn, refusal_on}
use Rattle.warehouse_core.specs.States.{State, IsClustered, LoadsAs}
use Rattle.session_desk.specs.declared.serve.AnyWarehouse.{AnyWarehouse}
use Rattle.session_desk.specs.declared.serve.AnyWarehouse.TheVariants as any
use Rattle.session_desk.specs.Courses.{Course, course_by}

-- the warehouse, whatever its metric
abbrev pub state_of : AnyWarehouse → State
state_of (any.L1 w) = w
state_of (any.Max w) = w
state_of (any.Hamming w) = w

-- whether a fault says nothing of the content
abbrev pub is_outside : OpenFault → Bool
is_outside Blank = false
is_outside Foreign = false
is_outside (Damaged page offset) = false
is_outside SiteFault = true
is_outside Memory = true

-- a fault of the load, as that of an opening
abbrev pub fault_of : store.StoreFault → OpenFault
fault_of store_fault.Foreign = Foreign
fault_of (store_fault.Damaged page offset) = Damaged page offset
fault_of store_fault.Memory = Memory

-- the session over a content that a fault refuses
abbrev pub refusal_course : OpenFault → Course
refusal_course fault = course_by (Some fault) [] [] []

-- each image opens as the content of the start does, unless the site failed
abbrev pub AreOpened : OpenFault → SiteState → SiteState → Type 0
AreOpened fault a b = fault ≢ SiteFault → (c : List ℕ) → b.may_leave c → opening c ≡ opening a.content

-- a warehouse that was loaded from pages, whose clusters stand exactly where the lines of the pages
-- are those that are due
pub record IsLoaded (pages : List (List ℕ)) (w : State) : Type 0 where
  pub loads : LoadsAs pages w.values w.rows w.batches
  pub pages_are : w.pages ≡ pages
  pub stored : w.stored ≡ true
  pub whole : w.failed ≡ false
  pub clustered : AreDueIn pages ↔ IsClustered w

-- the warehouse is the store of a content, and its clusters stand
pub record IsStoreAsIs (w : State) (c : List ℕ) : Type 0 where
  pub store : IsStore w.values w.rows w.batches c
  pub clustered : IsClustered w

-- the store as a warehouse, where its lines are those that are due, or why it doesn't open
pub record Loads (result : Result AnyWarehouse OpenFault) (a b : SiteState) : Type 0 where
  pub safe : Safe a b (IsAsWas a)
  pub said : b.said ≡ a.said
  pub opens : OnOk result (refusal_on a.content ≡ None)
  pub store : MatchResult result (λ w. AreDueOn a.content → IsStoreAsIs (state_of w) a.content) (λ fault. is_outside fault ≡ false → refusal_on a.content ≡ Some fault)
  pub holds : MatchResult result (λ w. Holds (state_of w).pages b) (λ fault. AreOpened fault a b)
