-- What becomes of the books once a record is gone.
use Rattle.std.specs.Prelude.{◌≡◌, ◌⊎◌, ℕ, ◌+◌, ◌≤◌, Bool, List, [], sum_by, None, IsSome}
use Rattle.std.specs.FinMap as map
use Rattle.vec_record.specs.Held.{Held}
use Rattle.vec_record.specs.declared.event.Event.{Event}
use Rattle.count_book.specs.Counted.{Counted}
use Rattle.label_book.specs.Labels.{Labels, IsMember, EachOnce}
use Rattle.update_seed.specs.declared.former.Former.{Former}
use Rattle.update_seed.specs.Books.{core_in}
use Rattle.update_seed.specs.Price.{QueryCost}
use Rattle.update_seed.specs.Outgoing.{AreOut, AreFormer, AreLoose, AreHung}
use Rattle.delete_case.specs.Counting.{AreCountedOut}
use Rattle.delete_case.specs.Parting.{CoresAreThere, ArePartable, AreAllParted, AreAllTold}
use Rattle.delete_case.specs.Parting.{AreAllPaid}

-- what it costs to take the vector out of the index, and to ask what is near it
abbrev pub IsTaken : QueryCost → QueryCost → List ℕ → ℕ → ℕ → ℕ → Type 0
IsTaken cost cost' v eps steps steps' = steps' ≤ steps + (16384 + cost v 0) + cost' v eps

-- what is near the deleted record, each once: other records that are in the book of counts
pub record IsAround (p : ℕ) (around : List ℕ) (counts : Counted) : Type 0 where
  pub once : EachOnce around
  pub there : (q : ℕ) → IsMember around q → IsSome (map.get counts.rows q)
  pub other : IsMember around p → ⊥

-- the counted are all records, and the cores are among them
pub record AreThere (records : Held) (counts : Counted) : Type 0 where
  pub numbers : (a : ℕ) → IsSome (map.get counts.rows a) → IsSome (map.get records.vectors a)
  pub cores : CoresAreThere records counts

-- former clusters of these lost cores can part
abbrev pub ArePartableBy :
    (ℕ → ℕ → Bool) → ℕ → List ℕ → List ℕ → Counted → Labels → Type 0
ArePartableBy near p around lost counts labels =
    (list : List Former) → AreFormer near counts labels p around lost list
    → ArePartable counts labels list

-- once the record was counted out, the next steps may be taken
abbrev pub IsNext : Held → ℕ → List ℕ → Counted → Labels → Type 0
IsNext records p around counts labels =
    (counted : Counted) (lost : List ℕ) → AreCountedOut p around counts counted lost
    → AreOut records counted labels p around lost × AreThere records counted
    × ((near : ℕ → ℕ → Bool) → ArePartableBy near p around lost counted labels)

-- the clusters of the lost cores parted, and what hung on them was hung anew
pub record IsShaken
    (near : ℕ → ℕ → Bool) (all : ℕ → List ℕ) (p : ℕ) (around lost : List ℕ)
    (counted new : Counted) (labels labels' : Labels) (out out' : List Event) : Type 0 where
  pub list : List Former
  pub loose : List ℕ
  pub hung : Counted
  pub former : AreFormer near counted labels p around lost list
  pub loose_are : AreLoose near counted labels p around lost loose
  pub first : AreHung all lost counted hung
  pub parted : AreAllParted (core_in counted) near labels list labels'
  pub told : AreAllTold labels list labels' out out'
  pub second : AreHung all loose hung new

-- no core was lost, and nothing more was done
pub record IsQuiet
    (p : ℕ) (lost : List ℕ) (counted new : Counted) (labels labels' : Labels)
    (out out' : List Event) : Type 0 where
  pub none : lost ≡ []
  pub no_label : map.get labels p ≡ None
  pub counts : new ≡ counted
  pub labels_kept : labels' ≡ labels
  pub untold : out' ≡ out

-- the record was counted out, and either way it is done
pub record IsCleared
    (near : ℕ → ℕ → Bool) (all : ℕ → List ℕ) (p : ℕ) (around : List ℕ)
    (counts new : Counted) (labels labels' : Labels) (out out' : List Event) : Type 0 where
  pub counted : Counted
  pub lost : List ℕ
  pub out_are : AreCountedOut p around counts counted lost
  pub rest :
      IsQuiet p lost counted new labels labels' out out'
      ⊎ IsShaken near all p around lost counted new labels labels' out out'

-- what the parting and the hanging cost, after a query at each lost core
pub record IsSpent
    (near : ℕ → ℕ → Bool) (cost : ℕ → ℕ) (p : ℕ) (around lost : List ℕ) (counted : Counted)
    (labels : Labels) (steps steps' : ℕ) : Type 0 where
  pub list : List Former
  pub loose : List ℕ
  pub mid : ℕ
  pub former : AreFormer near counted labels p around lost list
  pub loose_are : AreLoose near counted labels p around lost loose
  pub paid : AreAllPaid (core_in counted) near cost labels list (steps + sum_by cost lost) mid
  pub last : steps' ≤ mid + sum_by cost loose

-- what it cost since the record was counted out
abbrev pub IsSpentAfter :
    (ℕ → ℕ → Bool) → (ℕ → ℕ) → ℕ → List ℕ → List ℕ → Counted → Labels → ℕ → ℕ → Type 0
IsSpentAfter near cost p around lost counted labels steps steps' =
    (steps' ≤ steps + sum_by cost lost)
    ⊎ IsSpent near cost p around lost counted labels steps steps'

-- what all of it cost
pub record IsCostOf
    (near : ℕ → ℕ → Bool) (cost : ℕ → ℕ) (p : ℕ) (around : List ℕ)
    (counts : Counted) (labels : Labels) (steps steps' : ℕ) : Type 0 where
  pub counted : Counted
  pub lost : List ℕ
  pub out_are : AreCountedOut p around counts counted lost
  pub spent : IsSpentAfter near cost p around lost counted labels steps steps'

-- or nothing yet, where the memory for the lost ones was refused
abbrev pub IsPaidAway :
    (ℕ → ℕ → Bool) → (ℕ → ℕ) → ℕ → List ℕ → Counted → Labels → ℕ → ℕ → Type 0
IsPaidAway near cost p around counts labels steps steps' =
    (steps' ≤ steps) ⊎ IsCostOf near cost p around counts labels steps steps'
