-- Which records became core, and what is told of an insertion.
use Rattle.std.specs.Prelude.{◌≡◌, ◌⊎◌, ◌↔◌, ℕ, List, [], ◌∷◌, ◌++◌}
use Rattle.std.specs.FinMap as map
use Rattle.vec_record.specs.Held.{Rows}
use Rattle.vec_record.specs.declared.event.Event.{Event}
use Rattle.vec_record.specs.declared.event.Kind.TheVariants as kind
use Rattle.plain_dbscan.specs.Cases.{event, insertion_events}
use Rattle.plain_dbscan.specs.Marks.{Density, marks_of}
use Rattle.count_book.specs.Counted.{Counted, BecameCore}
use Rattle.label_book.specs.Labels.{Labels, IsMember, EachOnce}
use Rattle.update_seed.specs.declared.groups.InGroup.{InGroup}
use Rattle.update_seed.specs.Groups.{AreGathered}
use Rattle.insert_case.specs.Joining.{AreToldNow}

-- The list is exactly the numbers that became core, each once.
pub record AreNewCores (old new : Counted) (cores : List ℕ) : Type 0 where
  pub once : EachOnce cores
  pub became : (q : ℕ) → IsMember cores q ↔ BecameCore old new q

-- The groups are those of exactly the records that became core.
pub record AreNewGroups
    (old new : Counted) (labels : Labels) (groups : List InGroup) : Type 0 where
  pub cores : List ℕ
  pub are_new : AreNewCores old new cores
  pub gathered : AreGathered labels cores groups

-- Where no record became core, `Noise` is told of the new one, and nothing else.
abbrev pub IsNoiseTold : ℕ → List Event → List Event → Type 0
IsNoiseTold number before after = after ≡ before ++ event kind.Noise 0 number ∷ []

-- No record became core.
abbrev pub HasNoNewCore : Counted → Counted → Type 0
HasNoNewCore old new = (q : ℕ) → BecameCore old new q → ⊥

-- What happened to groups of the new cores is told.
pub record AreGroupsTold
    (old new : Counted) (labels : Labels) (before after : List Event) : Type 0 where
  pub groups : List InGroup
  pub new_groups : AreNewGroups old new labels groups
  pub told : AreToldNow groups before after

-- Where no record became core, `Noise` is told of the new one; else what happened to the groups.
abbrev pub IsTold : ℕ → Counted → Counted → Labels → List Event → List Event → Type 0
IsTold number old new labels before after =
    (HasNoNewCore old new × IsNoiseTold number before after)
    ⊎ ((HasNoNewCore old new → ⊥) × AreGroupsTold old new labels before after)

-- What is told is exactly the events of the change, by the marks before and after.
abbrev pub AreEventsTold : Density → Rows → Rows → List Event → List Event → Type 0
AreEventsTold d rows rows' before after =
    let told = insertion_events (marks_of d (map.entries rows)) (marks_of d (map.entries rows')) in
    after ≡ before ++ told
