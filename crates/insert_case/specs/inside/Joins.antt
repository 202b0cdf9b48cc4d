-- How one group is joined, and events that differ.
use Rattle.std.specs.Prelude.{◌≡◌, ℕ, ◌<◌, Bool, ◌&&◌, nat_eq, List, ◌++◌, length}
use Rattle.std.specs.List.{IsDistinct}
use Rattle.vec_record.specs.declared.event.Event.{Event}
use Rattle.plain_dbscan.specs.Cases.{growth}
use Rattle.label_book.specs.Labels.{Labels, EachOnce, AreFree, AreLabels, IsJoined}
use Rattle.update_seed.specs.declared.groups.InGroup.{InGroup}
use Rattle.insert_case.specs.Joining.{IsLabelOf}

-- The group has a new core, its new cores have no label, and its old labels are labels.
pub record IsJoinable (labels : Labels) (g : InGroup) : Type 0 where
  pub some : 0 < length g.new_cores
  pub once : EachOnce g.new_cores
  pub free : AreFree labels g.new_cores
  pub are_labels : AreLabels labels g.old_labels

-- The labels after one group became a cluster with this label.
pub record IsUnited (old : Labels) (g : InGroup) (label : ℕ) (new : Labels) : Type 0 where
  pub is_label : IsLabelOf g label
  pub joined : IsJoined old g.old_labels g.new_cores label new

-- Labels and events after one group became a cluster, and was told of.
pub record IsOneJoined
    (old : Labels) (g : InGroup) (new : Labels) (before after : List Event) : Type 0 where
  pub label : ℕ
  pub united : IsUnited old g label new
  pub told : after ≡ before ++ growth label g.old_labels

-- Whether two events have one place in the order.
abbrev pub is_tied : Event → Event → Bool
is_tied e f = nat_eq e.to f.to && nat_eq e.from f.from

-- No two events have one place in the order.
abbrev pub AreUntied : List Event → Type 0
AreUntied events = IsDistinct is_tied events
