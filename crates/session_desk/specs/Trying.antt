-- A trial, change by change. The code alone speaks of this.
use Rattle.std.specs.Prelude.{◌≡◌, false, List}
use Rattle.vec_record.specs.declared.event.Event.{Event}
use Rattle.event_feed.specs.Meanings.{Slots, told_all, text_at}
use Rattle.event_feed.specs.Texts.{tally_text}
use Rattle.warehouse_core.specs.States.{State, IsClustered}
use Rattle.session_desk.specs.Trial.{trial_values}

-- a warehouse of a trial: it has no store, hasn't failed, and its clusters stand for its records
pub record IsUnsaved (w : State) : Type 0 where
  pub values : w.values ≡ trial_values
  pub stored : w.stored ≡ false
  pub whole : w.failed ≡ false
  pub clustered : IsClustered w

-- slots of which the first, told events, says their tally
abbrev pub TallyFirst : Slots → Type 0
TallyFirst slots = (events : List Event) → text_at 1 (told_all events slots) ≡ tally_text events
