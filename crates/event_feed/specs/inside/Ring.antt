-- A ring of places for events.
use Rattle.std.specs.Prelude.{◌≡◌, ℕ, ◌<◌, ◌≤◌, List, ◌++◌, length, take, drop}
use Rattle.vec_record.specs.declared.event.Event.{Event}

-- the events that a ring holds, the oldest first
abbrev pub held : List Event → ℕ → ℕ → List Event
held ring count next = drop next (take count ring) ++ take next ring

-- a ring of so many places, of which the first `count` hold events, with the place of the next event
pub record IsRing (places : ℕ) (ring : List Event) (count next : ℕ) : Type 0 where
  pub room : length ring ≡ places
  pub within : count ≤ places
  pub inside : next < places
  pub below : next ≤ count
  pub rising : count < places → next ≡ count
