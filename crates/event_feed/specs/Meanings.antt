-- What watchers mean, and slots of them.
use Rattle.std.specs.Prelude.{ℕ, ◌-◌, ◌==◌, if◌then◌else◌, Bool, List, [], ◌++◌, map, Option, Some, None, is_some, slice_get, slice_set}
use Rattle.std.specs.Option.{option_map}
use Rattle.vec_record.specs.declared.event.Event.{Event}

-- what a watcher says after further events
abbrev pub Meaning : Type 0
Meaning = List Event → List ℕ

-- the meaning behind events that were told: further events come after them
abbrev pub told : List Event → Meaning → Meaning
told events m = λ more. m (events ++ more)

-- Slots for watchers, numbered from 1. An empty slot has no meaning.
abbrev pub Slots : Type 0
Slots = List (Option Meaning)

-- the slots of watchers, and full slots of watchers in order
abbrev pub meanings : {A : Type 0} → (A → Meaning) → List (Option A) → Slots
meanings says slots = map (option_map says) slots

abbrev pub filled : {A : Type 0} → (A → Meaning) → List A → Slots
filled says watchers = map (λ w. Some (says w)) watchers

-- the slots behind events that were told to each watcher
abbrev pub told_all : List Event → Slots → Slots
told_all events slots = map (option_map (told events)) slots

abbrev pub slot_or_none : Option (Option Meaning) → Option Meaning
slot_or_none None = None
slot_or_none (Some slot) = slot

-- the slot of a number
abbrev pub slot_at : ℕ → Slots → Option Meaning
slot_at number slots = if number == 0 then None else slot_or_none (slice_get slots (number - 1))

abbrev pub is_full : ℕ → Slots → Bool
is_full number slots = is_some (slot_at number slots)

abbrev pub said_now : Option Meaning → List ℕ
said_now None = []
said_now (Some m) = m []

-- what the slot of a number says; an empty one says nothing
abbrev pub text_at : ℕ → Slots → List ℕ
text_at number slots = said_now (slot_at number slots)

-- the slots with that of a number empty
abbrev pub without_slot : ℕ → Slots → Slots
without_slot number slots = if number == 0 then slots else slice_set slots (number - 1) None
