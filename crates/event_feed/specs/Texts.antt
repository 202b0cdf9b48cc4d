-- The texts of a tally and of the most recent events, as functions of the events told.
use Rattle.std.specs.Prelude.{ℕ, ◌-◌, ◌==◌, Bool, List, ◌++◌, length, drop, min, count_by, codes}
use Rattle.std.specs.Fmt.{decimal}
use Rattle.std.specs.List.{flat_map}
use Rattle.vec_record.specs.declared.event.Kind.{Kind}
use Rattle.vec_record.specs.declared.event.Kind.TheVariants.{Noise, Created, Absorbed, Merged, Removed, Reduced, Split}
use Rattle.vec_record.specs.declared.event.Event.{Event}

-- the number that stands for a kind
abbrev pub kind_number : Kind → ℕ
kind_number Noise = 0
kind_number Created = 1
kind_number Absorbed = 2
kind_number Merged = 3
kind_number Removed = 4
kind_number Reduced = 5
kind_number Split = 6

-- the word of a kind
abbrev pub kind_word : Kind → List ℕ
kind_word Noise = codes "noise"
kind_word Created = codes "created"
kind_word Absorbed = codes "absorbed"
kind_word Merged = codes "merged"
kind_word Removed = codes "removed"
kind_word Reduced = codes "reduced"
kind_word Split = codes "split"

-- whether an event is of a kind
abbrev pub is_of_kind : Kind → Event → Bool
is_of_kind kind e = kind_number e.kind == kind_number kind

-- the greatest count, at which a count stays
abbrev pub count_limit : ℕ
count_limit = 18446744073709551615

-- how many of the events are of a kind, at most the greatest count
abbrev pub tallied : List Event → Kind → ℕ
tallied events kind = min (count_by (is_of_kind kind) events) count_limit

-- the counts by kind, as a tally has them: of clusters that grow, and of clusters that shrink
abbrev pub growth_counts : (Kind → ℕ) → List ℕ
growth_counts count =
    codes "tally noise " ++ (decimal (count Noise) ++ (codes " created " ++ (decimal (count Created)
    ++ (codes " absorbed " ++ (decimal (count Absorbed) ++ (codes " merged " ++ decimal (count Merged)))))))

abbrev pub decline_counts : (Kind → ℕ) → List ℕ
decline_counts count =
    codes " removed " ++ (decimal (count Removed) ++ (codes " reduced " ++ (decimal (count Reduced)
    ++ (codes " split " ++ (decimal (count Split) ++ codes "\n")))))

-- `tally noise a created b absorbed c merged d removed e reduced f split g`, one line, by the count of each kind
abbrev pub tally_line : (Kind → ℕ) → List ℕ
tally_line count = growth_counts count ++ decline_counts count

-- how many of the events were of each kind
abbrev pub tally_text : List Event → List ℕ
tally_text events = tally_line (tallied events)

-- the last so many events, in their order, or all where there are fewer
abbrev pub last_events : ℕ → List Event → List Event
last_events most events = drop (length events - most) events

-- the line of an event: `KIND FROM TO`
abbrev pub event_text : Event → List ℕ
event_text e = kind_word e.kind ++ (codes " " ++ (decimal e.«from» ++ (codes " " ++ (decimal e.to ++ codes "\n"))))

-- how many events there are, one line: `recent K`
abbrev pub head_text : ℕ → List ℕ
head_text count = codes "recent " ++ (decimal count ++ codes "\n")

-- how many events there are, and their lines
abbrev pub events_text : List Event → List ℕ
events_text events = head_text (length events) ++ flat_map event_text events

-- what is said of the last so many events: how many they are, and a line for each, the oldest first
abbrev pub recent_text : ℕ → List Event → List ℕ
recent_text most events = events_text (last_events most events)
