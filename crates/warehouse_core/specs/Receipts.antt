-- The receipt of an accepted batch.
use Rattle.std.specs.Prelude.{ℕ, ◌==◌, Bool, true, false, List, ◌++◌, count_by, codes}
use Rattle.std.specs.Fmt.{decimal}
use Rattle.vec_record.specs.declared.change.Change.{Change}
use Rattle.vec_record.specs.declared.change.Change.TheVariants.{Insert, Delete}
use Rattle.vec_record.specs.declared.event.Kind.{Kind}
use Rattle.vec_record.specs.declared.event.Kind.TheVariants.{Noise, Created, Absorbed, Merged, Removed, Reduced, Split}
use Rattle.vec_record.specs.declared.event.Event.{Event}

abbrev pub is_insertion : Change → Bool
is_insertion (Insert n v) = true
is_insertion (Delete n) = false

abbrev pub is_deletion : Change → Bool
is_deletion (Insert n v) = false
is_deletion (Delete n) = true

-- the number that stands for a kind
abbrev pub kind_number : Kind → ℕ
kind_number Noise = 0
kind_number Created = 1
kind_number Absorbed = 2
kind_number Merged = 3
kind_number Removed = 4
kind_number Reduced = 5
kind_number Split = 6

-- how many of the events are of a kind
abbrev pub events_like : Kind → List Event → ℕ
events_like kind events = count_by (λ (e : Event). kind_number e.kind == kind_number kind) events

-- the events by kind, as a receipt has them: of clusters that grow, and of clusters that shrink
abbrev pub growth_text : List Event → List ℕ
growth_text events =
    codes " noise " ++ (decimal (events_like Noise events) ++ (codes " created " ++ (decimal (events_like Created events)
    ++ (codes " absorbed " ++ (decimal (events_like Absorbed events) ++ (codes " merged " ++ decimal (events_like Merged events)))))))

abbrev pub decline_text : List Event → List ℕ
decline_text events =
    codes " removed " ++ (decimal (events_like Removed events) ++ (codes " reduced " ++ (decimal (events_like Reduced events)
    ++ (codes " split " ++ decimal (events_like Split events)))))

-- the number of a batch, and how many insertions and deletions it has
abbrev pub batch_text : ℕ → ℕ → ℕ → List ℕ
batch_text batch insertions deletions =
    codes "ok " ++ (decimal batch ++ (codes " +" ++ (decimal insertions ++ (codes " -" ++ decimal deletions))))

-- the receipt of changes with their events, one line
abbrev pub receipt_text : ℕ → List Change → List Event → List ℕ
receipt_text batch changes events =
    batch_text batch (count_by is_insertion changes) (count_by is_deletion changes) ++ (growth_text events ++ (decline_text events ++ codes "\n"))
