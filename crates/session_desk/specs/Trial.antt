-- The word `trial`: changes that a generator makes, applied to no records.
use Rattle.std.specs.Prelude.{ℕ, zero, suc, ◌+◌, ◌*◌, ◌/◌, ◌%◌, if◌then◌else◌, List, [], ◌∷◌, ◌++◌}
use Rattle.std.specs.FinMap as map
use Rattle.vec_record.specs.Held.{Held, Rows}
use Rattle.vec_record.specs.declared.change.Change.{Change}
use Rattle.vec_record.specs.declared.change.Change.TheVariants.{Insert, Delete}
use Rattle.vec_record.specs.declared.kind.MetricKind.TheVariants.{L1}
use Rattle.plain_dbscan.specs.Texts.{summary_text}
use Rattle.page_layout.specs.Heads.{Values}
use Rattle.batch_text.specs.After.{changed}
use Rattle.event_feed.specs.Texts.{tally_text}
use Rattle.warehouse_core.specs.Batches.{density_by, marks_on, rows_after, events_of}
use Rattle.warehouse_core.specs.Work.{work_of_all}

-- the parameters of every trial
abbrev pub trial_values : Values
trial_values = record { metric = L1; dim = 2; eps = 3; minpts = 4; cap = 200000 }

-- A draw: the next number of the generator, below 2 ^ 32.
abbrev pub draw : ℕ → ℕ
draw x = (1664525 * x + 1013904223) % 4294967296

-- the number from 1 to the count that a draw names
abbrev pub drawn_number : ℕ → ℕ → ℕ
drawn_number count x = 1 + (x / 256) % count

-- the coordinate that a draw gives
abbrev pub coordinate : ℕ → ℕ
coordinate x = x / 16777216

-- the vector that the two draws behind a draw give
abbrev pub drawn_vector : ℕ → List ℕ
drawn_vector x = coordinate (draw x) ∷ coordinate (draw (draw x)) ∷ []

-- the change that a draw makes: its number is deleted where it is present, and else inserted
abbrev pub drawn_change : ℕ → ℕ → Rows → Change
drawn_change count x rows =
    if map.contains_key rows (drawn_number count x) then Delete (drawn_number count x) else Insert (drawn_number count x) (drawn_vector x)

-- the last draw for that change
abbrev pub last_draw : ℕ → ℕ → Rows → ℕ
last_draw count x rows = if map.contains_key rows (drawn_number count x) then x else draw (draw x)

-- so many changes over records, behind a draw
abbrev pub drawn_changes : ℕ → ℕ → ℕ → Rows → List Change
drawn_changes count zero x rows = []
drawn_changes count (suc left) x rows =
    drawn_change count (draw x) rows ∷ drawn_changes count left (last_draw count (draw x) rows) (changed rows (drawn_change count (draw x) rows))

-- the changes of a trial, over no records
abbrev pub trial_changes : ℕ → ℕ → List Change
trial_changes seed count = drawn_changes count count seed map.empty

-- the tally of the events of all changes in order, and the summary of the records behind them
abbrev pub trial_text : ℕ → ℕ → List ℕ
trial_text seed count =
    tally_text (events_of trial_values map.empty (trial_changes seed count))
    ++ summary_text (marks_on trial_values (rows_after trial_values map.empty (trial_changes seed count)))

-- records of a trial, with the width of their vectors
abbrev pub held_on : Rows → Held
held_on rows = record { width = 2; vectors = rows }

-- the most distances that a trial counts: the work of its changes in order
abbrev pub trial_work : ℕ → ℕ → ℕ
trial_work seed count = work_of_all (density_by trial_values) (held_on map.empty) (trial_changes seed count)
