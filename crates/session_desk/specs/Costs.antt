-- How many distances a session may take: eight for each record that its store opens with, the work
-- of each batch that it accepts, and two for each record there at a line `near`.
use Rattle.std.specs.Prelude.{ℕ, ◌+◌, ◌*◌, List, [], ◌∷◌, Option, Some, None}
use Rattle.std.specs.FinMap as finite
use Rattle.vec_record.specs.Held.{Held, Rows}
use Rattle.vec_record.specs.Limits.{width_of}
use Rattle.vec_record.specs.declared.change.Change.{Change}
use Rattle.page_layout.specs.Heads.{Values}
use Rattle.event_feed.specs.Meanings.{Slots}
use Rattle.store_image.specs.Stores.{records_on}
use Rattle.warehouse_core.specs.Batches.{density_by}
use Rattle.warehouse_core.specs.Work.{work_of_all}
use Rattle.session_desk.specs.declared.requests.Line.{Line}
use Rattle.session_desk.specs.declared.requests.Line.TheVariants.{Report, Summary, Label, Cluster, Near, Watch, Drop, Unknown, Long}
use Rattle.session_desk.specs.Session.{Request, Batch, Cut, Ask, SessionState, answer, step, requests_of}
use Rattle.session_desk.specs.Courses.{values_on, state_on}

-- Records under parameters, with the width of their vectors.
abbrev pub held_by : Values → Rows → Held
held_by v rows = record { width = width_of v.metric v.dim; vectors = rows }

-- The work of the changes of a batch that is accepted. One that is refused has none.
abbrev pub accepted_work : Values → Rows → Option (List Change) → ℕ
accepted_work v rows None = 0
accepted_work v rows (Some changes) = work_of_all (density_by v) (held_by v rows) changes

-- Two for each record there for `near`, and none for another line.
abbrev pub line_work : Rows → Line → ℕ
line_work rows (Near n) = 2 * finite.len rows
line_work rows Report = 0
line_work rows Summary = 0
line_work rows (Label n) = 0
line_work rows (Cluster n) = 0
line_work rows (Watch k) = 0
line_work rows (Drop k) = 0
line_work rows Unknown = 0
line_work rows Long = 0

-- The most for a request in a state.
abbrev pub request_work : Values → SessionState → Request → ℕ
request_work v s (Batch body) = accepted_work v s.rows (answer v s (Batch body)).accepted
request_work v s Cut = 0
request_work v s (Ask line) = line_work s.rows line

-- The most for requests in order, each in the state behind those before it.
abbrev pub requests_work : Values → SessionState → List Request → ℕ
requests_work v s [] = 0
requests_work v s (q ∷ more) = request_work v s q + requests_work v (step v s q).1 more

-- The most for a session with these watchers over a content.
abbrev pub session_work : List ℕ → Slots → List ℕ → ℕ
session_work c watchers input =
    8 * finite.len (records_on c)
    + requests_work (values_on c) (state_on c watchers) (requests_of input)
