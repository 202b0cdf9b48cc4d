-- What a run of `serve` comes to: its answers, what is said behind them, and the status, as a function of the content and
-- the whole input.
use Rattle.std.specs.Prelude.{◌≡◌, ℕ, false, if◌then◌else◌, List, [], ◌++◌, unwrap_or, Option, Some, None, codes}
use Rattle.std.specs.Fmt.{decimal}
use Rattle.std.specs.List.{list_any}
use Rattle.vec_record.specs.declared.change.Change.{Change}
use Rattle.vec_record.specs.declared.kind.MetricKind.TheVariants.{L1}
use Rattle.page_gate.specs.declared.fault.OpenFault as gate
use Rattle.page_gate.specs.declared.fault.OpenFault.TheVariants as gate_fault
use Rattle.page_layout.specs.Heads.{Values}
use Rattle.event_feed.specs.Meanings.{Slots}
use Rattle.store_image.specs.Stores.{refusal_on, records_on, batches_on, params_on}
use Rattle.session_desk.specs.declared.status.Status as status
use Rattle.session_desk.specs.declared.status.Status.TheVariants.{Fine, Refused, Blank, Broken, TooLong, Memory}
use Rattle.session_desk.specs.Statuses.{is_fault}
use Rattle.session_desk.specs.Session.{Answer, Request, SessionState, is_over, requests_of, answers, text_of, accepted_by}

pub record Course : Type 0 where
  pub answers : List Answer
  pub ending : List ℕ
  pub status : status.Status

-- the whole text of a session
abbrev pub course_text : Course → List ℕ
course_text s = text_of s.answers ++ s.ending

-- the parameters of an open store; a content that doesn't open has none, and no session asks for them
abbrev pub values_on : List ℕ → Values
values_on c = unwrap_or (params_on c) (record { metric = L1; dim = 0; eps = 0; minpts = 0; cap = 0 })

-- the state of a session with these watchers before its first request
abbrev pub state_on : List ℕ → Slots → SessionState
state_on c watchers = record { rows = records_on c; batches = batches_on c; slots = watchers }

-- the answers to requests over an open store
abbrev pub answers_over : List ℕ → Slots → List Request → List Answer
answers_over c watchers asked = answers (values_on c) (state_on c watchers) asked

-- a session that isn't begun, with the one line that says why
abbrev pub unbegun : status.Status → List ℕ → Course
unbegun status line = record { answers = []; ending = line; status = status }

-- a session over an open store
abbrev pub begun : List Answer → List ℕ → Course
begun given input = record {
  answers = given;
  ending = if is_over input then codes "session too long\n" else [];
  status = if is_over input then TooLong else if list_any (λ (a : Answer). a.refused) given then Refused else Fine;
}

abbrev pub course_by : Option gate.OpenFault → List ℕ → Slots → List ℕ → Course
course_by None c watchers input = begun (answers_over c watchers (requests_of input)) input
course_by (Some gate_fault.Blank) c watchers input = unbegun Blank (codes "blank store\n")
course_by (Some gate_fault.Foreign) c watchers input = unbegun Broken (codes "foreign store\n")
course_by (Some (gate_fault.Damaged page offset)) c watchers input =
    unbegun Broken (codes "damaged page " ++ (decimal page ++ (codes " offset " ++ (decimal offset ++ codes "\n"))))
course_by (Some gate_fault.SiteFault) c watchers input = unbegun Memory []
course_by (Some gate_fault.Memory) c watchers input = unbegun Memory []

-- the session of an input over a content, with these watchers
unfoldable pub session : List ℕ → Slots → List ℕ → Course
session c watchers input = course_by (refusal_on c) c watchers input

-- no session ends with a fault: want of memory, and faults of the site and of the source, are those of a run alone
abbrev pub SessionsHaveNoFaults : Type 0
SessionsHaveNoFaults = (c : List ℕ) (watchers : Slots) (input : List ℕ) → is_fault (session c watchers input).status ≡ false

-- the batches that a session accepts
abbrev pub accepted : List ℕ → Slots → List ℕ → List (List Change)
accepted c watchers input = accepted_by (session c watchers input).answers
