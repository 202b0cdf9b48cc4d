-- A session: what the lines of a whole input ask for, and the answers to them over a store.
use Rattle.std.specs.Prelude.{ℕ, ◌+◌, ◌-◌, ◌==◌, ◌&&◌, not, nat_le, nat_lt, if◌then◌else◌, Bool, true, false, List, [], ◌∷◌, ◌++◌, length, take, Option, Some, None, Result, Ok, Err, codes}
use Rattle.std.specs.FinMap as finite
use Rattle.std.specs.Fmt.{decimal}
use Rattle.std.specs.Str.{bytes_eq}
use Rattle.std.specs.List.{flat_map, list_any, slice_split}
use Rattle.vec_record.specs.Held.{Rows}
use Rattle.vec_record.specs.declared.change.Change.{Change}
use Rattle.plain_dbscan.specs.declared.marks.Mark.{Mark}
use Rattle.plain_dbscan.specs.Texts.{report_text, summary_text, label_text}
use Rattle.event_feed.specs.Meanings.{Meaning, Slots, slot_at, told_all, without_slot}
use Rattle.cluster_report.specs.Texts.{members_text, near_text}
use Rattle.page_layout.specs.Heads.{Values}
use Rattle.batch_text.specs.Numbers.{number_of, within}
use Rattle.warehouse_core.specs.declared.refusal.Refusal as batch
use Rattle.warehouse_core.specs.declared.refusal.Refusal.TheVariants as batch_refusal
use Rattle.warehouse_core.specs.Batches.{marks_on, outcome, rows_after, events_of}
use Rattle.warehouse_core.specs.Queries.{mark_on, members_of, near_on}
use Rattle.warehouse_core.specs.Receipts.{receipt_text}
use Rattle.session_desk.specs.Answers.{refusal_line, input_limit}
use Rattle.session_desk.specs.Input.{is_line_feed, is_long}
use Rattle.session_desk.specs.declared.requests.Line.{Line}
use Rattle.session_desk.specs.declared.requests.Line.TheVariants.{Report, Summary, Label, Cluster, Near, Watch, Drop, Unknown, Long}

-- whether an input has more bytes than count
abbrev pub is_over : List ℕ → Bool
is_over input = nat_lt input_limit (length input)

-- Of pieces between line feeds, those that are lines: each that a line feed ends, and what stands behind the last line
-- feed where it counts and isn't empty.
abbrev pub counted : Bool → List (List ℕ) → List (List ℕ)
counted rest [] = []
counted rest (last ∷ []) = if rest && nat_lt 0 (length last) then last ∷ [] else []
counted rest (line ∷ next ∷ more) = line ∷ counted rest (next ∷ more)

-- the lines of bytes, without their line feeds
abbrev pub lines_of : Bool → List ℕ → List (List ℕ)
lines_of rest bytes = counted rest (slice_split is_line_feed bytes)

-- a line without one carriage return at its end
abbrev pub bare : List ℕ → List ℕ
bare [] = []
bare (b ∷ []) = if b == 13 then [] else b ∷ []
bare (b ∷ c ∷ more) = b ∷ bare (c ∷ more)

abbrev pub says : List ℕ → List ℕ → Bool
says word line = bytes_eq (bare line) word

-- whether a byte stands between two words
abbrev pub is_space : ℕ → Bool
is_space b = b == 32

-- the number that a word says: one to ten digits, of a value from 1 to 4,294,967,295
abbrev pub number_said : List ℕ → Option ℕ
number_said word = within 1 4294967295 (number_of word)

-- what one word asks for
abbrev pub line_of_word : List ℕ → Line
line_of_word word =
    if bytes_eq word (codes "report") then Report
    else if bytes_eq word (codes "summary") then Summary
    else Unknown

-- what a word asks for with a number behind it
abbrev pub line_with : List ℕ → Option ℕ → Line
line_with word None = Unknown
line_with word (Some n) =
    if bytes_eq word (codes "label") then Label n
    else if bytes_eq word (codes "cluster") then Cluster n
    else if bytes_eq word (codes "near") then Near n
    else if bytes_eq word (codes "watch") then Watch n
    else if bytes_eq word (codes "drop") then Drop n
    else Unknown

-- what the words of a line ask for
abbrev pub line_of_words : List (List ℕ) → Line
line_of_words [] = Unknown
line_of_words (word ∷ []) = line_of_word word
line_of_words (word ∷ number ∷ []) = line_with word (number_said number)
line_of_words (word ∷ number ∷ next ∷ more) = Unknown

-- what a line outside of a batch asks for; single spaces stand between its words
abbrev pub line_of : List ℕ → Line
line_of bytes = if is_long bytes then Long else line_of_words (slice_split is_space (bare bytes))

-- What a session is asked: a batch with the lines of its body, a batch without its end, or what another
-- line asks for.
pub data Request : Type 0 where
  Batch : List (List ℕ) → Request
  Cut : Request
  Ask : Line → Request

-- What lines ask for, where a body is open with its lines so far, or none is. Empty lines outside of a body ask nothing. A body
-- without its end is a request where the input ends there, and none where more bytes were cut off.
abbrev pub requests : Bool → Option (List (List ℕ)) → List (List ℕ) → List Request
requests ends None [] = []
requests ends (Some body) [] = if ends then Cut ∷ [] else []
requests ends None (line ∷ more) =
    if says [] line then requests ends None more
    else if says (codes "batch") line then requests ends (Some []) more
    else Ask (line_of line) ∷ requests ends None more
requests ends (Some body) (line ∷ more) =
    if says (codes "end") line then Batch body ∷ requests ends None more else requests ends (Some (body ++ line ∷ [])) more

-- the bytes of a body, as they came
abbrev pub body_of : List (List ℕ) → List ℕ
body_of lines = flat_map (λ line. line ++ 10 ∷ []) lines

-- an answer: its text, whether it is a refusal, the changes of the batch that it accepts, and the slot that it empties
pub record Answer : Type 0 where
  pub text : List ℕ
  pub refused : Bool
  pub accepted : Option (List Change)
  pub dropped : Option ℕ

abbrev pub tells : List ℕ → Answer
tells text = record { text = text; refused = false; accepted = None; dropped = None }

abbrev pub refuses : ℕ → Option ℕ → Answer
refuses number place = record { text = refusal_line number place; refused = true; accepted = None; dropped = None }

-- the state of a session: the records, how many batches there were, and what the watcher of each slot says after further events
pub record SessionState : Type 0 where
  pub rows : Rows
  pub batches : ℕ
  pub slots : Slots

-- the receipt or the refusal of a batch; the last two causes are of no body
abbrev pub batch_answer : Values → SessionState → Result (List Change) batch.Refusal → Answer
batch_answer v s (Ok changes) = record {
  text = receipt_text (s.batches + 1) changes (events_of v s.rows changes);
  refused = false;
  accepted = Some changes;
  dropped = None;
}
batch_answer v s (Err (batch_refusal.Malformed place)) = refuses 11 (Some place)
batch_answer v s (Err (batch_refusal.WrongLength place)) = refuses 12 (Some place)
batch_answer v s (Err (batch_refusal.Repeated place)) = refuses 13 (Some place)
batch_answer v s (Err (batch_refusal.Unknown place)) = refuses 14 (Some place)
batch_answer v s (Err (batch_refusal.Full place)) = refuses 15 (Some place)
batch_answer v s (Err batch_refusal.TooManyRecords) = refuses 16 None
batch_answer v s (Err batch_refusal.BatchesUsedUp) = refuses 19 None
batch_answer v s (Err batch_refusal.SiteFault) = refuses 0 None
batch_answer v s (Err batch_refusal.Memory) = refuses 0 None

-- the line of a number by its mark
abbrev pub label_answer : ℕ → Option Mark → Answer
label_answer n None = refuses 22 None
label_answer n (Some mark) = tells (label_text n mark)

-- the cores and borders with a label
abbrev pub cluster_answer : ℕ → Option (List (ℕ × Mark)) → Answer
cluster_answer label None = refuses 23 None
cluster_answer label (Some members) = tells (members_text label members)

-- the numbers near a number, itself among them
abbrev pub near_answer : Values → Rows → ℕ → Answer
near_answer v rows n =
    if finite.contains_key rows n then tells (near_text n (near_on v rows n)) else refuses 22 None

-- a text whose last line is ended by a line feed; an empty text has none
abbrev pub ended : List ℕ → List ℕ
ended [] = []
ended (b ∷ []) = if b == 10 then b ∷ [] else b ∷ 10 ∷ []
ended (b ∷ c ∷ more) = b ∷ ended (c ∷ more)

-- what the watcher of a slot says now
abbrev pub watch_answer : Option Meaning → Answer
watch_answer None = refuses 24 None
watch_answer (Some says) = tells (ended (says []))

-- `dropped K`
abbrev pub dropped_line : ℕ → List ℕ
dropped_line k = codes "dropped " ++ (decimal k ++ codes "\n")

-- the watcher of a slot is dropped
abbrev pub drop_answer : ℕ → Option Meaning → Answer
drop_answer k None = refuses 24 None
drop_answer k (Some says) = record {
  text = dropped_line k;
  refused = false;
  accepted = None;
  dropped = Some k;
}

-- the answer to a line outside of a batch
abbrev pub line_answer : Values → SessionState → Line → Answer
line_answer v s Report = tells (report_text (marks_on v s.rows))
line_answer v s Summary = tells (summary_text (marks_on v s.rows))
line_answer v s (Label n) = label_answer n (mark_on v s.rows n)
line_answer v s (Cluster n) = cluster_answer n (members_of n (marks_on v s.rows))
line_answer v s (Near n) = near_answer v s.rows n
line_answer v s (Watch k) = watch_answer (slot_at k s.slots)
line_answer v s (Drop k) = drop_answer k (slot_at k s.slots)
line_answer v s Unknown = refuses 21 None
line_answer v s Long = refuses 18 None

-- the answer to a request in a state
abbrev pub answer : Values → SessionState → Request → Answer
answer v s (Batch body) =
    if list_any is_long body then refuses 18 None
    else batch_answer v s (outcome v s.batches s.rows (body_of body))
answer v s Cut = refuses 17 None
answer v s (Ask line) = line_answer v s line

-- the records and the number of batches behind an answer
abbrev pub rows_behind : Values → Rows → Option (List Change) → Rows
rows_behind v rows None = rows
rows_behind v rows (Some changes) = rows_after v rows changes

abbrev pub batches_behind : ℕ → Option (List Change) → ℕ
batches_behind batches None = batches
batches_behind batches (Some changes) = batches + 1

-- the slots behind an answer: each watcher is told the events of an accepted batch, and a dropped one leaves its slot empty
abbrev pub without_dropped : Option ℕ → Slots → Slots
without_dropped None slots = slots
without_dropped (Some k) slots = without_slot k slots

abbrev pub slots_behind : Values → Rows → Option (List Change) → Slots → Slots
slots_behind v rows None slots = slots
slots_behind v rows (Some changes) slots = told_all (events_of v rows changes) slots

abbrev pub behind : Values → SessionState → Answer → SessionState
behind v s a = record {
  rows = rows_behind v s.rows a.accepted;
  batches = batches_behind s.batches a.accepted;
  slots = without_dropped a.dropped (slots_behind v s.rows a.accepted s.slots);
}

-- one step of a session: the answer to a request, and the state behind it
abbrev pub step : Values → SessionState → Request → Answer × SessionState
step v s q = let a = answer v s q in (a, behind v s a)

-- the answers to requests, in order
abbrev pub answers : Values → SessionState → List Request → List Answer
answers v s [] = []
answers v s (q ∷ more) = let next = step v s q in next.0 ∷ answers v next.1 more

-- the text of answers, and the batches that they accept
abbrev pub text_of : List Answer → List ℕ
text_of given = flat_map (λ (a : Answer). a.text) given

abbrev pub in_list : Option (List Change) → List (List Change)
in_list None = []
in_list (Some changes) = changes ∷ []

abbrev pub accepted_by : List Answer → List (List Change)
accepted_by given = flat_map (λ (a : Answer). in_list a.accepted) given

-- how many receipts end, their line feed included, at or before a byte of the text
abbrev pub acked : ℕ → List Answer → ℕ
acked k [] = 0
acked k (a ∷ more) = if nat_le (length a.text) k then length (in_list a.accepted) + acked (k - length a.text) more else 0

-- the records after accepted batches
abbrev pub rows_after_all : Values → Rows → List (List Change) → Rows
rows_after_all v rows [] = rows
rows_after_all v rows (changes ∷ more) = rows_after_all v (rows_after v rows changes) more

-- what a whole input asks for, and what the bytes of a front of it ask for that are whole lines and batches
abbrev pub requests_of : List ℕ → List Request
requests_of input = requests (not (is_over input)) None (lines_of (not (is_over input)) (take input_limit input))

abbrev pub whole_requests : List ℕ → List Request
whole_requests front = requests false None (lines_of false front)
