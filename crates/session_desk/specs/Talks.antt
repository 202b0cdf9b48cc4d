-- A session over a warehouse that was loaded, turn by turn. The code alone speaks of this.
use Rattle.std.specs.Prelude.{◌≡◌, ◌⊎◌, ℕ, ◌+◌, ◌≤◌, Bool, true, false, IsTrue, Option, Result, Ok, Err}
use Rattle.std.specs.Prelude.{List, [], ◌∷◌, ◌++◌, length, take}
use Rattle.std.specs.List.{list_any}
use Rattle.site_disk.specs.State.{SiteState, Safe}
use Rattle.page_gate.specs.Same.{IsOnly}
use Rattle.page_layout.specs.Heads.{Values}
use Rattle.store_image.specs.Stores.{IsStore, AreDueIn}
use Rattle.event_feed.specs.declared.feed.WatcherSlots.{WatcherSlots}
use Rattle.event_feed.specs.Meanings.{Meaning, Slots, meanings}
use Rattle.warehouse_core.specs.declared.refusal.Refusal.{Refusal}
use Rattle.warehouse_core.specs.States.{State, IsClustered, LoadsAs}
use Rattle.warehouse_core.specs.Applying.{is_numbered}
use Rattle.session_desk.specs.declared.status.Status.{Status}
use Rattle.session_desk.specs.declared.status.Status.TheVariants as status
use Rattle.session_desk.specs.Lines.{Reading, HasSource}
use Rattle.session_desk.specs.Answers.{input_limit}
use Rattle.session_desk.specs.Session.{Request, Answer, SessionState, behind, answer, answers, batch_answer, refuses}
use Rattle.session_desk.specs.Session.{is_over, text_of, accepted_by, acked, rows_after_all, requests_of, whole_requests}
use Rattle.session_desk.specs.Asking.{asks, rest_of, is_past, AreWhole}
use Rattle.session_desk.specs.Courses.{Course, begun, course_text}
use Rattle.session_desk.specs.Costs.{request_work, requests_work}

-- What a session goes on from: the parameters of its store, and its state.
pub record Desk : Type 0 where
  pub values : Values
  pub state : SessionState

-- the desk of a warehouse and of its watchers
abbrev pub desk_at : State → Slots → Desk
desk_at w slots = record { values = w.values; state = record { rows = w.rows; batches = w.batches; slots = slots } }

abbrev pub desk_of : {A : Type 0} → (A → Meaning) → State → WatcherSlots A → Desk
desk_of says w feed = desk_at w (meanings says feed.slots.items)

-- the answer to a request, and the answers to requests in order
abbrev pub answer_on : Desk → Request → Answer
answer_on d q = answer d.values d.state q

abbrev pub answers_on : Desk → List Request → List Answer
answers_on d qs = answers d.values d.state qs

-- the most distances for a request, and for requests in order
abbrev pub work_on : Desk → Request → ℕ
work_on d q = request_work d.values d.state q

abbrev pub works_on : Desk → List Request → ℕ
works_on d qs = requests_work d.values d.state qs

-- the desk behind an answer, and behind requests
abbrev pub desk_behind : Desk → Answer → Desk
desk_behind d a = record { values = d.values; state = behind d.values d.state a }

abbrev pub desk_after : Desk → List Request → Desk
desk_after d [] = d
desk_after d (q ∷ more) = desk_after (desk_behind d (answer_on d q)) more

-- the store of a desk
abbrev pub IsStoreOf : Desk → List ℕ → Type 0
IsStoreOf d c = IsStore d.values d.state.rows d.state.batches c

-- a warehouse that can answer: it has a store and hasn't failed, and where its clusters stand for
-- its records, its pages load as what it is, with the lines that are due
pub record IsServing (w : State) : Type 0 where
  pub stored : w.stored ≡ true
  pub whole : w.failed ≡ false
  pub loads : IsClustered w → LoadsAs w.pages w.values w.rows w.batches
  pub due : IsClustered w → AreDueIn w.pages

-- the number and the place of a refusal, or the status of a fault
abbrev pub IsJudged : Refusal → Result (ℕ × Option ℕ) Status → Type 0
IsJudged refusal (Ok r) =
    (is_numbered refusal ≡ true)
    × ((d : Desk) → batch_answer d.values d.state (Err refusal) ≡ refuses r.0 r.1)
IsJudged refusal (Err s) =
    (is_numbered refusal ≡ false) × (((s ≡ status.SiteFault) × (refusal ≡ Refusal.SiteFault)) ⊎ ((s ≡ status.Memory) × (refusal ≡ Refusal.Memory)))

-- an answer was given: its text behind what was there, and whether it is a refusal
pub record IsGiven (a : Answer) (refused : Bool) (old new : List ℕ) : Type 0 where
  pub text : new ≡ old ++ a.text
  pub refused_is : refused ≡ a.refused

-- a request was answered, with the desk behind the answer
pub record IsAnswered (d : Desk) (q : Request) (refused : Bool) (next : Desk) (old new : List ℕ) : Type 0 where
  pub given : IsGiven (answer_on d q) refused old new
  pub desk : next ≡ desk_behind d (answer_on d q)

-- While a request is answered, nothing is said, and each image is the store before the answer or behind it; after want of memory it is
-- the one before.
pub record Answering {A : Type 0} (d : Desk) (q : Request) (result : Result A Status) (a b : SiteState) : Type 0 where
  pub safe : Safe a b (λ s c. (s ≡ a.said) × (IsStoreOf d c ⊎ IsStoreOf (desk_behind d (answer_on d q)) c))
  pub unsaved : result ≡ Err status.Memory → (c : List ℕ) → b.may_leave c → IsStoreOf d c

-- at each moment of a reply so much of the answer was said, over the store before it or behind it; nothing but over the latter
pub record IsReplying (d : Desk) (q : Request) (a : SiteState) (s c : List ℕ) : Type 0 where
  pub n : ℕ
  pub prefix : s ≡ a.said ++ take n (answer_on d q).text
  pub image_is : ((n ≡ 0) × IsStoreOf d c) ⊎ IsStoreOf (desk_behind d (answer_on d q)) c

-- what a session over the desk comes to
abbrev pub talk : Desk → List ℕ → Course
talk d input = begun (answers_on d (requests_of input)) input

-- the store after the first m batches that the session accepts
pub record IsStoreAt (d : Desk) (input : List ℕ) (m : ℕ) (c : List ℕ) : Type 0 where
  pub some : m ≤ length (accepted_by (talk d input).answers)
  pub store : IsStore d.values (rows_after_all d.values d.state.rows (take m (accepted_by (talk d input).answers))) (d.state.batches + m) c

-- a moment of the session: k bytes were said, and the image is a store after all batches whose receipts are among them, and at most one more
pub record IsTalk (d : Desk) (input : List ℕ) (a : SiteState) (s c : List ℕ) : Type 0 where
  pub k : ℕ
  pub within : k ≤ length (course_text (talk d input))
  pub prefix : s ≡ a.said ++ take k (course_text (talk d input))
  pub m : ℕ
  pub store : IsStoreAt d input m c
  pub holds : acked k (talk d input).answers ≤ m
  pub few : m ≤ acked k (talk d input).answers + 1

-- How far the input was read: some bytes at the front were used, and asked for these requests.
pub record IsRead (input : List ℕ) (asked : List Request) (r : Reading) (left : List ℕ) : Type 0 where
  pub used : List ℕ
  pub front : input ≡ used ++ rest_of r left
  pub counts : length used + r.room ≡ input_limit
  pub requests : requests_of input ≡ asked ++ asks r.room (rest_of r left)
  pub past : is_past r.room (rest_of r left) ≡ is_over input
  pub whole : AreWhole used asked ⊎ (r.ended ≡ true)
  pub same_source : HasSource r left

-- What was said is the answers to these requests, and every moment was one of the session.
pub record IsToldOf (d : Desk) (input : List ℕ) (asked : List Request) (a b : SiteState) : Type 0 where
  pub said : b.said ≡ a.said ++ text_of (answers_on d asked)
  pub safe : Safe a b (IsTalk d input a)

-- A session that goes on: so far was read, answered and said, with the desk behind it.
pub record IsGoing (tells : Bool) (d : Desk) (input : List ℕ) (a : SiteState) (refused : Bool) (next : Desk)
    (r : Reading) (left : List ℕ) (b : SiteState) : Type 0 where
  pub asked : List Request
  pub read : IsRead input asked r left
  pub desk : next ≡ desk_after d asked
  pub refused_is : refused ≡ list_any (λ (x : Answer). x.refused) (answers_on d asked)
  pub told : IsTrue tells → IsToldOf d input asked a b

-- all of the text was said, and the status is the session's
pub record Concludes (d : Desk) (input : List ℕ) (result : Status) (a b : SiteState) : Type 0 where
  pub text : b.said ≡ a.said ++ course_text (talk d input)
  pub status : result ≡ (talk d input).status

-- one image is left, with every accepted batch
pub record IsKept (d : Desk) (input : List ℕ) (b : SiteState) : Type 0 where
  pub only : IsOnly b
  pub store : IsStoreAt d input (length (accepted_by (talk d input).answers)) b.content

-- the answers to the whole lines and batches of the bytes that the source gave
pub record IsCutOff (d : Desk) (input left : List ℕ) (a b : SiteState) : Type 0 where
  pub front : List ℕ
  pub gave : input ≡ front ++ left
  pub text : b.said ≡ a.said ++ text_of (answers_on d (whole_requests front))

-- each image has exactly the batches whose receipts were said
pub record IsEven (d : Desk) (input : List ℕ) (a b : SiteState) : Type 0 where
  pub k : ℕ
  pub within : k ≤ length (course_text (talk d input))
  pub prefix : b.said ≡ a.said ++ take k (course_text (talk d input))
  pub stores : (c : List ℕ) → b.may_leave c → IsStoreAt d input (acked k (talk d input).answers) c
