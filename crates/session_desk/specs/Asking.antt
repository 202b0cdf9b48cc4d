-- What the bytes ask for that a session hasn't looked at yet, and the next request among them.
use Rattle.std.specs.Prelude.{◌≡◌, ◌⊎◌, ℕ, ◌+◌, ◌≤◌, nat_lt, not, Bool, true, false, List, [], ◌∷◌, ◌++◌, length, take, Option, Some, None, Result, Ok, Err}
use Rattle.std.specs.List.{list_any}
use Rattle.session_desk.specs.Input.{is_long}
use Rattle.session_desk.specs.Session.{Request, Batch, Cut, Ask, lines_of, requests, body_of, whole_requests}
use Rattle.session_desk.specs.Lines.{Reading}
use Rattle.session_desk.specs.declared.reading.ReadFault.{ReadFault}
use Rattle.session_desk.specs.declared.reading.ReadFault.TheVariants.{Source, TooMuch, Memory}
use Rattle.session_desk.specs.declared.requests.Asked as read
use Rattle.session_desk.specs.declared.requests.Asked.TheVariants as asked

-- whether more bytes are there than still count
abbrev pub is_past : ℕ → List ℕ → Bool
is_past room rest = nat_lt room (length rest)

-- what bytes ask for, of which so many still count, where a body is open with its lines so far, or none is
unfoldable pub asks_behind : Option (List (List ℕ)) → ℕ → List ℕ → List Request
asks_behind body room rest = requests (not (is_past room rest)) body (lines_of (not (is_past room rest)) (take room rest))

-- what bytes ask for, of which so many still count
abbrev pub asks : ℕ → List ℕ → List Request
asks room rest = asks_behind None room rest

-- what the whole lines and batches of bytes ask for, where a body is open or none is
unfoldable pub whole_behind : Option (List (List ℕ)) → List ℕ → List Request
whole_behind body front = requests false body (lines_of false front)

-- what a reader has still to give: the bytes that it holds and those that are left
abbrev pub rest_of : Reading → List ℕ → List ℕ
rest_of r left = r.pending ++ left

-- what was read is what a request of the session is
abbrev pub IsAsked : read.Asked → Request → Type 0
IsAsked (asked.Batch body) q =
    (lines : List (List ℕ)) × (q ≡ Batch lines) × (list_any is_long lines ≡ false) × (body ≡ body_of lines)
IsAsked asked.LongBatch q = (lines : List (List ℕ)) × (q ≡ Batch lines) × (list_any is_long lines ≡ true)
IsAsked asked.Cut q = q ≡ Cut
IsAsked (asked.Line line) q = q ≡ Ask line

-- Bytes that are whole lines and batches, and ask for these requests, whatever follows.
pub record AreWhole (bytes : List ℕ) (asked : List Request) : Type 0 where
  pub before : (more : List ℕ) → whole_requests (bytes ++ more) ≡ asked ++ whole_requests more

-- A request was the next one: some bytes at the front were used for it, which count no more, and the rest asks for what was asked for
-- behind it. The bytes used are whole lines and batches, or else the source has ended.
pub record IsNext (q : Request) (old : Reading) (left : List ℕ) (new : Reading) (left' : List ℕ) : Type 0 where
  pub asked : asks old.room (rest_of old left) ≡ q ∷ asks new.room (rest_of new left')
  pub past : is_past new.room (rest_of new left') ≡ is_past old.room (rest_of old left)
  pub used : List ℕ
  pub front : rest_of old left ≡ used ++ rest_of new left'
  pub counts : length used + new.room ≡ old.room
  pub whole : AreWhole used (q ∷ []) ⊎ (new.ended ≡ true)

-- a fault of the source came before its end, and no whole line or batch is left of what it gave
pub record IsBroken (old : Reading) (left left' : List ℕ) : Type 0 where
  pub part : List ℕ
  pub front : rest_of old left ≡ part ++ left'
  pub few : length part ≤ old.room
  pub none : whole_requests part ≡ []
  pub going : old.ended ≡ false

-- the answer is the next request, or that nothing more is asked for because the input ends, is too long, or failed
abbrev pub Asks : Result (Option read.Asked) ReadFault → Reading → List ℕ → Reading → List ℕ → Type 0
Asks (Ok (Some a)) old left new left' = (q : Request) × IsAsked a q × IsNext q old left new left'
Asks (Ok None) old left new left' =
    (asks old.room (rest_of old left) ≡ []) × (is_past old.room (rest_of old left) ≡ false) × (rest_of new left' ≡ []) × (new.ended ≡ true)
Asks (Err Source) old left new left' = IsBroken old left left'
Asks (Err TooMuch) old left new left' = (asks old.room (rest_of old left) ≡ []) × (is_past old.room (rest_of old left) ≡ true)
Asks (Err Memory) old left new left' = Unit {0}
