-- How lines that are read one by one make a request. The code alone speaks of this.
use Rattle.std.specs.Prelude.{◌≡◌, ◌⊎◌, ℕ, ◌+◌, ◌≤◌, ◌<◌, if◌then◌else◌, true, false, List, [], ◌∷◌, ◌++◌, length, Option, Some, None, Result, Ok, Err, codes}
use Rattle.std.specs.Str.{bytes_eq}
use Rattle.std.specs.List.{list_any, slice_split}
use Rattle.session_desk.specs.Input.{is_long}
use Rattle.session_desk.specs.Session.{Request, Batch, Cut, Ask, body_of, is_space, line_of_words}
use Rattle.session_desk.specs.Lines.{Reading}
use Rattle.session_desk.specs.Asking.{IsAsked, asks_behind, whole_behind, is_past, rest_of}
use Rattle.session_desk.specs.declared.reading.ReadFault.{ReadFault}
use Rattle.session_desk.specs.declared.reading.ReadFault.TheVariants as fault
use Rattle.session_desk.specs.declared.requests.Asked.{Asked}
use Rattle.session_desk.specs.declared.requests.Word.{Word}
use Rattle.session_desk.specs.declared.requests.Word.TheVariants as word
use Rattle.session_desk.specs.declared.requests.Body.{Body}
use Rattle.session_desk.specs.declared.requests.BodyLine.{BodyLine}
use Rattle.session_desk.specs.declared.requests.BodyLine.TheVariants as inside

-- Lines were read that ask for these requests, and led from a body that is open with its lines so far, or none, to another.
pub record Passes (before : Option (List (List ℕ))) (asked : List Request) (behind : Option (List (List ℕ))) (old : Reading) (left : List ℕ) (new : Reading) (left' : List ℕ) : Type 0 where
  pub asks : asks_behind before old.room (rest_of old left) ≡ asked ++ asks_behind behind new.room (rest_of new left')
  pub past : is_past new.room (rest_of new left') ≡ is_past old.room (rest_of old left)
  pub used : List ℕ
  pub front : rest_of old left ≡ used ++ rest_of new left'
  pub counts : length used + new.room ≡ old.room
  pub whole : ((more : List ℕ) → whole_behind before (used ++ more) ≡ asked ++ whole_behind behind more) ⊎ (new.ended ≡ true)
  pub ends : old.ended ≡ true → new.ended ≡ true

-- the source failed before its end, and no request is left of what it gave
pub record IsBrokenOff (body : Option (List (List ℕ))) (old : Reading) (left left' : List ℕ) : Type 0 where
  pub part : List ℕ
  pub front : rest_of old left ≡ part ++ left'
  pub few : length part ≤ old.room
  pub none : whole_behind body part ≡ []
  pub going : old.ended ≡ false

-- what each fault of the reading says
abbrev pub Faults : ReadFault → Option (List (List ℕ)) → Reading → List ℕ → List ℕ → Type 0
Faults fault.Source body old left left' = IsBrokenOff body old left left'
Faults fault.TooMuch body old left left' = (asks_behind body old.room (rest_of old left) ≡ []) × (is_past old.room (rest_of old left) ≡ true)
Faults fault.Memory body old left left' = Unit {0}

-- the word that a line says, without its carriage return; an empty one says none
abbrev pub word_of : List ℕ → Option Word
word_of line =
    if bytes_eq line [] then None
    else if bytes_eq line (codes "batch") then Some word.Batch
    else Some (word.Line (line_of_words (slice_split is_space line)))

-- the end of the input was found, which asks for this where a body is open or none is
pub record PassesEnd (body : Option (List (List ℕ))) (asked : List Request) (old : Reading) (left : List ℕ) (new : Reading) (left' : List ℕ) : Type 0 where
  pub passes : Passes body asked None old left new left'
  pub none : rest_of new left' ≡ []
  pub fits : is_past old.room (rest_of old left) ≡ false
  pub ended : new.ended ≡ true

-- one line outside of a body that isn't empty, or the end, was passed
abbrev pub PassesWord : Word → Reading → List ℕ → Reading → List ℕ → Type 0
PassesWord word.Batch old left new left' = Passes None [] (Some []) old left new left'
PassesWord (word.Line line) old left new left' = Passes None (Ask line ∷ []) None old left new left'
PassesWord word.End old left new left' = PassesEnd None [] old left new left'

abbrev pub PassesAny : Option Word → Reading → List ℕ → Reading → List ℕ → Type 0
PassesAny None old left new left' = Passes None [] None old left new left'
PassesAny (Some w) old left new left' = PassesWord w old left new left'

-- what the answers of the reading say outside of a body: of one line, and of all up to one that isn't empty
abbrev pub OneWord : Result (Option Word) ReadFault → Reading → List ℕ → Reading → List ℕ → Type 0
OneWord (Ok w) old left new left' = PassesAny w old left new left'
OneWord (Err e) old left new left' = Faults e None old left left'

abbrev pub Words : Result Word ReadFault → Reading → List ℕ → Reading → List ℕ → Type 0
Words (Ok w) old left new left' = PassesWord w old left new left'
Words (Err e) old left new left' = Faults e None old left left'

-- a body stands for its lines so far: it knows of a long one, or has the bytes of all
pub record HasLines (b : Body) (lines : List (List ℕ)) : Type 0 where
  pub long : b.is_long ≡ list_any is_long lines
  pub bytes : b.is_long ≡ false → b.bytes ≡ body_of lines

-- a line of the body was passed and kept
pub record PassesKept (lines : List (List ℕ)) (b : Body) (old : Reading) (left : List ℕ) (new : Reading) (left' : List ℕ) : Type 0 where
  pub line : List ℕ
  pub stands : HasLines b (lines ++ line ∷ [])
  pub passes : Passes (Some lines) [] (Some (lines ++ line ∷ [])) old left new left'

-- what the answers of the reading say inside of a body: of one line, and of all up to its end
abbrev pub OneInBody : Result BodyLine ReadFault → List (List ℕ) → Body → Reading → List ℕ → Reading → List ℕ → Type 0
OneInBody (Ok inside.Kept) lines b old left new left' = PassesKept lines b old left new left'
OneInBody (Ok inside.End) lines b old left new left' = HasLines b lines × Passes (Some lines) (Batch lines ∷ []) None old left new left'
OneInBody (Ok inside.Cut) lines b old left new left' = PassesEnd (Some lines) (Cut ∷ []) old left new left'
OneInBody (Err e) lines b old left new left' = Faults e (Some lines) old left left'

pub record PassesBody (a : Asked) (old : Reading) (left : List ℕ) (new : Reading) (left' : List ℕ) : Type 0 where
  pub request : Request
  pub asked : IsAsked a request
  pub passes : Passes (Some []) (request ∷ []) None old left new left'

abbrev pub Bodies : Result Asked ReadFault → Reading → List ℕ → Reading → List ℕ → Type 0
Bodies (Ok a) old left new left' = PassesBody a old left new left'
Bodies (Err e) old left new left' = Faults e (Some []) old left left'

-- The bytes kept and those that may still come are at most so many, or one more behind a last line, behind which nothing comes.
abbrev pub HasRoom : ℕ → Body → Reading → Type 0
HasRoom most b r = (length b.bytes + r.room ≤ most) ⊎ ((length b.bytes + r.room ≤ most + 1) × (r.pending ≡ []) × (r.ended ≡ true))

-- so it stays with each line, and at the end of the body the bytes kept are at most so many
abbrev pub KeepsRoom : Result BodyLine ReadFault → ℕ → Body → Reading → Type 0
KeepsRoom (Ok inside.Kept) most b new = HasRoom most b new
KeepsRoom (Ok inside.End) most b new = length b.bytes ≤ most
KeepsRoom (Ok inside.Cut) most b new = Unit {0}
KeepsRoom (Err e) most b new = Unit {0}

-- less may count behind a line that was kept, and no more behind the others
abbrev pub ShrinksBy : Result BodyLine ReadFault → Reading → Reading → Type 0
ShrinksBy (Ok inside.Kept) old new = new.room < old.room
ShrinksBy (Ok inside.End) old new = new.room ≤ old.room
ShrinksBy (Ok inside.Cut) old new = new.room ≤ old.room
ShrinksBy (Err e) old new = Unit {0}

-- less may count behind every line outside of a body
abbrev pub ShrinksOver : Word → Reading → Reading → Type 0
ShrinksOver word.Batch old new = new.room < old.room
ShrinksOver (word.Line line) old new = new.room < old.room
ShrinksOver word.End old new = new.room ≤ old.room

abbrev pub ShrinksOverAny : Option Word → Reading → Reading → Type 0
ShrinksOverAny None old new = new.room < old.room
ShrinksOverAny (Some w) old new = ShrinksOver w old new
