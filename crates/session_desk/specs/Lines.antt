-- Reading an input line by line: what a reader has, and what each answer of its `next` says.
use Rattle.std.specs.Prelude.{◌≡◌, ℕ, ◌+◌, ◌<◌, ◌≤◌, ◌==◌, ◌⊎◌, Bool, true, false, if◌then◌else◌, List, [], ◌∷◌, ◌++◌, length, take, Result, Ok, Err}
use Rattle.std.specs.List.{list_any}
use Rattle.session_desk.specs.Input.{is_line_feed}
use Rattle.session_desk.specs.declared.reading.ReadFault.{ReadFault}
use Rattle.session_desk.specs.declared.reading.ReadFault.TheVariants.{Source, TooMuch, Memory}
use Rattle.session_desk.specs.declared.lines.SessionLine.{SessionLine}
use Rattle.session_desk.specs.declared.lines.SessionLine.TheVariants.{Whole, Long, End}

-- What a reader has: the bytes that it took from its source and hasn't given in lines; how many bytes may still
-- count, these among them; whether the source has given its end; and whether the reader has answered a fault.
pub record Reading : Type 0 where
  pub pending : List ℕ
  pub room : ℕ
  pub ended : Bool
  pub failed : Bool

abbrev pub reading : List ℕ → ℕ → Bool → Bool → Reading
reading pending room ended failed = record { pending = pending; room = room; ended = ended; failed = failed }

-- A reader before its first line: 67,108,864 bytes may count.
abbrev pub fresh : Reading
fresh = reading [] 67108864 false false

-- So it is with every reader: at most one byte more than may count is held, and none more after the end.
pub record IsHeld (r : Reading) : Type 0 where
  pub few : r.room ≤ 67108864
  pub within : length r.pending ≤ r.room + 1
  pub ended : r.ended ≡ true → length r.pending ≤ r.room

-- A reader that has seen the end goes on with the same source, which has nothing left.
abbrev pub HasSource : Reading → List ℕ → Type 0
HasSource r left = r.ended ≡ true → left ≡ []

-- No byte is a line feed.
abbrev pub IsOneLine : List ℕ → Type 0
IsOneLine bytes = list_any is_line_feed bytes ≡ false

-- whether bytes end in a carriage return
abbrev pub ends_in_return : List ℕ → Bool
ends_in_return [] = false
ends_in_return (b ∷ []) = b == 13
ends_in_return (b ∷ c ∷ more) = ends_in_return (c ∷ more)

-- the bytes of a line before its line feed, where a carriage return was taken off the end or none was
abbrev pub raw_line : List ℕ → Bool → List ℕ
raw_line line cr = line ++ (if cr then 13 ∷ [] else [])

-- The bytes of a line stand at the front of the rest: a line feed ends them, or they are all of it and not empty. Within the
-- bytes that may count, so much was cut off.
pub record IsCut (room : ℕ) (rest raw after : List ℕ) : Type 0 where
  pub one_line : IsOneLine raw
  pub cut : (rest ≡ raw ++ 10 ∷ after) ⊎ ((rest ≡ raw) × (after ≡ []) × (0 < length raw))
  pub within : length rest ≤ room + length after

-- A line was cut off, and its bytes count no more. A line that is all of the rest is the last one.
pub record IsGiven (raw : List ℕ) (old : Reading) (before : List ℕ) (new : Reading) (after : List ℕ) : Type 0 where
  pub cut : IsCut old.room (old.pending ++ before) raw (new.pending ++ after)
  pub counted : new.room + length (old.pending ++ before) ≡ old.room + length (new.pending ++ after)
  pub last : old.pending ++ before ≡ raw → new.ended ≡ true

-- a line of at most 4,096 bytes, without one carriage return at its end
pub record IsWhole (line : List ℕ) (cr : Bool) (old : Reading) (before : List ℕ) (new : Reading) (after : List ℕ) : Type 0 where
  pub given : IsGiven (raw_line line cr) old before new after
  pub short : length (raw_line line cr) ≤ 4096
  pub marked : ends_in_return (raw_line line cr) ≡ cr

-- a line of more bytes
pub record IsLongLine (old : Reading) (before : List ℕ) (new : Reading) (after : List ℕ) : Type 0 where
  pub raw : List ℕ
  pub given : IsGiven raw old before new after
  pub long : 4096 < length raw

-- nothing is left
pub record IsEnd (old : Reading) (before : List ℕ) (new : Reading) (after : List ℕ) : Type 0 where
  pub none : old.pending ++ before ≡ []
  pub none_after : new.pending ++ after ≡ []
  pub room : new.room ≡ old.room
  pub ended : new.ended ≡ true

-- the source failed with no whole line left of what it gave
pub record IsCutShort (old : Reading) (before after : List ℕ) : Type 0 where
  pub part : List ℕ
  pub front : old.pending ++ before ≡ part ++ after
  pub one_line : IsOneLine part
  pub few : length part ≤ old.room

-- a byte more than may count was given, and no whole line is left of those that do
pub record IsTooMuch (old : Reading) (before after : List ℕ) : Type 0 where
  pub part : List ℕ
  pub front : old.pending ++ before ≡ part ++ after
  pub long : length part ≡ old.room + 1
  pub one_line : IsOneLine (take old.room part)

-- want of memory: at most a byte more than may count was taken
pub record IsUnfinished (old : Reading) (before after : List ℕ) : Type 0 where
  pub part : List ℕ
  pub front : old.pending ++ before ≡ part ++ after
  pub few : length part ≤ old.room + 1

-- What an answer of `next` says, where the source tells its bytes before and after the call.
abbrev pub Nexts : Result SessionLine ReadFault → Reading → List ℕ → Reading → List ℕ → Type 0
Nexts (Ok (Whole line cr)) old before new after = IsWhole line cr old before new after
Nexts (Ok Long) old before new after = IsLongLine old before new after
Nexts (Ok End) old before new after = IsEnd old before new after
Nexts (Err Source) old before new after = IsCutShort old before after
Nexts (Err TooMuch) old before new after = IsTooMuch old before after
Nexts (Err Memory) old before new after = IsUnfinished old before after

-- The bytes of a line and its line feed count no more; or those of the last line, and then nothing is held or comes.
abbrev pub Spends : ℕ → Reading → Reading → Type 0
Spends n old new = (new.room + n + 1 ≡ old.room) ⊎ ((new.room + n ≡ old.room) × (0 < n) × (new.pending ≡ []) × (new.ended ≡ true))

-- how much less may count after an answer, whatever the source tells
abbrev pub SpendsBy : Result SessionLine ReadFault → Reading → Reading → Type 0
SpendsBy (Ok (Whole line cr)) old new = Spends (length (raw_line line cr)) old new
SpendsBy (Ok Long) old new = new.room < old.room
SpendsBy (Ok End) old new = new.room ≡ old.room
SpendsBy (Err fault) old new = Unit {0}
