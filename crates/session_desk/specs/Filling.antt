-- The steps of a reader of lines. No public contract cites these.
use Rattle.std.specs.Prelude.{◌≡◌, ℕ, ◌+◌, ◌-◌, ◌<◌, ◌≤◌, ◌||◌, ◌⊎◌, Bool, true, false, nat_lt, min, List, [], ◌∷◌, ◌++◌, length, drop, Result, Ok, Err}
use Rattle.std.specs.List.{position_or_len}
use Rattle.session_desk.specs.Input.{is_line_feed}
use Rattle.session_desk.specs.Lines.{Reading, reading, IsOneLine, raw_line, ends_in_return}
use Rattle.session_desk.specs.declared.reading.ReadFault.{ReadFault}
use Rattle.session_desk.specs.declared.reading.ReadFault.TheVariants.{Source, TooMuch, Memory}
use Rattle.session_desk.specs.declared.lines.SessionLine.{SessionLine}
use Rattle.session_desk.specs.declared.lines.SessionLine.TheVariants.{Whole, Long, End}

-- whether a line is there: a line feed among the bytes that may count, or all that the source had
abbrev pub has_line : Reading → Bool
has_line r = r.ended || nat_lt (position_or_len is_line_feed r.pending) (min (length r.pending) r.room)

-- a reader that gave so many bytes more
abbrev pub given : ℕ → Reading → Reading
given count r = reading (drop count r.pending) (r.room - count) r.ended r.failed

-- a reader that took bytes
abbrev pub filled : Reading → List ℕ → Reading
filled r bytes = reading (r.pending ++ bytes) r.room r.ended r.failed

-- what was taken stands behind what a reader had, and the end is told
pub record Fills (old : Reading) (before : List ℕ) (new : Reading) (after : List ℕ) : Type 0 where
  pub bytes : old.pending ++ before ≡ new.pending ++ after
  pub end : new.ended ≡ true → after ≡ []

-- what was taken is lost
pub record Loses (old : Reading) (before after : List ℕ) : Type 0 where
  pub bytes : List ℕ
  pub front : before ≡ bytes ++ after
  pub few : length old.pending + length bytes ≤ old.room + 1

-- what filling a reader did, where the source tells its bytes before and after
abbrev pub FillsBy : {V : Type 0} → Result V ReadFault → Reading → List ℕ → Reading → List ℕ → Type 0
FillsBy (Ok v) old before new after = Fills old before new after
FillsBy (Err Source) old before new after = after ≡ before
FillsBy (Err TooMuch) old before new after = ⊥
FillsBy (Err Memory) old before new after = Loses old before after

-- a line was cut off what a reader had
pub record CutsOff (raw : List ℕ) (old new : Reading) : Type 0 where
  pub one_line : IsOneLine raw
  pub cut : (old.pending ≡ raw ++ 10 ∷ new.pending) ⊎ ((old.pending ≡ raw) × (new.pending ≡ []) × (old.ended ≡ true))
  pub counted : new.room + length old.pending ≡ old.room + length new.pending
  pub within : length old.pending ≤ old.room + length new.pending
  pub ended : new.ended ≡ old.ended

pub record GivesWhole (line : List ℕ) (cr long : Bool) (old new : Reading) : Type 0 where
  pub cut : CutsOff (raw_line line cr) old new
  pub some : 0 < length old.pending
  pub short : length (raw_line line cr) ≤ 4096
  pub marked : ends_in_return (raw_line line cr) ≡ cr
  pub begun : long ≡ false

pub record GivesLong (long : Bool) (old new : Reading) : Type 0 where
  pub raw : List ℕ
  pub cut : CutsOff raw old new
  pub over : (long ≡ true) ⊎ (4096 < length raw)

pub record GivesEnd (long : Bool) (old new : Reading) : Type 0 where
  pub none : old.pending ≡ []
  pub same : new ≡ old
  pub ended : old.ended ≡ true
  pub begun : long ≡ false

-- what a line says that was given, where a part of it was skipped or none was
abbrev pub GivesBy : SessionLine → Bool → Reading → Reading → Type 0
GivesBy (Whole line cr) long old new = GivesWhole line cr long old new
GivesBy Long long old new = GivesLong long old new
GivesBy End long old new = GivesEnd long old new

-- a whole line of these bytes
abbrev pub IsLineOf : List ℕ → SessionLine → Type 0
IsLineOf raw (Whole line cr) = (raw ≡ raw_line line cr) × (ends_in_return raw ≡ cr)
IsLineOf raw Long = ⊥
IsLineOf raw End = ⊥
