-- What stored lines say as books, the first that names what it mustn't, and lines of books.
use Rattle.std.specs.Prelude.{◌≡◌, ℕ, suc, ◌<◌, ◌≤◌, ◌==◌, ◌&&◌, not, nat_le, Bool, false, if◌then◌else◌, List, [], ◌∷◌, map, filter, find, count_by, unwrap_or, Option, Some, None}
use Rattle.std.specs.Option.{option_or}
use Rattle.std.specs.List.{AllByRecursion}
use Rattle.std.specs.FinMap as maps
use Rattle.count_book.specs.declared.row.Row.{Row}
use Rattle.count_book.specs.Counted.{Counted, Rows, anchor_in}
use Rattle.label_book.specs.Labels.{Labels}
use Rattle.stored_lines.specs.declared.line.Line.{Line}
use Rattle.stored_lines.specs.declared.fault.Loose.{Loose}
use Rattle.stored_lines.specs.declared.fault.Loose.TheVariants as loose
use Rattle.stored_lines.specs.declared.fault.LinesFault.{LinesFault}
use Rattle.stored_lines.specs.declared.fault.LinesFault.TheVariants as fault

-- What the grammar of a slot has checked of a line: a number, and a count of at least 1; a core
-- has no anchor, and a label from 1 to its number; another record has no label.
pub record IsLine (minpts : ℕ) (line : Line) : Type 0 where
  pub number : 1 ≤ line.number
  pub count : 1 ≤ line.count
  pub unhung : minpts ≤ line.count → line.anchor ≡ 0
  pub labelled : minpts ≤ line.count → 1 ≤ line.label
  pub least : minpts ≤ line.count → line.label ≤ line.number
  pub unlabelled : line.count < minpts → line.label ≡ 0

-- No number stands twice in the list.
abbrev pub AreOnce : List ℕ → Type 0
AreOnce numbers = (n : ℕ) → count_by (λ m. m == n) numbers ≤ 1

-- The number of a line.
abbrev pub number_of : Line → ℕ
number_of line = line.number

-- Lawful lines, no two of one number.
pub record AreLines (minpts : ℕ) (lines : List Line) : Type 0 where
  pub each : AllByRecursion (IsLine minpts) lines
  pub once : AreOnce (map number_of lines)

-- The line of a number, none where there is none.
abbrev pub line_with : List Line → ℕ → Option Line
line_with lines n = find (λ line. line.number == n) lines

-- Whether there is a line, and its count is at least `minpts`.
abbrev pub is_core : ℕ → Option Line → Bool
is_core minpts None = false
is_core minpts (Some line) = nat_le minpts line.count

-- Whether there is a line, and it is that of a core whose label is itself.
abbrev pub is_head : ℕ → Option Line → Bool
is_head minpts None = false
is_head minpts (Some line) = nat_le minpts line.count && (line.label == line.number)

-- Whether a number is that of a line whose count is at least `minpts`.
abbrev pub is_core_line : ℕ → List Line → ℕ → Bool
is_core_line minpts lines n = is_core minpts (line_with lines n)

-- Whether a number is that of a core whose label is itself.
abbrev pub leads : ℕ → List Line → ℕ → Bool
leads minpts lines n = is_head minpts (line_with lines n)

-- What a line names that it mustn't, by tests for cores and leaders: an anchor that isn't 0 and
-- no core, or else a label that isn't 0 and leads nothing.
abbrev pub loose_at : (ℕ → Bool) → (ℕ → Bool) → ℕ → Line → Option Loose
loose_at core leader place line =
    if not (line.anchor == 0) && not (core line.anchor) then Some (loose.Anchor place) else (
    if not (line.label == 0) && not (leader line.label) then Some (loose.Label place) else None
    )

-- The first that lines name so, where the first of them has this place.
abbrev pub loose_from : (ℕ → Bool) → (ℕ → Bool) → ℕ → List Line → Option Loose
loose_from core leader place [] = None
loose_from core leader place (line ∷ rest) =
    option_or (loose_at core leader place line) (loose_from core leader (suc place) rest)

-- The first line that names what it mustn't.
abbrev pub first_loose : ℕ → List Line → Option Loose
first_loose minpts lines = loose_from (is_core_line minpts lines) (leads minpts lines) 0 lines

-- A fault names the first loose line; want of memory is free.
abbrev pub IsFault : ℕ → List Line → LinesFault → Type 0
IsFault minpts lines (fault.Loose which) = first_loose minpts lines ≡ Some which
IsFault minpts lines fault.Memory = Unit {0}

-- A number, and none for 0.
abbrev pub named_by : ℕ → Option ℕ
named_by n = if n == 0 then None else Some n

-- The count and the anchor of a line.
abbrev pub row_in : Line → Row
row_in line = record { count = line.count; anchor = named_by line.anchor }

-- The counts and anchors that lines say, by their numbers.
abbrev pub rows_of : List Line → Rows
rows_of lines = maps.from_entries (map (λ line. (line.number, row_in line)) lines)

-- The lines whose count is at least `minpts`.
abbrev pub cores_of : ℕ → List Line → List Line
cores_of minpts lines = filter (λ line. nat_le minpts line.count) lines

-- The labels that lines of cores say, by their numbers.
abbrev pub labels_of : ℕ → List Line → Labels
labels_of minpts lines =
    maps.from_entries (map (λ line. (line.number, line.label)) (cores_of minpts lines))

-- The count of a row, 0 where there is none.
abbrev pub count_in : Option Row → ℕ
count_in None = 0
count_in (Some row) = row.count

-- The line of a number in books, with 0 for what they don't have.
abbrev pub line_in : Counted → Labels → ℕ → Line
line_in counts labels n = record {
  number = n;
  count = count_in (maps.get counts.rows n);
  anchor = unwrap_or (anchor_in (maps.get counts.rows n)) 0;
  label = unwrap_or (maps.get labels n) 0;
}
