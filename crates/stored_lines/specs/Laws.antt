-- Laws over the definitions.
use Rattle.std.specs.Prelude.{◌≡◌, ◌↔◌, ℕ, ◌≤◌, ◌==◌, List, map, Some, None, is_some, IsSome}
use Rattle.std.specs.List.{list_any, AllByRecursion}
use Rattle.std.specs.FinMap as maps
use Rattle.count_book.specs.declared.row.Row.{Row}
use Rattle.count_book.specs.Counted.{Counted, IsCore}
use Rattle.label_book.specs.Labels.{Labels, HasLeast}
use Rattle.stored_lines.specs.declared.line.Line.{Line}
use Rattle.stored_lines.specs.Lines.{AreOnce, AreLines, number_of, first_loose, rows_of, labels_of, line_in}

-- The form of books: each count is at least 1, no core has an anchor, each anchor is a core, and
-- exactly the cores have labels, each the least of its members.
pub record HaveForm (counts : Counted) (labels : Labels) : Type 0 where
  pub counted : (a : ℕ) (r : Row) → maps.get counts.rows a ≡ Some r → 1 ≤ r.count
  pub unhung :
      (a : ℕ) (r : Row) → maps.get counts.rows a ≡ Some r → counts.minpts ≤ r.count
      → r.anchor ≡ None
  pub anchored :
      (a : ℕ) (r : Row) (b : ℕ) → maps.get counts.rows a ≡ Some r → r.anchor ≡ Some b
      → IsCore counts b
  pub labelled : (a : ℕ) → IsSome (maps.get labels a) ↔ IsCore counts a
  pub least : HasLeast labels

-- The form of books, but for what anchors are.
pub record AreFormed (counts : Counted) (labels : Labels) : Type 0 where
  pub counted : (a : ℕ) (r : Row) → maps.get counts.rows a ≡ Some r → 1 ≤ r.count
  pub unhung :
      (a : ℕ) (r : Row) → maps.get counts.rows a ≡ Some r → counts.minpts ≤ r.count
      → r.anchor ≡ None
  pub labelled : (a : ℕ) → IsSome (maps.get labels a) ↔ IsCore counts a
  pub least : HasLeast labels

-- Each anchor is a core.
abbrev pub AreHung : Counted → Type 0
AreHung counts =
    (a : ℕ) (r : Row) (b : ℕ) → maps.get counts.rows a ≡ Some r → r.anchor ≡ Some b
    → IsCore counts b

-- The numbers of a book are exactly those of the list, which has each once and no 0.
pub record AreNumbers (counts : Counted) (numbers : List ℕ) : Type 0 where
  pub exact : (a : ℕ) → is_some (maps.get counts.rows a) ≡ list_any (λ n. n == a) numbers
  pub once : AreOnce numbers
  pub some : AllByRecursion (λ n. 1 ≤ n) numbers

-- The counts that lines say.
abbrev pub counts_of : ℕ → List Line → Counted
counts_of minpts lines = record { minpts = minpts; rows = rows_of lines }

-- The books of lawful lines, none of them loose, have the form of books, over the lines' numbers.
abbrev pub BooksHaveForm : Type 0
BooksHaveForm = (minpts : ℕ) (lines : List Line) → AreLines minpts lines
    → first_loose minpts lines ≡ None
    → HaveForm (counts_of minpts lines) (labels_of minpts lines)
    × AreNumbers (counts_of minpts lines) (map number_of lines)

-- These lines are lawful, none is loose, and they say these books.
pub record AreLinesOf (counts : Counted) (labels : Labels) (lines : List Line) : Type 0 where
  pub lawful : AreLines counts.minpts lines
  pub tied : first_loose counts.minpts lines ≡ None
  pub rows : rows_of lines ≡ counts.rows
  pub labels_are : labels_of counts.minpts lines ≡ labels

-- The lines of books of that form, whatever their anchors are, are lawful.
abbrev pub LinesAreLawful : Type 0
LinesAreLawful = (counts : Counted) (labels : Labels) (numbers : List ℕ) → AreFormed counts labels
    → AreNumbers counts numbers → AreLines counts.minpts (map (line_in counts labels) numbers)

-- The lines of books of that form, over their numbers in any order, say these books.
abbrev pub BooksComeBack : Type 0
BooksComeBack = (counts : Counted) (labels : Labels) (numbers : List ℕ) → HaveForm counts labels
    → AreNumbers counts numbers
    → AreLinesOf counts labels (map (line_in counts labels) numbers)
