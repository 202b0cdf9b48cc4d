-- The marks that the two books give numbers.
use Rattle.std.specs.Prelude.{ℕ, List, map, Option, Some, None}
use Rattle.std.specs.FinMap as finite
use Rattle.count_book.specs.Counted.{Counted, anchor_in}
use Rattle.label_book.specs.Labels.{Labels}
use Rattle.plain_dbscan.specs.declared.marks.Mark.{Mark}
use Rattle.plain_dbscan.specs.declared.marks.Mark.TheVariants.{Core, Border, Noise}
use Rattle.plain_dbscan.specs.Marks.{Entries, numbers_of}

-- A border with this label, or noise where there is none.
abbrev pub border_of : Option ℕ → Mark
border_of None = Noise
border_of (Some l) = Border l

-- A border with the label of its anchor, or noise where it has none.
abbrev pub hung_mark : Labels → Option ℕ → Mark
hung_mark labels None = Noise
hung_mark labels (Some b) = border_of (finite.get labels b)

-- A core with its label, or what its anchor makes it.
abbrev pub mark_by : Labels → Option ℕ → Option ℕ → Mark
mark_by labels None anchor = hung_mark labels anchor
mark_by labels (Some l) anchor = Core l

-- The mark of a number in the books, noise where neither has it.
abbrev pub mark_in_books : Counted → Labels → ℕ → Mark
mark_in_books counts labels a =
    mark_by labels (finite.get labels a) (anchor_in (finite.get counts.rows a))

-- The numbers of records with their marks in the books.
abbrev pub marks_in_books : Counted → Labels → Entries → List (ℕ × Mark)
marks_in_books counts labels es = map (λ a. (a, mark_in_books counts labels a)) (numbers_of es)
