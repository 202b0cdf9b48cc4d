-- How each step of the code leads to the books.
use Rattle.std.specs.Prelude.{◌≡◌, ℕ, ◌<◌, ◌==◌, ◌&&◌, nat_eq, nat_le, Bool, true, false, if◌then◌else◌, List, [], ◌∷◌, ◌++◌, length, map, filter, Option, Some, None}
use Rattle.std.specs.Option.{option_eq}
use Rattle.std.specs.Ordering.{nat_cmp}
use Rattle.std.specs.FinMap as maps
use Rattle.count_book.specs.declared.row.Row.{Row}
use Rattle.count_book.specs.Counted.{Counted}
use Rattle.label_book.specs.Labels.{Labels, EachOnce, AreFree, IsLeastOf, IsFounded}
use Rattle.stored_lines.specs.declared.line.Line.{Line}
use Rattle.stored_lines.specs.Lines.{number_of, line_with, is_head, leads}

-- Whether there is a row, and it counts as many neighbours as make a core.
abbrev pub is_core_row : ℕ → Option Row → Bool
is_core_row minpts None = false
is_core_row minpts (Some r) = nat_le minpts r.count

-- Whether a number is core in the counts.
abbrev pub core_in : Counted → ℕ → Bool
core_in counts n = is_core_row counts.minpts (maps.get counts.rows n)

-- Whether a number is a label.
abbrev pub leads_in : Labels → ℕ → Bool
leads_in labels n = option_eq nat_eq (maps.get labels n) (Some n)

-- Whether a line is that of a core with this label.
abbrev pub has_label : ℕ → ℕ → Line → Bool
has_label minpts label line = nat_le minpts line.count && (line.label == label)

-- The numbers of the cores with this label, in the order of the lines.
abbrev pub numbers_with : ℕ → List Line → ℕ → List ℕ
numbers_with minpts lines label = map number_of (filter (has_label minpts label) lines)

-- Lists of numbers under labels.
abbrev pub Groups : Type 0
Groups = maps.FinMap nat_cmp (List ℕ)

-- The list that is there, or the empty one.
abbrev pub numbers_in : Option (List ℕ) → List ℕ
numbers_in None = []
numbers_in (Some numbers) = numbers

-- The numbers of the cores of each label are listed under it.
abbrev pub AreGroups : ℕ → List Line → Groups → Type 0
AreGroups minpts lines groups =
    (label : ℕ) → numbers_in (maps.get groups label) ≡ numbers_with minpts lines label

-- The number was listed under the label.
abbrev pub IsPut : ℕ → ℕ → Groups → Groups → Type 0
IsPut label number old new = (q : ℕ) → numbers_in (maps.get new q)
    ≡ (if label == q then numbers_in (maps.get old q) ++ number ∷ []
    else numbers_in (maps.get old q))

-- The line was listed under its label, where it is that of a core.
abbrev pub IsTaken : ℕ → Line → Groups → Groups → Type 0
IsTaken minpts line old new = (q : ℕ) → numbers_in (maps.get new q)
    ≡ numbers_in (maps.get old q) ++ numbers_with minpts (line ∷ []) q

-- Whether a line is that of a core whose label is itself.
abbrev pub is_leader : ℕ → Line → Bool
is_leader minpts line = is_head minpts (Some line)

-- A list of cores without label, the least of which is this label.
pub record IsReady (labels : Labels) (label : ℕ) (group : List ℕ) : Type 0 where
  pub some : 0 < length group
  pub once : EachOnce group
  pub free : AreFree labels group
  pub least : IsLeastOf label group

-- The label of a line, where it is a core's, and the label leads a cluster among the lines seen.
abbrev pub led_label : ℕ → List Line → Option Line → Option ℕ
led_label minpts seen None = None
led_label minpts seen (Some line) =
    if nat_le minpts line.count && leads minpts seen line.label then Some line.label else None

-- Each core whose label leads a cluster among the lines that were seen has that label.
abbrev pub IsLed : ℕ → List Line → List Line → Labels → Type 0
IsLed minpts lines seen labels =
    (q : ℕ) → maps.get labels q ≡ led_label minpts seen (line_with lines q)

-- The cluster of a line was founded, where it leads one, and else all labels stay.
abbrev pub IsLedBy : ℕ → Line → List ℕ → Labels → Labels → Type 0
IsLedBy minpts line group old new =
    (is_leader minpts line ≡ true → IsFounded old group line.number new)
    × (is_leader minpts line ≡ false → new ≡ old)
