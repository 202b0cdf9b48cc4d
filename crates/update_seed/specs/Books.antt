-- What books and an index have to do with the records.
use Rattle.std.specs.Prelude.{◌≡◌, ◌↔◌, ℕ, ◌≤◌, Bool, false, nat_le, List, Option, Some, None, is_some, IsSome, if◌then◌else◌}
use Rattle.std.specs.FinMap as map
use Rattle.vec_record.specs.Held.{Held, Rows}
use Rattle.plain_dbscan.specs.Marks.{Density, density, Entries, is_core, is_near, near_of, size_of, cluster_of, anchor_of}
use Rattle.count_book.specs.declared.row.Row.{Row}
use Rattle.count_book.specs.Counted.{Counted, row_of, IsCore}
use Rattle.label_book.specs.Labels.{Labels, HasLeast}

-- An index of this width and with these pairs holds exactly the records.
pub record IsHeld (width : ℕ) (contents : Rows) (records : Held) : Type 0 where
  pub same_width : width ≡ records.width
  pub same_pairs : contents ≡ records.vectors

-- Whether two records are near each other, which how many make a core has nothing to do with.
abbrev pub near_in : (List ℕ → List ℕ → ℕ) → ℕ → Held → ℕ → ℕ → Bool
near_in dist eps records = is_near (density dist eps 1) (map.entries records.vectors)

-- The numbers near a record, rising.
abbrev pub all_near : (List ℕ → List ℕ → ℕ) → ℕ → Held → ℕ → List ℕ
all_near dist eps records a = near_of (density dist eps 1) (map.entries records.vectors) a

-- Whether there is a row, and it counts as many neighbours as make a core.
abbrev pub is_core_row : ℕ → Option Row → Bool
is_core_row minpts None = false
is_core_row minpts (Some r) = nat_le minpts r.count

-- Whether a number is in the book, with a count of at least the book's `minpts`.
abbrev pub core_in : Counted → ℕ → Bool
core_in counts a = is_core_row counts.minpts (map.get counts.rows a)

-- The index holds the records, and the books have the form that books of these records have:
-- counts for exactly the records, each at least 1, no anchor at a core, and labels for exactly the
-- cores by these counts, each the least of its members.
pub record Fits
    (width : ℕ) (contents : Rows) (records : Held) (counts : Counted)
    (labels : Labels) : Type 0 where
  pub held : IsHeld width contents records
  pub numbers : (a : ℕ) → is_some (map.get counts.rows a) ≡ is_some (map.get records.vectors a)
  pub counted : (a : ℕ) (r : Row) → map.get counts.rows a ≡ Some r → 1 ≤ r.count
  pub unhung :
      (a : ℕ) (r : Row) → map.get counts.rows a ≡ Some r → counts.minpts ≤ r.count
      → r.anchor ≡ None
  pub labelled : (a : ℕ) → IsSome (map.get labels a) ↔ IsCore counts a
  pub least : HasLeast labels

-- The row that is due to a record: its size, and its anchor.
abbrev pub row_due : Density → Entries → Rows → ℕ → Option Row
row_due d es records a =
    if is_some (map.get records a) then Some (row_of (size_of d es a) (anchor_of d es a)) else None

-- The label that is due to a record, which a core alone has.
abbrev pub label_due : Density → Entries → ℕ → Option ℕ
label_due d es a = if is_core d es a then Some (cluster_of d es a) else None

-- The labels are those that are due.
abbrev pub AreLabelsDue : Density → Entries → Labels → Type 0
AreLabelsDue d es labels = (a : ℕ) → map.get labels a ≡ label_due d es a

-- All fits, and each count, anchor and label is the one that is due.
pub record StandsFor
    (d : Density) (width : ℕ) (contents : Rows) (records : Held) (counts : Counted)
    (labels : Labels) : Type 0 where
  pub fits : Fits width contents records counts labels
  pub rows :
      (a : ℕ) → map.get counts.rows a
      ≡ row_due d (map.entries records.vectors) records.vectors a
  pub labels_due : AreLabelsDue d (map.entries records.vectors) labels
