-- What a store in memory is: its head, its records, and what is kept of their clusters.
use Rattle.std.specs.Prelude.{ℕ, List, [], ◌∷◌, Option, Some, None}
use Rattle.std.specs.List.{flat_map}
use Rattle.std.specs.FinMap as maps
use Rattle.vec_record.specs.Held as held
use Rattle.vec_record.specs.Limits.{width_of}
use Rattle.mtree_index.specs.Plain.{PlainTree}
use Rattle.stored_lines.specs.declared.line.Line.{Line}
use Rattle.stored_lines.specs.Lines.{rows_of, labels_of}
use Rattle.kept_clusters.specs.Kept.{Kept}
use Rattle.page_layout.specs.declared.slot.Slot.{Slot}
use Rattle.page_layout.specs.Heads.{Values, HeadValue}
use Rattle.page_layout.specs.Slots.{Rows}

-- a store: its head, its records, and their tree, counts, anchors and labels
pub record Image : Type 0 where
  pub head : HeadValue
  pub records : held.Held
  pub kept : Kept

abbrev pub image_with : HeadValue → held.Held → Kept → Image
image_with h records kept = record { head = h; records = records; kept = kept }

-- the number in a slot, 0 where it is free
abbrev pub number_of : Option Slot → ℕ
number_of None = 0
number_of (Some s) = s.number

-- the record in a slot, and its line
abbrev pub entry_of : Option Slot → List (ℕ × List ℕ)
entry_of None = []
entry_of (Some s) = (s.number, s.vector) ∷ []

abbrev pub line_of : Option Slot → List Line
line_of None = []
line_of (Some s) = record { number = s.number; count = s.count; anchor = s.anchor; label = s.label } ∷ []

-- the vectors by their numbers, and the lines, over used slots
abbrev pub vectors_of : Rows → held.Rows
vectors_of slots = maps.from_entries (flat_map entry_of slots)

abbrev pub lines_of : Rows → List Line
lines_of slots = flat_map line_of slots

-- what slots and a tree keep of clusters under parameters
abbrev pub kept_in : Values → Rows → PlainTree → Kept
kept_in v slots tree = record {
  eps = v.eps;
  tree = tree;
  counts = record { minpts = v.minpts; rows = rows_of (lines_of slots) };
  labels = labels_of v.minpts (lines_of slots);
}

-- the records in slots, with the width of the parameters
abbrev pub held_in : Values → Rows → held.Held
held_in v slots = record { width = width_of v.metric v.dim; vectors = vectors_of slots }
