-- What the computed marks, labels and anchors are, in terms of the relations.
use Rattle.std.specs.Prelude.{◌≡◌, ◌↔◌, ℕ, false, List, Some, None, length, map, IsTrue}
use Rattle.std.specs.List.{All}
use Rattle.std.specs.Ordering.{nat_cmp}
use Rattle.std.specs.FinMap as finite
use Rattle.std.specs.FinMap.Entries.{is_sorted, find as value_at}
use lib.Dec.{T}
use Rattle.vec_record.specs.Held.{Rows}
use Rattle.plain_dbscan.specs.declared.marks.Mark.{Mark}
use Rattle.plain_dbscan.specs.declared.marks.Mark.TheVariants.{Core, Border, Noise}
use Rattle.plain_dbscan.specs.Chains.{IsLabel, IsAnchor}
use Rattle.plain_dbscan.specs.Marks.{Density, Entries, numbers_of, is_core}
use Rattle.plain_dbscan.specs.Marks.{is_near, near_of, size_of, is_near_vector, near_vector}
use Rattle.plain_dbscan.specs.Marks.{cluster_of, anchor_of, marks_of}
use Rattle.plain_dbscan.specs.Cases.{Listed, mark_at, mark_in, is_member_of}
use Rattle.plain_dbscan.specs.Index.{near}

-- The label of a core of the records.
abbrev pub HasLabel : Density → Entries → ℕ → ℕ → Type 0
HasLabel d rows a l = IsLabel (is_core d rows) (is_near d rows) a l

-- The anchor of a record that is no core.
abbrev pub HasAnchor : Density → Entries → ℕ → ℕ → Type 0
HasAnchor d rows a b = IsAnchor (is_core d rows) (is_near d rows) a b

-- A border is no core, and has the label of its anchor.
pub record IsBorder (d : Density) (rows : Entries) (a l : ℕ) : Type 0 where
  pub anchor : ℕ
  pub is_anchor : HasAnchor d rows a anchor
  pub label : HasLabel d rows anchor l

-- Noise is no core, and no core is near it.
pub record IsNoise (d : Density) (rows : Entries) (a : ℕ) : Type 0 where
  pub no_core : is_core d rows a ≡ false
  pub apart : (c : ℕ) → IsTrue (is_core d rows c) → is_near d rows a c ≡ false

-- What an entry of a list of marks says of its number.
abbrev pub MarkSays : Density → Entries → ℕ → Mark → Type 0
MarkSays d rows a (Core l) = IsTrue (is_core d rows a) × HasLabel d rows a l
MarkSays d rows a (Border l) = IsBorder d rows a l
MarkSays d rows a Noise = IsNoise d rows a

-- The list has the numbers of the records and no other, rising, and each entry says what is so.
pub record AreMarks (d : Density) (rows : Entries) (marks : Listed) : Type 0 where
  pub numbers : map (λ (m : ℕ × Mark). m.0) marks ≡ numbers_of rows
  pub rising : T (is_sorted nat_cmp marks)
  pub each : All (λ (m : ℕ × Mark). MarkSays d rows m.0 m.1) marks

-- The computed list is the one list of which this holds.
abbrev pub MarksAreLawful : Type 0
MarksAreLawful =
    (d : Density) (rows : Entries) → T (is_sorted nat_cmp rows)
    → (marks : Listed) → (marks ≡ marks_of d rows) ↔ AreMarks d rows marks

-- Each label in the list is that of a core which is listed with itself as its label. So such cores
-- are as many as the clusters.
abbrev pub ClustersAreNamed : Type 0
ClustersAreNamed =
    (d : Density) (rows : Entries) (a l : ℕ) → T (is_sorted nat_cmp rows)
    → IsTrue (is_member_of l (mark_in (marks_of d rows) a))
    → mark_at (marks_of d rows) l ≡ Some (Core l)

-- The computed label of a core is the least core that is joined with it, and 0 for what is no core.
pub record IsLabelled (d : Density) (rows : Entries) (a : ℕ) : Type 0 where
  pub core : IsTrue (is_core d rows a) → (l : ℕ) → (cluster_of d rows a ≡ l) ↔ HasLabel d rows a l
  pub other : is_core d rows a ≡ false → cluster_of d rows a ≡ 0

abbrev pub LabelsAreLeast : Type 0
LabelsAreLeast =
    (d : Density) (rows : Entries) (a : ℕ) → T (is_sorted nat_cmp rows) → IsLabelled d rows a

-- The computed anchor of a record that is no core is the least core near it, and none exactly where
-- no core is near. A core has none.
pub record IsAnchored (d : Density) (rows : Entries) (a : ℕ) : Type 0 where
  pub least : (b : ℕ) → (anchor_of d rows a ≡ Some b) ↔ HasAnchor d rows a b
  pub none : is_core d rows a ≡ false → (anchor_of d rows a ≡ None) ↔ IsNoise d rows a
  pub core : IsTrue (is_core d rows a) → anchor_of d rows a ≡ None

abbrev pub AnchorsAreLeast : Type 0
AnchorsAreLeast =
    (d : Density) (rows : Entries) (a : ℕ) → T (is_sorted nat_cmp rows) → IsAnchored d rows a

-- What is near a record is what is near its vector.
pub record IsNearBy (d : Density) (rows : Entries) (a : ℕ) (v : List ℕ) : Type 0 where
  pub each : (b : ℕ) → is_near d rows a b ≡ is_near_vector d rows v b
  pub all : near_of d rows a ≡ near_vector d rows v
  pub size : size_of d rows a ≡ length (near_vector d rows v)

abbrev pub NearByVectors : Type 0
NearByVectors =
    (d : Density) (rows : Entries) (a : ℕ) (v : List ℕ)
    → value_at nat_cmp a rows ≡ Some v → IsNearBy d rows a v

-- So an index over the records finds, around a record's vector, what is near the record.
abbrev pub IndexFindsNear : Type 0
IndexFindsNear =
    (d : Density) (rows : Rows) (a : ℕ) (v : List ℕ)
    → finite.get rows a ≡ Some v → near d.dist rows v d.eps ≡ near_of d (finite.entries rows) a
