-- Points in a list, and the records that they are. No public contract cites these.
use Rattle.std.specs.Prelude.{◌≡◌, ℕ, ◌<◌, Bool, List, Option, Some, None, length, map, nat_le, count_by, slice_index, slice_index_or}
use Rattle.std.specs.List.{All}
use Rattle.vec_record.specs.Vectors.{IsVector, IsWidth}
use Rattle.vec_record.specs.Table.{Table}
use Rattle.plain_dbscan.specs.declared.points.Point.{Point}
use Rattle.plain_dbscan.specs.declared.marks.Mark.{Mark}
use Rattle.plain_dbscan.specs.declared.marks.Mark.TheVariants.{Border, Noise}
use Rattle.plain_dbscan.specs.Marks.{Density, Entries, is_core}

-- the records that points are
abbrev pub entries_of : List Point → Entries
entries_of points = map (λ (p : Point). (p.number, p.vector.now)) points

-- a point has a vector of this width, which is a lawful one
pub record IsOfWidth (width : ℕ) (p : Point) : Type 0 where
  pub lawful : IsWidth width
  pub vector : IsVector width p.vector.now

-- so it is with each point
abbrev pub AreOfWidth : ℕ → List Point → Type 0
AreOfWidth width points = All (IsOfWidth width) points

-- the vectors of all points have one width
pub record OfOneWidth (points : List Point) : Type 0 where
  pub width : ℕ
  pub all : AreOfWidth width points

-- whether a point is at most eps from a vector
abbrev pub is_close : (List ℕ → List ℕ → ℕ) → ℕ → List ℕ → Point → Bool
is_close dist eps v p = nat_le (dist v p.vector.now) eps

-- rows are the vectors of points, which have their width
pub record ArePacked (points : List Point) (t : Table) : Type 0 where
  pub width : AreOfWidth t.width points
  pub rows : t.rows ≡ map (λ (p : Point). p.vector.now) points

-- whether a row is at most eps from a vector
abbrev pub is_near_row : (List ℕ → List ℕ → ℕ) → ℕ → List ℕ → List ℕ → Bool
is_near_row dist eps v row = nat_le (dist v row) eps

-- the size of each point: how many points are close to it
pub record ArePointSizes (d : Density) (points : List Point) (sizes : List ℕ) : Type 0 where
  pub lengths : length sizes ≡ length points
  pub each : (i : ℕ) (p : Point) → i < length points → p ≡ slice_index_or points i p → slice_index sizes i ≡ count_by (is_close d.dist d.eps p.vector.now) points

-- whether a point is a core of the records
abbrev pub is_core_point : Density → Entries → Point → Bool
is_core_point d rows p = is_core d rows p.number

-- a border with the label at a place, or noise
abbrev pub mark_by_place : List ℕ → Option ℕ → Mark
mark_by_place labels None = Noise
mark_by_place labels (Some j) = Border (slice_index labels j)
