-- How many rows of a table are near each row, and what is known of these counts while pairs are looked at.
use Rattle.std.specs.Prelude.{◌≡◌, ℕ, ◌+◌, ◌<◌, ◌≤◌, ◌^◌, ◌==◌, List, length, take, filter, count_by, slice_index}
use Rattle.vec_record.specs.Table.{Table, row_at}
use Rattle.plain_dbscan.specs.declared.points.Point.{Point}
use Rattle.plain_dbscan.specs.Marks.{Density}
use Rattle.plain_dbscan.specs.Points.{entries_of, is_near_row, is_core_point, ArePointSizes}

-- as many rows are near the row at a place
abbrev pub size_at : (List ℕ → List ℕ → ℕ) → ℕ → Table → ℕ → ℕ
size_at dist eps t k = count_by (is_near_row dist eps (row_at t k)) t.rows

-- as many of the first n rows are
abbrev pub size_among : (List ℕ → List ℕ → ℕ) → ℕ → Table → ℕ → ℕ → ℕ
size_among dist eps t n k = count_by (is_near_row dist eps (row_at t k)) (take n t.rows)

-- the size of each row
pub record AreSizes (dist : List ℕ → List ℕ → ℕ) (eps : ℕ) (t : Table) (sizes : List ℕ) : Type 0 where
  pub lengths : length sizes ≡ length t.rows
  pub each : (k : ℕ) → k < length t.rows → slice_index sizes k ≡ size_at dist eps t k

-- the first n rows have been paired with all rows behind them, and each row with itself
pub record ArePaired (dist : List ℕ → List ℕ → ℕ) (eps : ℕ) (t : Table) (sizes : List ℕ) (n : ℕ) : Type 0 where
  pub lengths : length sizes ≡ length t.rows
  pub done : (k : ℕ) → k < n → slice_index sizes k ≡ size_at dist eps t k
  pub open_ : (k : ℕ) → n ≤ k → k < length t.rows → slice_index sizes k ≡ 1 + size_among dist eps t n k

-- there is room to count so many more at each place
abbrev pub HaveRoom : List ℕ → ℕ → Type 0
HaveRoom sizes n = (k : ℕ) → k < length sizes → slice_index sizes k + n < 2 ^ 64

-- each size has grown by how often its place is among these
abbrev pub AreMore : List ℕ → List ℕ → List ℕ → Type 0
AreMore old new places =
    (k : ℕ) → k < length old → slice_index new k ≡ slice_index old k + count_by (λ q. q == k) places

-- the points that are cores, over every distance under which these are the sizes of all points
abbrev pub AreCoresBy : ℕ → List Point → List ℕ → List Point → Type 0
AreCoresBy minpts points sizes cores =
    (d : Density) → d.minpts ≡ minpts → ArePointSizes d points sizes
    → cores ≡ filter (is_core_point d (entries_of points)) points
