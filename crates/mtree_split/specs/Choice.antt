-- The pair that a split promotes.
use Rattle.std.specs.Prelude.{ℕ, ◌+◌, ◌*◌, ◌/◌, ◌%◌, max, nat_lt, if◌then◌else◌, true, false, Bool, List, slice_range, slice_index}
use Rattle.mtree_split.specs.declared.pair.Parting.{Parting}
use Rattle.mtree_split.specs.Least.{first_least, beyond}
use Rattle.mtree_split.specs.Sides.{sides_of, side_radius}

-- the distances from one entry, a row of the matrix
abbrev pub row_of : ℕ → List ℕ → ℕ → List ℕ
row_of count matrix i = slice_range matrix (i * count) (i * count + count)

-- the distance between two entries
abbrev pub distance_of : ℕ → List ℕ → ℕ → ℕ → ℕ
distance_of count matrix i j = slice_index matrix (i * count + j)

-- the greater radius of a parting
abbrev pub greater_radius : Parting → ℕ
greater_radius p = max p.left_radius p.right_radius

module _ (count : ℕ) (matrix radii : List ℕ) (greatest : ℕ) where
  -- a pair, the sides of its balanced parting and their radii, where it is known which entries go right
  abbrev pub with_radii : ℕ → ℕ → List Bool → Parting
  with_radii i j right = record {
    left = i;
    right = j;
    sides = right;
    left_radius = side_radius greatest (row_of count matrix i) radii right false;
    right_radius = side_radius greatest (row_of count matrix j) radii right true;
  }

  -- the balanced parting of a pair of positions
  unfoldable pub parting_of : ℕ → ℕ → Parting
  parting_of i j = with_radii i j (sides_of (row_of count matrix i) (row_of count matrix j))

  -- the rank of a place of the matrix, row by row: the greater radius of the pair that it stands for, and behind all of them where it stands for none
  unfoldable pub pair_rank : ℕ → ℕ
  pair_rank place = if nat_lt (place / count) (place % count) then greater_radius (parting_of (place / count) (place % count)) else beyond

  -- the chosen pair's parting. The places of the matrix come in the order of the pairs
  abbrev pub choice : Parting
  choice = let place = first_least pair_rank (count * count) in parting_of (place / count) (place % count)
