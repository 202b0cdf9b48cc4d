-- Trees of places: each place has a parent that is not above it, and a root is its own parent.
use Rattle.std.specs.Prelude.{◌≡◌, ℕ, zero, suc, ◌<◌, ◌≤◌, List, [], ◌∷◌, length, map, slice_index}
use Rattle.std.specs.List.{range_with_len}
use Rattle.vec_record.specs.Table.{Table, row_at}
use Rattle.vec_record.specs.Asked.{near_at}
use Rattle.plain_dbscan.specs.Marks.{Entries, numbers_of}
use Rattle.plain_dbscan.specs.Merging.{merged}

-- no parent is above its place
abbrev pub AreParents : List ℕ → Type 0
AreParents parents = (k : ℕ) → k < length parents → slice_index parents k ≤ k

-- these are the roots of the trees of all places
pub record AreRoots (parents roots : List ℕ) : Type 0 where
  pub lengths : length roots ≡ length parents
  pub same : (k : ℕ) → k < length parents → slice_index roots (slice_index parents k) ≡ slice_index roots k
  pub lower : (k : ℕ) → k < length parents → slice_index roots k ≤ k
  pub own : (k : ℕ) → k < length parents → slice_index parents k ≡ k → slice_index roots k ≡ k

-- the roots once the tree of one place is joined with that of another
abbrev pub joined_pair : ℕ → ℕ → List ℕ → List ℕ
joined_pair i j roots = merged (slice_index roots i) (slice_index roots j) roots

-- and with those of several others
abbrev pub joined_each : ℕ → List ℕ → List ℕ → List ℕ
joined_each i [] roots = roots
joined_each i (j ∷ js) roots = joined_each i js (joined_pair i j roots)

-- the places before a row whose rows are near it
abbrev pub near_before : (List ℕ → List ℕ → ℕ) → ℕ → Table → ℕ → List ℕ
near_before dist eps t i = near_at dist (row_at t i) t eps (range_with_len 0 i)

-- the roots once each of the first n rows is joined with those before it that are near it
abbrev pub roots_of : (List ℕ → List ℕ → ℕ) → ℕ → Table → ℕ → List ℕ
roots_of dist eps t zero = range_with_len 0 (length t.rows)
roots_of dist eps t (suc n) = joined_each n (near_before dist eps t n) (roots_of dist eps t n)

-- the roots once each row is joined with those before it that are near it
abbrev pub all_roots : (List ℕ → List ℕ → ℕ) → ℕ → Table → List ℕ
all_roots dist eps t = roots_of dist eps t (length t.rows)

-- this is the root of a place
abbrev pub IsRootOf : List ℕ → ℕ → ℕ → Type 0
IsRootOf parents place root =
    (roots : List ℕ) → AreRoots parents roots → root ≡ slice_index roots place

-- the new parents have the roots that a function makes of those of the old ones
abbrev pub HaveRoots : List ℕ → List ℕ → (List ℕ → List ℕ) → Type 0
HaveRoots old new f = (roots : List ℕ) → AreRoots old roots → AreRoots new (f roots)

-- the number of the root of each place
abbrev pub AreRootNumbers : Entries → List ℕ → List ℕ → Type 0
AreRootNumbers es parents labels =
    (roots : List ℕ) → AreRoots parents roots → labels ≡ map (slice_index (numbers_of es)) roots
