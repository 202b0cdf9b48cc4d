-- How the entries of a leaf lie in memory.
use Rattle.std.specs.Prelude.{ℕ, List, [], ◌∷◌}
use Rattle.mtree_node.specs.declared.node.LeafEntry.{LeafEntry}

-- the entries with these numbers, parent distances and vectors, place by place
abbrev pub entries_of : List ℕ → List ℕ → List (List ℕ) → List LeafEntry
entries_of [] ps vs = []
entries_of (n ∷ ns) [] vs = []
entries_of (n ∷ ns) (p ∷ ps) [] = []
entries_of (n ∷ ns) (p ∷ ps) (v ∷ vs) = record { number = n; vector = v; parent = p } ∷ entries_of ns ps vs
