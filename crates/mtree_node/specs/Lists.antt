-- The parts of the entries of a leaf, in their order.
use Rattle.std.specs.Prelude.{◌≡◌, ℕ, List, length, map}
use Rattle.std.specs.List.{AllByRecursion}
use Rattle.mtree_node.specs.declared.node.LeafEntry.{LeafEntry}

abbrev pub numbers_of : List LeafEntry → List ℕ
numbers_of es = map (λ e. e.number) es

abbrev pub parents_of : List LeafEntry → List ℕ
parents_of es = map (λ e. e.parent) es

abbrev pub vectors_of : List LeafEntry → List (List ℕ)
vectors_of es = map (λ e. e.vector) es

-- each vector has this width
abbrev pub HaveVectorsOf : ℕ → List LeafEntry → Type 0
HaveVectorsOf width es = AllByRecursion (λ e. length e.vector ≡ width) es

-- the entry with the parent distance 0, as in a root
abbrev pub without_parent : LeafEntry → LeafEntry
without_parent e = record { number = e.number; vector = e.vector; parent = 0 }
