-- What is kept of the clusters of records, and what it has to do with the records.
use Rattle.std.specs.Prelude.{◌≡◌, ℕ, List, None, option_map, refl}
use Rattle.std.specs.Coded.{Coded, code_by, coded×, coded_ℕ}
use Rattle.std.specs.FinMap as map
use Rattle.vec_record.specs.Held.{Held, Rows}
use Rattle.plain_dbscan.specs.declared.marks.Mark.{Mark}
use Rattle.plain_dbscan.specs.Marks.{Density, density, marks_of}
use Rattle.mtree_node.specs.Preorder.{retagged}
use Rattle.mtree_index.specs.Plain.{PlainTree, plain_code}
use Rattle.mtree_index.specs.Tree.{contents}
use Rattle.count_book.specs.Counted.{Counted, counted_code}
use Rattle.label_book.specs.Labels.{Labels}
use Rattle.update_seed.specs.Books.{Fits, StandsFor}

-- How far a neighbour may be, a tree of the records, their counts and anchors beside how many make
-- a core, and the labels of the cores.
pub record Kept : Type 0 where
  pub eps : ℕ
  pub tree : PlainTree
  pub counts : Counted
  pub labels : Labels

-- It is stored as the tuple of its parts.
abbrev pub kept_code : Coded Kept
kept_code =
    code_by (ℕ × (PlainTree × (Counted × Labels)))
    (coded× coded_ℕ (coded× plain_code (coded× counted_code (map.code coded_ℕ coded_ℕ))))
    (λ k. (k.eps, (k.tree, (k.counts, k.labels))))
    (λ p. record { eps = p.0; tree = p.1.0; counts = p.1.1.0; labels = p.1.1.1 }) (λ _. refl)

-- What is kept, with these tags of the tree's nodes in preorder.
abbrev pub with_tags : List ℕ → Kept → Kept
with_tags tags k = record k {
  tree = record k.tree { root = option_map (retagged tags k.tree.height) k.tree.root };
}

-- Nothing is kept, for vectors of this width.
abbrev pub nothing_kept : ℕ → ℕ → ℕ → Kept
nothing_kept width eps minpts = record {
  eps = eps;
  tree = record { width = width; height = 0; root = None };
  counts = record { minpts = minpts; rows = map.empty };
  labels = map.empty;
}

-- No records of this width.
abbrev pub no_records : ℕ → Held
no_records width = record { width = width; vectors = map.empty }

-- The density of the clusters that are kept, by a distance.
abbrev pub density_in : (List ℕ → List ℕ → ℕ) → Kept → Density
density_in dist k = density dist k.eps k.counts.minpts

-- The tree holds the records, and the books have the form that books of these records have.
abbrev pub Fit : Held → Kept → Type 0
Fit records k = Fits k.tree.width (contents k.tree) records k.counts k.labels

-- Beside that each count, anchor and label is the one that is due to the records.
abbrev pub Stand : (List ℕ → List ℕ → ℕ) → Held → Kept → Type 0
Stand dist records k =
    StandsFor (density_in dist k) k.tree.width (contents k.tree) records k.counts k.labels

-- How far a neighbour may be, and how many make a core, are as they were.
pub record HasItsSetting (old new : Kept) : Type 0 where
  pub eps : new.eps ≡ old.eps
  pub minpts : new.counts.minpts ≡ old.counts.minpts

-- The marks of records, by the density of what is kept.
abbrev pub marks_in : (List ℕ → List ℕ → ℕ) → Kept → Rows → List (ℕ × Mark)
marks_in dist k rows = marks_of (density_in dist k) (map.entries rows)
