-- What changes may cost one after another, by the tree that is kept.
use Rattle.std.specs.Prelude.{ℕ, ◌≤◌, List, [], ◌∷◌}
use Rattle.vec_record.specs.Held.{Held}
use Rattle.vec_record.specs.declared.change.Change.{Change}
use Rattle.vec_record.specs.declared.change.Change.TheVariants.{Insert, Delete}
use Rattle.plain_dbscan.specs.Marks.{Density}
use Rattle.mtree_index.specs.Plain.{PlainTree}
use Rattle.mtree_index.specs.Tree.{after_insertion}
use Rattle.delete_case.specs.Deleted.{vector_at}
use Rattle.kept_clusters.specs.Paid.{tree_without, IsInsertionPaid, IsDeletionPaid}
use Rattle.warehouse_core.specs.Work.{held_after}

-- the tree after one change
abbrev pub tree_after :
    (List ℕ → List ℕ → ℕ) → (ℕ → ℕ) → Held → Change → PlainTree → PlainTree
tree_after dist most records (Insert n v) tree = after_insertion dist most n v tree
tree_after dist most records (Delete n) tree =
    tree_without dist most n (vector_at records n) tree

-- the tree after changes, one after another
abbrev pub tree_after_all :
    (List ℕ → List ℕ → ℕ) → (ℕ → ℕ) → Held → List Change → PlainTree → PlainTree
tree_after_all dist most records [] tree = tree
tree_after_all dist most records (c ∷ cs) tree =
    tree_after_all dist most (held_after records c) cs (tree_after dist most records c tree)

-- what was counted is at most the price of one change
abbrev pub IsPaid : (ℕ → ℕ) → Density → PlainTree → Held → Change → ℕ → ℕ → Type 0
IsPaid most d tree records (Insert n v) steps steps' =
    IsInsertionPaid most d tree records n v steps steps'
IsPaid most d tree records (Delete n) steps steps' =
    IsDeletionPaid most d tree records n steps steps'

-- what was counted is at most the sum of the prices of the changes in order, each over the tree that the one before left
abbrev pub ArePaid : (ℕ → ℕ) → Density → PlainTree → Held → List Change → ℕ → ℕ → Type 0
ArePaid most d tree records [] steps steps' = steps' ≤ steps
ArePaid most d tree records (c ∷ cs) steps steps' =
    (between : ℕ) × (IsPaid most d tree records c steps between
    × ArePaid most d (tree_after d.dist most records c tree) (held_after records c) cs between steps')
