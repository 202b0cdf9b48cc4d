-- What a change may cost, by the tree.
use Rattle.std.specs.Prelude.{ℕ, List, unwrap_or}
use Rattle.vec_record.specs.Held.{Held}
use Rattle.plain_dbscan.specs.Marks.{Density}
use Rattle.mtree_index.specs.Plain.{PlainTree}
use Rattle.mtree_index.specs.Tree.{query_cost, after_insertion}
use Rattle.mtree_index.specs.Shrinking.{after_removal}
use Rattle.insert_case.specs.Inserted as insertion
use Rattle.delete_case.specs.Deleted as deletion

-- The tree after a removal of a pair that it holds.
abbrev pub tree_without :
    (List ℕ → List ℕ → ℕ) → (ℕ → ℕ) → ℕ → List ℕ → PlainTree → PlainTree
tree_without dist most number v t = unwrap_or (after_removal dist most number v t) t

-- What was counted is at most the price of an insertion, by the tree after it.
abbrev pub IsInsertionPaid :
    (ℕ → ℕ) → Density → PlainTree → Held → ℕ → List ℕ → ℕ → ℕ → Type 0
IsInsertionPaid most d tree records number v steps steps' =
    let next = after_insertion d.dist most number v tree in
    insertion.IsPaid d (query_cost d.dist next) records number v steps steps'

-- What was counted is at most the price of a deletion, by the trees before and after it.
abbrev pub IsDeletionPaid : (ℕ → ℕ) → Density → PlainTree → Held → ℕ → ℕ → ℕ → Type 0
IsDeletionPaid most d tree records number steps steps' =
    let next = tree_without d.dist most number (deletion.vector_at records number) tree in
    deletion.IsPaid d (query_cost d.dist tree) (query_cost d.dist next) records number steps steps'
