-- Leaves are written as a page, and a page of leaves has one spelling.
use Rattle.std.proofs.Common.{ℕ, zero, suc, ◌-◌, ◌*◌, List, [], ◌∷◌, ◌++◌, length, set, replicate, refl, ◌∙◌, arith}
use Rattle.std.specs.List.{AllByRecursion, flat_map}
use Rattle.std.proofs.lemmas.List.{length-append, length-set}
use Rattle.vec_record.specs.Vectors.{AreBytes}
use Rattle.mtree_node.specs.Preorder.{LeafRow}
use Rattle.page_layout.specs.Fields.{word}
use Rattle.page_layout.specs.Leaves.{IsLeaf, AreLeaves, leaf_row_bytes, leaf_bytes, leaf_page}
use Rattle.page_layout.specs.Laws.{LeavesHaveOneSpelling, LeavesArePages}
use Rattle.page_layout.proofs.Runs.{length-run, bytes-append, bytes-zeros, bytes-word}
use Rattle.page_layout.proofs.LeafReads.{leaf_long}
use Rattle.page_layout.proofs.LeafLaws.{leaves_from, leaves_again}

bytes-rows : (rows : List LeafRow) → AreBytes (flat_map leaf_row_bytes rows)
bytes-rows [] = tt
bytes-rows (row ∷ rows) = bytes-append (leaf_row_bytes row) (flat_map leaf_row_bytes rows) (bytes-append (word row.0) (word row.1) (bytes-word row.0) (bytes-word row.1)) (bytes-rows rows)

bytes-leaf : (rows : List LeafRow) → AreBytes (leaf_bytes rows)
bytes-leaf rows =
    let entries : List ℕ = flat_map leaf_row_bytes rows in
    let rest : List ℕ = replicate (240 - 8 * length rows) 0 in
    bytes-append (word (length rows)) (replicate 12 0 ++ (entries ++ rest)) (bytes-word (length rows))
    (bytes-append (replicate 12 0) (entries ++ rest) (bytes-zeros 12) (bytes-append entries rest (bytes-rows rows) (bytes-zeros (240 - 8 * length rows))))

bytes-leaves : (leaves : List (List LeafRow)) → AreBytes (flat_map leaf_bytes leaves)
bytes-leaves [] = tt
bytes-leaves (rows ∷ leaves) = bytes-append (leaf_bytes rows) (flat_map leaf_bytes leaves) (bytes-leaf rows) (bytes-leaves leaves)

pub leaf_pages : LeavesArePages
unfolding leaf_page
leaf_pages = λ leaves are.
    let slots : List ℕ = flat_map leaf_bytes leaves in
    let tail : List ℕ = replicate 240 0 in
    record {
      len = omega (arith, length-append slots tail, length-run leaf_bytes IsLeaf 256 leaf_long leaves are.each, are.count);
      bytes = bytes-append (2 ∷ replicate 15 0) (slots ++ tail) (omega arith, bytes-zeros 15) (bytes-append slots tail (bytes-leaves leaves) (bytes-zeros 240));
    }

pub leaves_spelled : LeavesHaveOneSpelling
leaves_spelled = λ page leaves is. (λ said. leaves_from page leaves is.bytes is.len said, λ both. leaves_again page leaves both.0 both.1)

-- ---- for those who write leaves

each-set : (leaves : List (List LeafRow)) (slot : ℕ) (rows : List LeafRow) → AllByRecursion IsLeaf leaves → IsLeaf rows → AllByRecursion IsLeaf (set leaves slot rows)
each-set [] slot rows each is = tt
each-set (first ∷ leaves) zero rows each is = (is, each.1)
each-set (first ∷ leaves) (suc slot) rows each is = (each.0, each-set leaves slot rows each.1 is)

each-free : (n : ℕ) → AllByRecursion IsLeaf (replicate n [])
each-free zero = tt
each-free (suc n) = (record { few = omega arith; each = tt }, each-free n)

-- free slots are lawful, and so are leaves of which one is written
pub free_are_leaves : AreLeaves (replicate 63 [])
free_are_leaves = record { count = refl; each = each-free 63 }

pub set_are_leaves : (leaves : List (List LeafRow)) (slot : ℕ) (rows : List LeafRow) → AreLeaves leaves → IsLeaf rows → AreLeaves (set leaves slot rows)
set_are_leaves leaves slot rows are is = record { count = length-set leaves slot rows ∙ are.count; each = each-set leaves slot rows are.each is }
