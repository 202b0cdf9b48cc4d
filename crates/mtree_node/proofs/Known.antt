-- Objects that are known to be bytes.
use Rattle.std.proofs.Common.{◌≡◌, ℕ, ◌+◌, ◌<◌, ◌≤◌, List, [], ◌∷◌, length, drop, get_or, sym, subst, add-one}
use Rattle.std.specs.List.{AllByRecursion}
use Rattle.vec_record.specs.Vectors.{AreBytes}
use Rattle.mtree_node.specs.declared.shape.Shape.{Shape}
use Rattle.mtree_node.specs.declared.shape.Shape.TheVariants as shape
use Rattle.mtree_node.specs.Preorder.{InnerRow}
use Rattle.mtree_node.specs.Walk.{HasObjectsIn}
use Rattle.mtree_node.specs.Progress.{HasVectorsIn, IsInnerRow}
use Rattle.mtree_node.proofs.Rows.{next_row}

-- what holds of one element and of those behind it
pub all_from : {A : Type 0} (P : A → Type 0) (xs : List A) (i : ℕ) (x : A) → i < length xs → x ≡ get_or xs i x → P x → AllByRecursion P (drop (i + 1) xs) → AllByRecursion P (drop i xs)
all_from P xs i x few is here rest = rw (next_row xs i x few is) (here, subst (λ k. AllByRecursion P (drop k xs)) (add-one i) rest)

pub known_rows : (width greatest : ℕ) (rows : List InnerRow) → AllByRecursion (λ (row : InnerRow). (length row.3 ≡ width) × (row.2 ≤ greatest)) rows → AllByRecursion (λ (row : InnerRow). AreBytes row.3) rows → AllByRecursion (IsInnerRow width greatest) rows
known_rows width greatest [] a b = tt
known_rows width greatest (row ∷ rows) a b = ((record { len = a.0.0; bytes = b.0 }, a.0.1), known_rows width greatest rows a.1 b.1)

pub known_shape : (width greatest : ℕ) (s : Shape) (tag : ℕ) (rows : List InnerRow) → s ≡ shape.Inner tag rows → AllByRecursion (λ (row : InnerRow). AreBytes row.3) rows → HasObjectsIn width greatest s → HasVectorsIn width greatest s
known_shape width greatest s tag rows is bytes h = subst (HasVectorsIn width greatest) (sym is) (known_rows width greatest rows (subst (HasObjectsIn width greatest) is h) bytes)
