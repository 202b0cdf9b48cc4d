-- What the functions of the walk promise to one another: where the walk stands, and what it may compute. The public contracts say less.
use Rattle.std.specs.Prelude.{◌≡◌, ℕ, ◌+◌, ◌*◌, ◌<◌, ◌≤◌, List, drop, length, Option, Some}
use Rattle.std.specs.List.{AllByRecursion}
use Rattle.vec_record.specs.Vectors.{IsVector}
use Rattle.mtree_node.specs.declared.shape.Shape.{Shape}
use Rattle.mtree_node.specs.declared.shape.Shape.TheVariants as shape
use Rattle.mtree_node.specs.declared.progress.Progress.{Progress}
use Rattle.mtree_node.specs.Preorder.{InnerRow}
use Rattle.mtree_node.specs.Walk.{Standing}

-- where a walk stands that has these shapes before it
abbrev pub standing : List Shape → Progress → Standing
standing rest p = record { next = p.next; rest = rest; left = p.left.vectors }

-- the shapes that a walk has before it
abbrev pub ahead : List Shape → Progress → List Shape
ahead shapes p = drop p.next shapes

-- an object that stands above has the width
abbrev pub IsOver : ℕ → Option (List ℕ) → Type 0
IsOver width over = (object : List ℕ) → over ≡ Some object → length object ≡ width

abbrev pub IsInnerRow : ℕ → ℕ → InnerRow → Type 0
IsInnerRow width greatest row = IsVector width row.3 × (row.2 ≤ greatest)

-- the objects are vectors of the width, and no radius is above the greatest distance
abbrev pub HasVectorsIn : ℕ → ℕ → Shape → Type 0
HasVectorsIn width greatest (shape.Leaf tag rows) = Unit {0}
HasVectorsIn width greatest (shape.Inner tag rows) = AllByRecursion (IsInnerRow width greatest) rows

-- what a node and all below it may compute, on a level this far above the leaves, when it has named so many records: one distance for each record, and for each level above 8 for 7 records
abbrev pub IsWhole : (above named computed : ℕ) → Type 0
IsWhole above named computed = 7 * computed ≤ 7 * named + 8 * (above * named)

-- the same where the walk stops below: one more for each level above, and with fewer than 7 named no child was done
pub record IsPart (above named computed : ℕ) : Type 0 where
  pub most : 7 * computed ≤ 7 * named + 8 * (above * named) + 7 * above
  pub few : named < 7 → computed ≤ named + above
