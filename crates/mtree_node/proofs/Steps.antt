-- One step of the walk, as its functions take it: the shape of the next node, and the child of an entry.
use Rattle.std.proofs.Common.{◌≡◌, ℕ, zero, suc, ◌+◌, ◌-◌, ◌<◌, ◌≤◌, true, false, List, [], ◌∷◌, length, get_or, drop, Option, Some, sym, ap, ◌∙◌, add-one, arith}
use Rattle.std.specs.List.{AllByRecursion}
use Rattle.std.specs.FinMap as finite
use Rattle.std.proofs.lemmas.List.{drop_more}
use Rattle.vec_record.specs.Held.{Rows, HaveWidth}
use Rattle.mtree_node.specs.declared.node.Node.{Node}
use Rattle.mtree_node.specs.declared.node.Node.TheVariants as node
use Rattle.mtree_node.specs.declared.shape.Shape.{Shape}
use Rattle.mtree_node.specs.declared.shape.Shape.TheVariants as shape
use Rattle.mtree_node.specs.declared.shape.BadWhat.TheVariants as bad
use Rattle.mtree_node.specs.declared.progress.Progress.{Progress}
use Rattle.mtree_node.specs.Preorder.{LeafRow, InnerRow}
use Rattle.mtree_node.specs.Tree.{leaves}
use Rattle.mtree_node.specs.Walk.{Fails, Builds, go_on, walk_all, walk_leaf_row, walk_inner_row, walk_shape, walk_in, walk, bad_place, is_filled, is_of_level}
use Rattle.mtree_node.specs.Progress.{standing, ahead, HasVectorsIn, IsWhole}
use Rattle.mtree_node.proofs.Whole.{part_of}
use Rattle.mtree_node.proofs.Bounds.{IsEntry, entry_built}

-- what holds of all holds of those from a place on
pub all_drop : {X : Type 0} (P : X → Type 0) (xs : List X) (n : ℕ) → AllByRecursion P xs → AllByRecursion P (drop n xs)
all_drop P xs zero all = all
all_drop P [] (suc n) all = all
all_drop P (x ∷ xs) (suc n) all = all_drop P xs n all.1

-- where a shape is of a level, there is one
pub shape_there : (level : ℕ) (shapes : List Shape) (next : ℕ) → is_of_level level (drop next shapes) ≡ true → next < length shapes
shape_there level [] zero is = absurd (cc)
shape_there level [] (suc n) is = absurd (cc)
shape_there level (x ∷ xs) zero is = omega arith
shape_there level (x ∷ xs) (suc n) is = omega (arith, shape_there level xs n is)

-- the walk of the node whose shape stands at the next place
module _ (dist : List ℕ → List ℕ → ℕ) (level : ℕ) (over : Option (List ℕ)) (shapes : List Shape) (next : ℕ) (left : Rows) (here : Shape) where
  node_here : 1 ≤ level → next < length shapes → here ≡ get_or shapes next here → walk dist level over (record { next = next; rest = drop next shapes; left = left }) ≡ walk_shape dist (level - 1) (λ object t. walk dist (level - 1) (Some object) t) (leaves (level - 1)) over next here (record { next = next + 1; rest = drop (next + 1) shapes; left = left })
  node_here some within is =
      let one : level ≡ suc (level - 1) = omega arith in
      let ahead : drop next shapes ≡ here ∷ drop (next + 1) shapes = drop_more shapes next here within ∙ ap (λ x. x ∷ drop (next + 1) shapes) (sym is) in
      ap (λ k. walk dist k over (record { next = next; rest = drop next shapes; left = left })) one
      ∙ (ap (λ xs. walk_in dist (level - 1) (λ object t. walk dist (level - 1) (Some object) t) (leaves (level - 1)) over next left xs) ahead
      ∙ ap (λ n. walk_shape dist (level - 1) (λ object t. walk dist (level - 1) (Some object) t) (leaves (level - 1)) over next here (record { next = n; rest = drop (next + 1) shapes; left = left })) (sym (add-one next)))

  pub leaf_here : (tag : ℕ) (rows : List LeafRow) → 1 ≤ level → is_of_level level (drop next shapes) ≡ true → here ≡ get_or shapes next here → here ≡ shape.Leaf tag rows → is_filled over 1 (length rows) ≡ true → walk dist level over (record { next = next; rest = drop next shapes; left = left }) ≡ go_on (walk_all (walk_leaf_row dist next over) 0 rows (record { next = next + 1; rest = drop (next + 1) shapes; left = left })) (λ es t. Builds (node.Leaf tag es) t)
  leaf_here tag rows some of_level is leaf filled = rw (node_here some (shape_there level shapes next of_level) is, leaf, filled)

  pub inner_here : (tag : ℕ) (rows : List InnerRow) → 1 ≤ level → is_of_level level (drop next shapes) ≡ true → here ≡ get_or shapes next here → here ≡ shape.Inner tag rows → is_filled over 2 (length rows) ≡ true → walk dist level over (record { next = next; rest = drop next shapes; left = left }) ≡ go_on (walk_all (walk_inner_row dist (level - 1) (λ object t. walk dist (level - 1) (Some object) t) (leaves (level - 1)) next over) 0 rows (record { next = next + 1; rest = drop (next + 1) shapes; left = left })) (λ es t. Builds (node.Inner tag es) t)
  inner_here tag rows some of_level is inner filled = rw (node_here some (shape_there level shapes next of_level) is, inner, filled)

  pub inner_unfilled : (tag : ℕ) (rows : List InnerRow) → 1 ≤ level → is_of_level level (drop next shapes) ≡ true → here ≡ get_or shapes next here → here ≡ shape.Inner tag rows → is_filled over 2 (length rows) ≡ false → walk dist level over (record { next = next; rest = drop next shapes; left = left }) ≡ Fails (bad_place next 0 bad.Fill)
  inner_unfilled tag rows some of_level is inner filled = rw (node_here some (shape_there level shapes next of_level) is, inner, filled)

-- an entry whose child was walked, and whose radius was compared with the records below
module _ (dist : List ℕ → List ℕ → ℕ) (width greatest level : ℕ) (object : List ℕ) (shapes : List Shape) (p q : Progress) (n : Node) (widths : HaveWidth width p.left.vectors) (objects : AllByRecursion (HasVectorsIn width greatest) shapes) (of_level : is_of_level level (ahead shapes p) ≡ true) (is : walk dist level (Some object) (standing (ahead shapes p) p) ≡ Builds n (standing (ahead shapes q) q)) where
  pub child_width : HaveWidth width q.left.vectors
  child_width = (part_of dist width greatest level object (standing (ahead shapes p) p) (standing (ahead shapes q) q) n widths (all_drop (HasVectorsIn width greatest) shapes p.next objects) of_level is).2

  pub child_entry : (began first second steps : ℕ) → 1 ≤ level → first ≤ began + 1 → IsWhole (level - 1) (finite.len p.left.vectors - finite.len q.left.vectors) (second - first) → steps ≤ second + length (leaves level n)
      → IsEntry level (finite.len p.left.vectors) (finite.len q.left.vectors) began steps
  child_entry began first second steps some one whole last =
      let below = part_of dist width greatest level object (standing (ahead shapes p) p) (standing (ahead shapes q) q) n widths (all_drop (HasVectorsIn width greatest) shapes p.next objects) of_level is in
      entry_built level (finite.len p.left.vectors) (finite.len q.left.vectors) (length (leaves level n)) began first second steps some below.0 below.1 one whole last
