-- What a walk over references has listed.
use Rattle.std.proofs.Common.{◌≡◌, ℕ, zero, suc, ◌≤◌, List, [], ◌∷◌, ◌++◌, length, slice_set, refl, sym, ap, ◌∙◌, arith, append_assoc}
use Rattle.std.proofs.lemmas.List.{set_at}
use Rattle.mtree_node.specs.Preorder.{InnerRow}
use Rattle.mtree_node.specs.declared.shape.Shape.{Shape}
use Rattle.mtree_node.specs.declared.shape.Shape.TheVariants as shape
use Rattle.node_refs.specs.declared.pages.NodePage.{NodePage}
use Rattle.node_refs.specs.declared.listing.Listed.{Listed}
use Rattle.node_refs.specs.Pages.{inner_at}
use Rattle.node_refs.specs.Listing.{join, nothing, put_first, placed, child_place, child_nodes, placed_rows, nodes_below, list_node}
use Rattle.node_refs.specs.Laws.{laid}

pub join_assoc : (a b c : Listed) → join (join a b) c ≡ join a (join b c)
join_assoc a b c =
    ap (λ (xs : List Shape). laid xs (a.refs ++ b.refs ++ c.refs)) (append_assoc a.shapes b.shapes c.shapes)
    ∙ ap (λ (rs : List ℕ). laid (a.shapes ++ (b.shapes ++ c.shapes)) rs) (append_assoc a.refs b.refs c.refs)

module _ (pages : List NodePage) (f : ℕ → List ℕ → Listed) (level : ℕ) (before after : Listed) (row : InnerRow) (rest : List InnerRow) (is : after ≡ join before (child_nodes pages f level before.refs row.0)) where
  -- one child more is listed
  pub nodes_more : (whole : Listed) → join before (nodes_below pages f level before.refs (row ∷ rest)) ≡ whole → join after (nodes_below pages f level after.refs rest) ≡ whole
  nodes_more whole was =
      let node = child_nodes pages f level before.refs row.0 in
      ap (λ (p : Listed). join p (nodes_below pages f level p.refs rest)) is
      ∙ join_assoc before node (nodes_below pages f level (before.refs ++ node.refs) rest)
      ∙ was

  -- one row more has its child's place
  pub rows_more : (out next : List InnerRow) (place : ℕ) → place ≡ child_place pages level before.refs row.0 → next ≡ out ++ placed place row ∷ []
      → (whole : List InnerRow) → out ++ placed_rows pages f level before.refs (row ∷ rest) ≡ whole → next ++ placed_rows pages f level after.refs rest ≡ whole
  rows_more out next place at pushed whole was =
      let node = child_nodes pages f level before.refs row.0 in
      let later = λ (refs : List ℕ). placed_rows pages f level refs rest in
      ap (λ (xs : List InnerRow). xs ++ later after.refs) pushed
      ∙ append_assoc out (placed place row ∷ []) (later after.refs)
      ∙ ap (λ (p : ℕ). out ++ placed p row ∷ later after.refs) at
      ∙ ap (λ (l : Listed). out ++ placed (child_place pages level before.refs row.0) row ∷ later l.refs) is
      ∙ was

-- an inner node, with its level
pub inner_is : (pages : List NodePage) (level k r : ℕ) (seen : List ℕ) → level ≡ suc k → 1 ≤ k
    → list_node pages level r seen
    ≡ put_first r (shape.Inner r (placed_rows pages (list_node pages k) k (seen ++ r ∷ []) (inner_at pages r))) (nodes_below pages (list_node pages k) k (seen ++ r ∷ []) (inner_at pages r))
inner_is pages level zero r seen is above = absurd (omega (arith, above))
inner_is pages level (suc h) r seen is above = ap (λ (l : ℕ). list_node pages l r seen) is

-- a node that was put in its place behind the nodes below it
pub put_in : (before first second after : Listed) (r : ℕ) (empty node : Shape) (below : Listed) → first ≡ join before (put_first r empty nothing) → second ≡ join first below
    → after.refs ≡ second.refs → after.shapes ≡ slice_set second.shapes (length before.shapes) node → after ≡ join before (put_first r node below)
put_in before first second after r empty node below one two refs shapes =
    let both : second ≡ join (join before (put_first r empty nothing)) below = two ∙ ap (λ (l : Listed). join l below) one in
    let all = both ∙ join_assoc before (put_first r empty nothing) below in
    let new = shapes ∙ ap (λ (l : Listed). slice_set l.shapes (length before.shapes) node) all ∙ set_at before.shapes empty below.shapes node (length before.shapes) refl in
    let same = refs ∙ ap (λ (l : Listed). l.refs) all in
    ap (λ (xs : List Shape). laid xs after.refs) new ∙ ap (λ (rs : List ℕ). laid (before.shapes ++ node ∷ below.shapes) rs) same

-- an inner node and the nodes below it were listed
pub inner_listed : (pages : List NodePage) (level k r : ℕ) → level ≡ suc k → 1 ≤ k → (before first second after : Listed) (empty : Shape) (rows places : List InnerRow) (at : ℕ)
    → first ≡ join before (put_first r empty nothing)
    → rows ≡ inner_at pages r
    → places ≡ placed_rows pages (list_node pages k) k first.refs rows
    → second ≡ join first (nodes_below pages (list_node pages k) k first.refs rows)
    → after.refs ≡ second.refs → at ≡ length before.shapes → after.shapes ≡ slice_set second.shapes at (shape.Inner r places)
    → after ≡ join before (list_node pages level r before.refs)
inner_listed pages level k r is above before first second after empty rows places at one rows_are placed two refs here shapes =
    let f = list_node pages k in
    let below = λ (seen : List ℕ) (xs : List InnerRow). nodes_below pages f k seen xs in
    let node = λ (seen : List ℕ) (xs : List InnerRow). put_first r (shape.Inner r (placed_rows pages f k seen xs)) (below seen xs) in
    let seen : first.refs ≡ before.refs ++ r ∷ [] = ap (λ (l : Listed). l.refs) one in
    let put = put_in before first second after r empty (shape.Inner r places) (below first.refs rows) one two refs (shapes ∙ ap (λ (n : ℕ). slice_set second.shapes n (shape.Inner r places)) here) in
    put
    ∙ ap (λ (ps : List InnerRow). join before (put_first r (shape.Inner r ps) (below first.refs rows))) placed
    ∙ ap (λ (xs : List ℕ). join before (node xs rows)) seen
    ∙ ap (λ (xs : List InnerRow). join before (node (before.refs ++ r ∷ []) xs)) rows_are
    ∙ ap (join before) (sym (inner_is pages level k r before.refs is above))
