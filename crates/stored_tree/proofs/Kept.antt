-- What holds of each routing object in the pages holds of each in the list of their nodes.
use Rattle.std.proofs.Common.{ℕ, zero, suc, ◌-◌, ◌/◌, ◌%◌, List, [], ◌∷◌, ◌++◌, map, get_or}
use Rattle.std.specs.Prelude.{Bool, IsTrue, nat_eq, nat_le}
use Rattle.std.specs.List.{AllByRecursion}
use Rattle.std.proofs.lemmas.Bool.{cond_both}
use Rattle.vec_record.specs.Vectors.{IsVector}
use Rattle.mtree_node.specs.Preorder.{InnerRow}
use Rattle.node_refs.specs.declared.pages.NodePage.{NodePage}
use Rattle.node_refs.specs.declared.pages.NodePage.TheVariants as page
use Rattle.node_refs.specs.declared.listing.Listed.{Listed}
use Rattle.node_refs.specs.Pages.{page_at, inner_in, inner_at, is_good, shape_in, shape_at}
use Rattle.node_refs.specs.Listing.{nothing, child_nodes, placed_rows, nodes_below, node_in, list_node, unreached, standing_at, listed}
use Rattle.node_refs.proofs.Kept.{all_append}
use Rattle.node_walks.specs.Alike.{HasObjects}
use Rattle.tree_objects.specs.Laws.{ShapesPass}
use Rattle.tree_objects.specs.Objects.{ShapeHasAll}
use Rattle.stored_tree.specs.Laws.{PageHasVectors, PagePasses}

all_get : {X : Type 0} (P : X → Type 0) (xs : List X) (i : ℕ) (d : X) → P d → AllByRecursion P xs → P (get_or xs i d)
all_get P [] i d past all = past
all_get P (x ∷ xs) zero d past all = all.0
all_get P (x ∷ xs) (suc i) d past all = all_get P xs i d past all.1

module _ (P : List ℕ → Type 0) where
  abbrev IsRow : InnerRow → Type 0
  IsRow row = P row.3

  -- each routing object of a page has the property
  abbrev PageHasAll : NodePage → Type 0
  PageHasAll page.Records = Unit {0}
  PageHasAll (page.Leaves slots) = Unit {0}
  PageHasAll (page.Inner rows) = AllByRecursion IsRow rows

  rows_in : (p : NodePage) → PageHasAll p → AllByRecursion IsRow (inner_in p)
  rows_in page.Records is = tt
  rows_in (page.Leaves slots) is = tt
  rows_in (page.Inner rows) is = is

  shape_has : (r : ℕ) (p : NodePage) → PageHasAll p → ShapeHasAll P (shape_in r p)
  shape_has r page.Records is = tt
  shape_has r (page.Leaves slots) is = tt
  shape_has r (page.Inner rows) is = is

  abbrev HaveObjects : Listed → Type 0
  HaveObjects l = AllByRecursion (ShapeHasAll P) l.shapes

  module _ (pages : List NodePage) where
    placed_have : (f : ℕ → List ℕ → Listed) (level : ℕ) (seen : List ℕ) (rows : List InnerRow) → AllByRecursion IsRow rows → AllByRecursion IsRow (placed_rows pages f level seen rows)
    placed_have f level seen [] all = tt
    placed_have f level seen (row ∷ rows) all = (all.0, placed_have f level (seen ++ (child_nodes pages f level seen row.0).refs) rows all.1)

    below_have : (f : ℕ → List ℕ → Listed) → ((r : ℕ) (seen : List ℕ) → HaveObjects (f r seen)) → (level : ℕ) (seen : List ℕ) (rows : List InnerRow) → HaveObjects (nodes_below pages f level seen rows)
    below_have f have level seen [] = tt
    below_have f have level seen (row ∷ rows) =
        let child = child_nodes pages f level seen row.0 in
        let rest = nodes_below pages f level (seen ++ child.refs) rows in
        all_append (ShapeHasAll P) child.shapes rest.shapes
        (cond_both (is_good level pages seen row.0) (f row.0 seen) nothing HaveObjects (λ _. have row.0 seen) (λ _. tt))
        (below_have f have level (seen ++ child.refs) rows)

    module _ (all : AllByRecursion PageHasAll pages) where
      page_has : (number : ℕ) → PageHasAll (page_at pages number)
      page_has number = cond_both (nat_le 2 number) (get_or pages (number - 2) page.Records) page.Records PageHasAll (λ _. all_get PageHasAll pages (number - 2) page.Records tt all) (λ _. tt)

      rows_at : (r : ℕ) → AllByRecursion IsRow (inner_at pages r)
      rows_at r =
          cond_both (nat_eq (r % 64) 0) (inner_in (page_at pages (r / 64))) [] (AllByRecursion IsRow)
          (λ _. rows_in (page_at pages (r / 64)) (page_has (r / 64))) (λ _. tt)

      shapes_have : (refs : List ℕ) → AllByRecursion (ShapeHasAll P) (map (shape_at pages) refs)
      shapes_have [] = tt
      shapes_have (r ∷ refs) = (shape_has r (page_at pages (r / 64)) (page_has (r / 64)), shapes_have refs)

      node_has : (h : ℕ) (f : ℕ → List ℕ → Listed) → ((r : ℕ) (seen : List ℕ) → HaveObjects (f r seen)) → (r : ℕ) (seen : List ℕ) → HaveObjects (node_in pages h f r seen)
      node_has zero f have r seen = (tt, tt)
      node_has (suc h) f have r seen =
          (placed_have f (suc h) (seen ++ r ∷ []) (inner_at pages r) (rows_at r), below_have f have (suc h) (seen ++ r ∷ []) (inner_at pages r))

      list_has : (h r : ℕ) (seen : List ℕ) → HaveObjects (list_node pages h r seen)
      list_has zero r seen = tt
      list_has (suc h) r seen = node_has h (list_node pages h) (list_has h) r seen

      listed_has : (height root : ℕ) → HaveObjects (listed pages height root)
      listed_has height root =
          let nodes = list_node pages height root [] in
          let rest = unreached pages nodes.refs in
          all_append (ShapeHasAll P) nodes.shapes (standing_at pages rest).shapes (list_has height root []) (shapes_have rest)

-- the listed objects are vectors of a width where the pages' are
pub vectors_are_kept : (width : ℕ) (pages : List NodePage) (height root : ℕ) → AllByRecursion (PageHasVectors width) pages → AllByRecursion (HasObjects width) (listed pages height root).shapes
vectors_are_kept width pages height root all = listed_has (IsVector width) pages all height root

-- the listed objects pass a test where the pages' do
pub passing_is_kept : (test : List ℕ → Bool) (pages : List NodePage) (height root : ℕ) → AllByRecursion (PagePasses test) pages → ShapesPass test (listed pages height root).shapes
passing_is_kept test pages height root all = listed_has (λ v. IsTrue (test v)) pages all height root
