-- What the listed nodes keep of the pages: objects and radii, and one reference for each.
use Rattle.std.proofs.Common.{◌≡◌, ℕ, zero, suc, ◌-◌, ◌/◌, ◌%◌, ◌≤◌, List, [], ◌∷◌, ◌++◌, length, map, get_or, refl, ap, ◌∙◌, arith}
use Rattle.std.specs.Prelude.{nat_eq, nat_le}
use Rattle.std.specs.List.{AllByRecursion}
use Rattle.std.proofs.lemmas.Bool.{cond_both, lt-ltb}
use Rattle.std.proofs.lemmas.List.{length-map, map-append}
use Rattle.mtree_node.specs.Preorder.{InnerRow}
use Rattle.mtree_node.specs.declared.shape.Shape.{Shape}
use Rattle.mtree_node.specs.Walk.{HasObjectsIn}
use Rattle.node_refs.specs.declared.pages.NodePage.{NodePage}
use Rattle.node_refs.specs.declared.pages.NodePage.TheVariants as page
use Rattle.node_refs.specs.declared.listing.Listed.{Listed}
use Rattle.node_refs.specs.Pages.{page_at, inner_in, inner_at, is_good, shape_in, shape_at}
use Rattle.node_refs.specs.Listing.{nothing, child_nodes, placed_rows, nodes_below, node_in, list_node, unreached, standing_at, listed}
use Rattle.node_refs.specs.Laws.{PageHasObjectsIn, ObjectsAreKept, EachHasOne, TagsAreReferences, RootsAreFirst}
use Rattle.mtree_node.specs.Laws.{tag_of}

pub all_append : {X : Type 0} (P : X → Type 0) (xs ys : List X) → AllByRecursion P xs → AllByRecursion P ys → AllByRecursion P (xs ++ ys)
all_append P [] ys a b = b
all_append P (x ∷ xs) ys a b = (a.0, all_append P xs ys a.1 b)

all_get : {X : Type 0} (P : X → Type 0) (xs : List X) (i : ℕ) (d : X) → P d → AllByRecursion P xs → P (get_or xs i d)
all_get P [] i d past all = past
all_get P (x ∷ xs) zero d past all = all.0
all_get P (x ∷ xs) (suc i) d past all = all_get P xs i d past all.1

-- what all pages have, the page with a number has
page_has : (P : NodePage → Type 0) (pages : List NodePage) (number : ℕ) → P page.Records → AllByRecursion P pages → P (page_at pages number)
page_has P pages number none all = cond_both (nat_le 2 number) (get_or pages (number - 2) page.Records) page.Records P (λ _. all_get P pages (number - 2) page.Records none all) (λ _. none)

module _ (width greatest : ℕ) where
  abbrev IsRow : InnerRow → Type 0
  IsRow row = (length row.3 ≡ width) × (row.2 ≤ greatest)

  rows_in : (p : NodePage) → PageHasObjectsIn width greatest p → AllByRecursion IsRow (inner_in p)
  rows_in page.Records is = tt
  rows_in (page.Leaves slots) is = tt
  rows_in (page.Inner rows) is = is

  rows_at : (pages : List NodePage) (r : ℕ) → AllByRecursion (PageHasObjectsIn width greatest) pages → AllByRecursion IsRow (inner_at pages r)
  rows_at pages r all =
      cond_both (nat_eq (r % 64) 0) (inner_in (page_at pages (r / 64))) [] (AllByRecursion IsRow)
      (λ _. rows_in (page_at pages (r / 64)) (page_has (PageHasObjectsIn width greatest) pages (r / 64) tt all)) (λ _. tt)

  shape_has : (r : ℕ) (p : NodePage) → PageHasObjectsIn width greatest p → HasObjectsIn width greatest (shape_in r p)
  shape_has r page.Records is = tt
  shape_has r (page.Leaves slots) is = tt
  shape_has r (page.Inner rows) is = is

  shapes_have : (pages : List NodePage) (refs : List ℕ) → AllByRecursion (PageHasObjectsIn width greatest) pages → AllByRecursion (HasObjectsIn width greatest) (map (shape_at pages) refs)
  shapes_have pages [] all = tt
  shapes_have pages (r ∷ refs) all = (shape_has r (page_at pages (r / 64)) (page_has (PageHasObjectsIn width greatest) pages (r / 64) tt all), shapes_have pages refs all)

  abbrev HaveObjects : Listed → Type 0
  HaveObjects l = AllByRecursion (HasObjectsIn width greatest) l.shapes

  module _ (pages : List NodePage) where
    placed_have : (f : ℕ → List ℕ → Listed) (level : ℕ) (seen : List ℕ) (rows : List InnerRow) → AllByRecursion IsRow rows → AllByRecursion IsRow (placed_rows pages f level seen rows)
    placed_have f level seen [] all = tt
    placed_have f level seen (row ∷ rows) all = (all.0, placed_have f level (seen ++ (child_nodes pages f level seen row.0).refs) rows all.1)

    below_have : (f : ℕ → List ℕ → Listed) → ((r : ℕ) (seen : List ℕ) → HaveObjects (f r seen)) → (level : ℕ) (seen : List ℕ) (rows : List InnerRow) → HaveObjects (nodes_below pages f level seen rows)
    below_have f have level seen [] = tt
    below_have f have level seen (row ∷ rows) =
        let child = child_nodes pages f level seen row.0 in
        let rest = nodes_below pages f level (seen ++ child.refs) rows in
        all_append (HasObjectsIn width greatest) child.shapes rest.shapes
        (cond_both (is_good level pages seen row.0) (f row.0 seen) nothing HaveObjects (λ _. have row.0 seen) (λ _. tt))
        (below_have f have level (seen ++ child.refs) rows)

    module _ (all : AllByRecursion (PageHasObjectsIn width greatest) pages) where
      node_has : (h : ℕ) (f : ℕ → List ℕ → Listed) → ((r : ℕ) (seen : List ℕ) → HaveObjects (f r seen)) → (r : ℕ) (seen : List ℕ) → HaveObjects (node_in pages h f r seen)
      node_has zero f have r seen = (tt, tt)
      node_has (suc h) f have r seen =
          (placed_have f (suc h) (seen ++ r ∷ []) (inner_at pages r) (rows_at pages r all), below_have f have (suc h) (seen ++ r ∷ []) (inner_at pages r))

      list_has : (h r : ℕ) (seen : List ℕ) → HaveObjects (list_node pages h r seen)
      list_has zero r seen = tt
      list_has (suc h) r seen = node_has h (list_node pages h) (list_has h) r seen

pub objects_are_kept : ObjectsAreKept
objects_are_kept width greatest pages height root all =
    let nodes = list_node pages height root [] in
    let rest = unreached pages nodes.refs in
    all_append (HasObjectsIn width greatest) nodes.shapes (standing_at pages rest).shapes (list_has width greatest pages all height root []) (shapes_have width greatest pages rest all)

abbrev IsTagged : Listed → Type 0
IsTagged l = map tag_of l.shapes ≡ l.refs

module _ (pages : List NodePage) where
  tagged_append : (xs ys : List Shape) (rs qs : List ℕ) → map tag_of xs ≡ rs → map tag_of ys ≡ qs → map tag_of (xs ++ ys) ≡ rs ++ qs
  tagged_append xs ys rs qs a b = map-append tag_of xs ys ∙ ap (λ ts. ts ++ map tag_of ys) a ∙ ap (λ ts. rs ++ ts) b

  tagged_below : (f : ℕ → List ℕ → Listed) → ((r : ℕ) (seen : List ℕ) → IsTagged (f r seen)) → (level : ℕ) (seen : List ℕ) (rows : List InnerRow) → IsTagged (nodes_below pages f level seen rows)
  tagged_below f tagged level seen [] = refl
  tagged_below f tagged level seen (row ∷ rows) =
      let child = child_nodes pages f level seen row.0 in
      let rest = nodes_below pages f level (seen ++ child.refs) rows in
      tagged_append child.shapes rest.shapes child.refs rest.refs
      (cond_both (is_good level pages seen row.0) (f row.0 seen) nothing IsTagged (λ _. tagged row.0 seen) (λ _. refl))
      (tagged_below f tagged level (seen ++ child.refs) rows)

  tagged_in : (h : ℕ) (f : ℕ → List ℕ → Listed) → ((r : ℕ) (seen : List ℕ) → IsTagged (f r seen)) → (r : ℕ) (seen : List ℕ) → IsTagged (node_in pages h f r seen)
  tagged_in zero f tagged r seen = refl
  tagged_in (suc h) f tagged r seen = ap (λ ts. r ∷ ts) (tagged_below f tagged (suc h) (seen ++ r ∷ []) (inner_at pages r))

  tagged : (h r : ℕ) (seen : List ℕ) → IsTagged (list_node pages h r seen)
  tagged zero r seen = refl
  tagged (suc h) r seen = tagged_in h (list_node pages h) (tagged h) r seen

  tag_in : (r : ℕ) (p : NodePage) → tag_of (shape_in r p) ≡ r
  tag_in r page.Records = refl
  tag_in r (page.Leaves slots) = refl
  tag_in r (page.Inner rows) = refl

  tags_at : (refs : List ℕ) → map tag_of (map (shape_at pages) refs) ≡ refs
  tags_at [] = refl
  tags_at (r ∷ refs) = ap (λ (t : ℕ). t ∷ map tag_of (map (shape_at pages) refs)) (tag_in r (page_at pages (r / 64))) ∙ ap (λ ts. r ∷ ts) (tags_at refs)

pub tagged_length : (pages : List NodePage) (h r : ℕ) (seen : List ℕ) → length (list_node pages h r seen).shapes ≡ length (list_node pages h r seen).refs
tagged_length pages h r seen = omega (arith, length-map (list_node pages h r seen).shapes tag_of, ap length (tagged pages h r seen))

pub tags_are_references : TagsAreReferences
tags_are_references pages height root =
    let nodes = list_node pages height root [] in
    let rest = unreached pages nodes.refs in
    tagged_append pages nodes.shapes (map (shape_at pages) rest) nodes.refs rest (tagged pages height root []) (tags_at pages rest)

pub each_has_one : EachHasOne
each_has_one pages height root =
    let nodes = listed pages height root in
    omega (arith, length-map nodes.shapes tag_of, ap length (tags_are_references pages height root))

pub roots_are_first : RootsAreFirst
roots_are_first pages zero root some = absurd (omega (arith, some))
roots_are_first pages (suc zero) root some = refl
roots_are_first pages (suc (suc h)) root some = lt-ltb 1 (suc (suc h)) (omega arith)
