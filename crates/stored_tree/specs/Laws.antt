-- Laws over the definitions, and what pages have that may be read.
use Rattle.std.specs.Prelude.{◌≡◌, ℕ, Bool, List, get_or, Ok, IsTrue}
use Rattle.std.specs.List.{AllByRecursion}
use Rattle.vec_record.specs.Vectors.{IsVector}
use Rattle.mtree_node.specs.Preorder.{InnerRow}
use Rattle.mtree_index.specs.Plain.{PlainTree}
use Rattle.mtree_index.specs.Tree.{contents, IsLawful}
use Rattle.node_refs.specs.declared.pages.NodePage.{NodePage}
use Rattle.node_refs.specs.declared.pages.NodePage.TheVariants as page
use Rattle.node_refs.specs.Laws.{AreLaid}
use Rattle.stored_tree.specs.Shapes.{shapes_of, with_tags}
use Rattle.stored_tree.specs.Reading.{tree_in}

-- the objects of an inner page are vectors of a width
abbrev pub PageHasVectors : ℕ → NodePage → Type 0
PageHasVectors width page.Records = Unit {0}
PageHasVectors width (page.Leaves slots) = Unit {0}
PageHasVectors width (page.Inner rows) =
    AllByRecursion (λ (row : InnerRow). IsVector width row.3) rows

-- the objects of an inner page pass a test
abbrev pub PagePasses : (List ℕ → Bool) → NodePage → Type 0
PagePasses test page.Records = Unit {0}
PagePasses test (page.Leaves slots) = Unit {0}
PagePasses test (page.Inner rows) =
    AllByRecursion (λ (row : InnerRow). IsTrue (test row.3)) rows

-- a lawful tree whose nodes stand in pages at references, and nothing else, is read from the first of them as that tree
-- with the references for its tags
abbrev pub LaidTreesAreRead : Type 0
LaidTreesAreRead =
    (dist : List ℕ → List ℕ → ℕ) (most : ℕ → ℕ) (t : PlainTree) (pages : List NodePage)
    (refs : List ℕ) → IsLawful dist most t → AreLaid pages (shapes_of t) refs
    → tree_in dist t.width t.height (get_or refs 0 0) pages (contents t) ≡ Ok (with_tags refs t)
