-- A tree that was laid in pages is read as that tree again.
use Rattle.std.proofs.Common.{◌≡◌, ℕ, zero, suc, ◌<◌, List, [], ◌∷◌, get_or, map, Option, Some, None, Ok, refl, sym, ap, ◌∙◌, arith}
use Rattle.std.specs.Prelude.{true, false}
use Rattle.std.specs.List.{AllByRecursion, AllZip}
use Rattle.std.specs.Option.{option_map}
use Rattle.std.specs.Ordering.{nat_cmp}
use Rattle.std.specs.FinMap.{from_entries}
use Rattle.vec_record.specs.Held.{Rows}
use Rattle.mtree_node.specs.declared.node.Node.{Node}
use Rattle.mtree_node.specs.Preorder.{size, preorder, retagged}
use Rattle.mtree_node.specs.Tree.{records, record_of, IsTree}
use Rattle.mtree_node.specs.Walk.{Builds, walk, start}
use Rattle.mtree_node.proofs.Complete.{trees_come_back}
use Rattle.mtree_node.proofs.Tags.{retagged_leaves, tags_are_free}
use Rattle.mtree_index.specs.Tree.{records_of, IsRoot}
use Rattle.node_refs.specs.declared.pages.NodePage.{NodePage}
use Rattle.node_refs.specs.declared.listing.Listed.{Listed}
use Rattle.node_refs.specs.Pages.{is_in, used_refs}
use Rattle.node_refs.specs.Faults.{fill_of, first_of}
use Rattle.node_refs.specs.Laws.{AreLaid, Stands, laid}
use Rattle.node_refs.proofs.Comes.{trees_are_listed, roots_are_used}
use Rattle.stored_tree.specs.Laws.{LaidTreesAreRead}
use Rattle.stored_tree.specs.Reading.{tree_with, tree_in, empty_unless}
use Rattle.stored_tree.specs.Shapes.{shapes_at}
use Rattle.stored_tree.proofs.Read.{ended, ended_is, at_zero, at_root}

-- where no shape stands, there are no references
no_refs : (pages : List NodePage) (refs : List ℕ) → AllZip (Stands pages refs) [] refs → refs ≡ []
no_refs pages [] all = refl
no_refs pages (r ∷ refs) all = absurd all

-- and where all used places are among none, none is used
none_used : (refs used : List ℕ) → refs ≡ [] → AllByRecursion (λ r. is_in refs r ≡ true) used → used ≡ []
none_used refs [] none all = refl
none_used refs (r ∷ used) none all = absurd (let in_none : false ≡ true = sym (ap (λ (xs : List ℕ). is_in xs r) none) ∙ all.0 in cc)

-- a well-formed tree has a level
some_level : (dist : List ℕ → List ℕ → ℕ) (width greatest h : ℕ) (n : Node) → IsTree dist width greatest h n → 0 < h
some_level dist width greatest zero n is = absurd is.node
some_level dist width greatest (suc h) n is = omega arith

module _ (dist : List ℕ → List ℕ → ℕ) (width greatest h : ℕ) (n : Node) (pages : List NodePage) (refs : List ℕ) (is : IsTree dist width greatest h n) (held : AreLaid pages (preorder h n) refs) where
  -- the tree with the references for its tags
  abbrev new : Node
  new = retagged refs h n

  abbrev nodes : Listed
  nodes = laid (preorder h new) refs

  same_records : records h new ≡ records h n
  same_records = ap (λ ls. from_entries {R = nat_cmp} (map record_of ls)) (retagged_leaves refs h 0 n)

  -- the walk over the listed nodes builds it
  walk_is : walk dist h None (start (preorder h new) (records h n)) ≡ Builds new (ended (size h new))
  walk_is =
      ap (λ (rows : Rows). walk dist h None (start (preorder h new) rows)) (sym same_records)
      ∙ trees_come_back dist width greatest h new (tags_are_free dist width greatest h n refs is)

  node_is_read : tree_in dist width h (get_or refs 0 0) pages (records h n) ≡ Ok (tree_with width h (Some new))
  node_is_read =
      let used = roots_are_used dist width greatest h n pages refs is held in
      let list = trees_are_listed dist width greatest h n pages refs is held in
      sym (at_root dist width h (get_or refs 0 0) pages (records h n) (some_level dist width greatest h n is) nodes used (sym list))
      ∙ ended_is width h nodes (walk dist h None (start (preorder h new) (records h n))) new (size h new) walk_is

-- at the height 0 no place is used
none_is_read : (dist : List ℕ → List ℕ → ℕ) (width h root : ℕ) (pages : List NodePage) (refs : List ℕ) (rows : Rows) → h ≡ 0 → AreLaid pages [] refs → tree_in dist width h root pages rows ≡ Ok (tree_with width h None)
none_is_read dist width h root pages refs rows low held =
    let none = none_used refs (used_refs pages) (no_refs pages refs held.stand) held.only in
    sym (at_zero dist width h root pages rows low)
    ∙ ap (λ (used : List ℕ). empty_unless width (fill_of pages (first_of used))) none
    ∙ ap (λ (k : ℕ). Ok (tree_with width k None)) (sym low)

root_is_read : (dist : List ℕ → List ℕ → ℕ) (width greatest h : ℕ) (root : Option Node) (pages : List NodePage) (refs : List ℕ) → IsRoot dist width greatest h root → AreLaid pages (shapes_at h root) refs
    → tree_in dist width h (get_or refs 0 0) pages (records_of h root) ≡ Ok (tree_with width h (option_map (retagged refs h) root))
root_is_read dist width greatest h None pages refs is held = none_is_read dist width h (get_or refs 0 0) pages refs (records_of h None) is held
root_is_read dist width greatest h (Some n) pages refs is held = node_is_read dist width greatest h n pages refs is held

pub laid_trees_are_read : LaidTreesAreRead
laid_trees_are_read dist most t pages refs is held = root_is_read dist t.width (most t.width) t.height t.root pages refs is.root held
