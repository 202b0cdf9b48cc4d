-- A tree that pages hold is listed as its preorder, with the references for the tags.
use Rattle.std.proofs.Common.{◌≡◌, ℕ, zero, suc, ◌+◌, ◌<◌, ◌≤◌, Bool, true, false, List, [], ◌∷◌, ◌++◌, length, map, take, drop, sum_by, slice_index, Option, Some, None, refl, sym, ap, subst, ◌∙◌, ⊎_elim, arith}
use Rattle.std.specs.Prelude.{not, nat_eq}
use Rattle.std.specs.List.{AllByRecursion, AllZip, filter}
use Rattle.std.proofs.lemmas.Bool.{cases_lt, and_from, not_from_false, not_from_true, cond-true, cond-false, lt-ltb, ne_eqb, eq-eqb}
use Rattle.std.proofs.lemmas.List.{drop_more, drop_all, take_more, take_all, drop-drop, length-map, length-take-le, append-nil}
use Rattle.std.proofs.lemmas.List.Sums.{sum_by-cons}
use Rattle.std.proofs.Math.Seq.{take-add}
use Rattle.mtree_node.specs.declared.node.InnerEntry.{InnerEntry, out-InnerEntry}
use Rattle.mtree_node.specs.declared.node.Node.{Node, out-Node}
use Rattle.mtree_node.specs.declared.node.Node.TheOpen.{Node-F}
use Rattle.mtree_node.specs.declared.shape.Shape.{Shape}
use Rattle.mtree_node.specs.declared.shape.Shape.TheVariants as shape
use Rattle.mtree_node.specs.Layer.{Layer, EntryLayer}
use Rattle.mtree_node.specs.Tree.{leaves, IsFilled, IsInnerEntry, IsNode, IsNodeIn}
use Rattle.mtree_node.specs.Preorder.{LeafRow, InnerRow, size, size_in, leaf_row, inner_row, inner_rows, shapes_in, shapes_below, shapes_from, preorder, retagged_entry, retagged_below, retagged_in, retagged_from, retagged}
use Rattle.mtree_node.proofs.Opened.{out_inner, out_leaf, out_roll}
use Rattle.mtree_node.proofs.Sizes.{child_size, shapes_length}
use Rattle.mtree_node.proofs.Tags.{retagged_size}
use Rattle.node_refs.specs.declared.pages.NodePage.{NodePage}
use Rattle.node_refs.specs.declared.listing.Listed.{Listed}
use Rattle.node_refs.specs.Pages.{leaf_at, inner_at, is_used, is_in, is_good, used_refs}
use Rattle.node_refs.specs.Listing.{join, nothing, put_first, placed, child_place, child_nodes, placed_rows, nodes_below, node_in, list_node, unreached, standing_at, with_unreached}
use Rattle.node_refs.specs.Laws.{AreOnce, referring, Stands, laid, TreesAreListed, RootsAreUsed}
use Rattle.node_refs.proofs.Once.{fresh}

-- the entry with another child, when it is opened
abbrev with_child : (Node → Node) → EntryLayer → EntryLayer
with_child f e = record { object = e.object; radius = e.radius; parent = e.parent; child = f e.child }

opened_entry : (f : Node → Node) (e : EntryLayer) → out-InnerEntry (retagged_entry f e) ≡ with_child f e
opened_entry f e = out_roll (with_child f e)

module _ (pages : List NodePage) (refs : List ℕ) where
  -- shapes stand at the references from one on
  abbrev pub StandFrom : ℕ → List Shape → Type 0
  StandFrom at [] = Unit {0}
  StandFrom at (s ∷ shapes) = Stands pages refs s (slice_index refs at) × StandFrom (at + 1) shapes

  more_refs : (r : ℕ) (rs : List ℕ) (at : ℕ) → r ∷ rs ≡ drop at refs → (r ≡ slice_index refs at) × (rs ≡ drop (at + 1) refs)
  more_refs r rs at is = ⊎_elim
      (λ inside. let both : r ∷ rs ≡ slice_index refs at ∷ drop (at + 1) refs = is ∙ drop_more refs at 0 inside in (let first : r ≡ slice_index refs at = cc in first, let rest : rs ≡ drop (at + 1) refs = cc in rest))
      (λ over. absurd (let none : r ∷ rs ≡ [] = is ∙ drop_all at refs over in cc))
      (cases_lt at (length refs))

  stand_from : (shapes : List Shape) (rs : List ℕ) (at : ℕ) → rs ≡ drop at refs → AllZip (Stands pages refs) shapes rs → StandFrom at shapes
  stand_from [] rs at is all = tt
  stand_from (s ∷ shapes) [] at is all = absurd all
  stand_from (s ∷ shapes) (r ∷ rs) at is all =
      let next = more_refs r rs at is in
      (subst (Stands pages refs s) next.0 all.0, stand_from shapes rs (at + 1) next.1 all.1)

  first_part : (xs ys : List Shape) (at : ℕ) → StandFrom at (xs ++ ys) → StandFrom at xs
  first_part [] ys at all = tt
  first_part (x ∷ xs) ys at all = (all.0, first_part xs ys (at + 1) all.1)

  second_part : (xs ys : List Shape) (at next : ℕ) → next ≡ at + length xs → StandFrom at (xs ++ ys) → StandFrom next ys
  second_part [] ys at next is all = subst (λ (k : ℕ). StandFrom k ys) (let same : at ≡ next = omega (arith, is) in same) all
  second_part (x ∷ xs) ys at next is all = second_part xs ys (at + 1) next (omega (arith, is)) all.1

  -- the references from a place on, one and then more
  one_ref : (at : ℕ) → at < length refs → take 1 (drop at refs) ≡ slice_index refs at ∷ []
  one_ref at inside = ap (take 1) (drop_more refs at 0 inside)

  some_refs : (at few more : ℕ) → take (few + more) (drop at refs) ≡ take few (drop at refs) ++ take more (drop (at + few) refs)
  some_refs at few more = take-add few more (drop at refs) ∙ ap (λ xs. take few (drop at refs) ++ take more xs) (drop-drop few at refs)

  module _ (dist : List ℕ → List ℕ → ℕ) (width greatest : ℕ) (once : AreOnce refs) where
    abbrev Below : ℕ → List ℕ → Node → Type 0
    Below h object n = IsNode dist width greatest h (Some object) n

    abbrev IsEntry : ℕ → Option (List ℕ) → InnerEntry → Type 0
    IsEntry h over e = IsInnerEntry dist width greatest (Below h) (leaves h) over (out-InnerEntry e)

    -- what is to be listed for a node
    abbrev nodes_of : ℕ → ℕ → Node → Listed
    nodes_of h at n = laid (shapes_from h at (retagged_from refs h at n)) (take (size h n) (drop at refs))

    abbrev IsListed : ℕ → Type 0
    IsListed h = (over : Option (List ℕ)) (at : ℕ) (n : Node) → IsNode dist width greatest h over n → at + size h n ≤ length refs → StandFrom at (shapes_from h at n)
        → list_node pages h (slice_index refs at) (take at refs) ≡ nodes_of h at n

    abbrev IsAtUsed : ℕ → Type 0
    IsAtUsed h = (over : Option (List ℕ)) (at : ℕ) (n : Node) → IsNode dist width greatest h over n → StandFrom at (shapes_from h at n) → is_used h pages (slice_index refs at) ≡ true

    some_size : (h : ℕ) (over : Option (List ℕ)) (n : Layer) → 1 ≤ size_in (size h) n
    some_size h over (Node-F.Leaf tag es) = omega arith
    some_size h over (Node-F.Inner tag es) = omega arith

    some_node : (h : ℕ) (over : Option (List ℕ)) (n : Node) → IsNode dist width greatest h over n → 1 ≤ size h n
    some_node zero over n is = absurd is
    some_node (suc h) over n is = some_size h over (out-Node n)

    -- ---- the place of a node is used

    filled : (over : Option (List ℕ)) (low entries : ℕ) → 1 ≤ low → IsFilled over low entries → 1 ≤ entries
    filled None low entries some is = omega (arith, is.0)
    filled (Some object) low entries some is = omega (arith, is.0)

    length_rows : (sizes : Node → ℕ) (at : ℕ) (es : List InnerEntry) → length (inner_rows sizes at es) ≡ length es
    length_rows sizes at [] = refl
    length_rows sizes at (e ∷ es) = ap suc (length_rows sizes (at + sizes (out-InnerEntry e).child) es)

    used_leaf : (h r : ℕ) (rows : List LeafRow) → h ≡ 0 → leaf_at pages r ≡ rows → 1 ≤ length rows → is_used (suc h) pages r ≡ true
    used_leaf h r rows level is some =
        cond-true (nat_eq (suc h) 1) _ _ (eq-eqb (suc h) 1 (omega (arith, level))) ∙ lt-ltb 0 (length (leaf_at pages r)) (omega (arith, ap length is, some))

    used_inner : (h r : ℕ) (rows : List InnerRow) → 0 < h → inner_at pages r ≡ rows → 1 ≤ length rows → is_used (suc h) pages r ≡ true
    used_inner h r rows level is some =
        cond-false (nat_eq (suc h) 1) _ _ (ne_eqb (suc h) 1 (λ no. omega (arith, level, no))) ∙ lt-ltb 0 (length (inner_at pages r)) (omega (arith, ap length is, some))

    used_layer : (h : ℕ) (over : Option (List ℕ)) (at : ℕ) (n : Layer) → IsNodeIn dist width greatest h (Below h) (leaves h) over n → StandFrom at (shapes_in (size h) (shapes_from h) at n) → is_used (suc h) pages (slice_index refs at) ≡ true
    used_layer h over at (Node-F.Leaf tag es) is stand =
        used_leaf h (slice_index refs at) (map leaf_row es) is.0 stand.0 (omega (arith, length-map es leaf_row, filled over 1 (length es) (omega arith) is.1))
    used_layer h over at (Node-F.Inner tag es) is stand =
        let rows = inner_rows (size h) (at + 1) es in
        used_inner h (slice_index refs at) (map (referring refs) rows) is.0 stand.0 (omega (arith, length-map rows (referring refs), length_rows (size h) (at + 1) es, filled over 2 (length es) (omega arith) is.1))

    pub at_used : (h : ℕ) → IsAtUsed h
    at_used zero over at n is stand = absurd is
    at_used (suc h) over at n is stand = used_layer h over at (out-Node n) is stand

    good : (h : ℕ) (over : Option (List ℕ)) (at : ℕ) (n : Node) → IsNode dist width greatest h over n → at + size h n ≤ length refs → StandFrom at (shapes_from h at n) → is_good h pages (take at refs) (slice_index refs at) ≡ true
    good h over at n is inside stand =
        and_from _ _ (at_used h over at n is stand) (not_from_false _ (fresh refs at once (omega (arith, some_node h over n is, inside))))

    -- ---- the nodes below entries

    module _ (h : ℕ) (ih : IsListed h) where
      abbrev f : ℕ → List ℕ → Listed
      f r seen = list_node pages h r seen

      abbrev new_below : ℕ → List InnerEntry → List InnerEntry
      new_below at es = retagged_below (size h) (retagged_from refs h) at es

      abbrev shapes_of : ℕ → List InnerEntry → List Shape
      shapes_of at es = shapes_below (size h) (shapes_from h) at es

      abbrev rows_of : ℕ → List InnerEntry → List InnerRow
      rows_of at es = inner_rows (size h) at es

      abbrev referred : ℕ → List InnerEntry → List InnerRow
      referred at es = map (referring refs) (rows_of at es)

      abbrev sizes : List InnerEntry → ℕ
      sizes es = sum_by (child_size h) es

      child_is : (over : Option (List ℕ)) (at : ℕ) (n : Node) → IsNode dist width greatest h over n → at + size h n ≤ length refs → StandFrom at (shapes_from h at n)
          → child_nodes pages f h (take at refs) (slice_index refs at) ≡ nodes_of h at n
      child_is over at n is inside stand =
          cond-true (is_good h pages (take at refs) (slice_index refs at)) _ _ (good h over at n is inside stand) ∙ ih over at n is inside stand

      child_at : (over : Option (List ℕ)) (at : ℕ) (n : Node) → IsNode dist width greatest h over n → at + size h n ≤ length refs → StandFrom at (shapes_from h at n)
          → child_place pages h (take at refs) (slice_index refs at) ≡ at
      child_at over at n is inside stand =
          cond-true (is_good h pages (take at refs) (slice_index refs at)) _ _ (good h over at n is inside stand) ∙ length-take-le at refs (omega (arith, inside))

      seen_next : (at : ℕ) (n : Node) → take at refs ++ take (size h n) (drop at refs) ≡ take (at + size h n) refs
      seen_next at n = sym (take-add at (size h n) refs)

      shapes_more : (at : ℕ) (e : InnerEntry) (es : List InnerEntry)
          → shapes_of at (new_below at (e ∷ es)) ≡ shapes_from h at (retagged_from refs h at (out-InnerEntry e).child) ++ shapes_of (at + child_size h e) (new_below (at + child_size h e) es)
      shapes_more at e es =
          let rest = new_below (at + child_size h e) es in
          let child = retagged_from refs h at (out-InnerEntry e).child in
          ap (λ (l : EntryLayer). shapes_from h at l.child ++ shapes_of (at + size h l.child) rest) (opened_entry (retagged_from refs h at) (out-InnerEntry e))
          ∙ ap (λ (k : ℕ). shapes_from h at child ++ shapes_of (at + k) rest) (retagged_size refs h at (out-InnerEntry e).child)

      rows_more : (at : ℕ) (e : InnerEntry) (es : List InnerEntry)
          → rows_of at (new_below at (e ∷ es)) ≡ inner_row at (out-InnerEntry e) ∷ rows_of (at + child_size h e) (new_below (at + child_size h e) es)
      rows_more at e es =
          let rest = new_below (at + child_size h e) es in
          ap (λ (l : EntryLayer). inner_row at l ∷ rows_of (at + size h l.child) rest) (opened_entry (retagged_from refs h at) (out-InnerEntry e))
          ∙ ap (λ (k : ℕ). inner_row at (out-InnerEntry e) ∷ rows_of (at + k) rest) (retagged_size refs h at (out-InnerEntry e).child)

      -- the premises for an entry's child and for the entries behind it
      record IsSplit (at : ℕ) (e : InnerEntry) (es : List InnerEntry) : Type 0 where
        child_inside : at + child_size h e ≤ length refs
        child_stands : StandFrom at (shapes_from h at (out-InnerEntry e).child)
        rest_inside : at + child_size h e + sizes es ≤ length refs
        rest_stands : StandFrom (at + child_size h e) (shapes_of (at + child_size h e) es)
        count : sizes (e ∷ es) ≡ child_size h e + sizes es

      split : (at : ℕ) (e : InnerEntry) (es : List InnerEntry) → at + sizes (e ∷ es) ≤ length refs → StandFrom at (shapes_of at (e ∷ es)) → IsSplit at e es
      split at e es inside stand =
          let child = (out-InnerEntry e).child in
          let next = at + child_size h e in
          let sum = sum_by-cons (child_size h) e es in
          record {
            child_inside = omega (arith, inside, sum);
            child_stands = first_part (shapes_from h at child) (shapes_of next es) at stand;
            rest_inside = omega (arith, inside, sum);
            rest_stands = second_part (shapes_from h at child) (shapes_of next es) at next (omega (arith, shapes_length h at child)) stand;
            count = sum;
          }

      below_listed : (over : Option (List ℕ)) (at : ℕ) (es : List InnerEntry) → AllByRecursion (IsEntry h over) es → at + sizes es ≤ length refs → StandFrom at (shapes_of at es)
          → nodes_below pages f h (take at refs) (referred at es) ≡ laid (shapes_of at (new_below at es)) (take (sizes es) (drop at refs))
      below_listed over at [] all inside stand = refl
      below_listed over at (e ∷ es) all inside stand =
          let child = (out-InnerEntry e).child in
          let next = at + child_size h e in
          let k = split at e es inside stand in
          let rows = referred next es in
          let first = nodes_of h at child in
          let shapes = shapes_from h at (retagged_from refs h at child) ++ shapes_of next (new_below next es) in
          ap (λ (l : Listed). join l (nodes_below pages f h (take at refs ++ l.refs) rows)) (child_is (Some (out-InnerEntry e).object) at child all.0.child k.child_inside k.child_stands)
          ∙ ap (λ (seen : List ℕ). join first (nodes_below pages f h seen rows)) (seen_next at child)
          ∙ ap (join first) (below_listed over next es all.1 k.rest_inside k.rest_stands)
          ∙ ap (laid shapes) (sym (some_refs at (child_size h e) (sizes es)))
          ∙ ap (λ (c : ℕ). laid shapes (take c (drop at refs))) (sym k.count)
          ∙ ap (λ (xs : List Shape). laid xs (take (sizes (e ∷ es)) (drop at refs))) (sym (shapes_more at e es))

      rows_placed : (over : Option (List ℕ)) (at : ℕ) (es : List InnerEntry) → AllByRecursion (IsEntry h over) es → at + sizes es ≤ length refs → StandFrom at (shapes_of at es)
          → placed_rows pages f h (take at refs) (referred at es) ≡ rows_of at (new_below at es)
      rows_placed over at [] all inside stand = refl
      rows_placed over at (e ∷ es) all inside stand =
          let object = Some (out-InnerEntry e).object in
          let child = (out-InnerEntry e).child in
          let next = at + child_size h e in
          let k = split at e es inside stand in
          let rows = referred next es in
          let row = referring refs (inner_row at (out-InnerEntry e)) in
          let place = child_place pages h (take at refs) (slice_index refs at) in
          ap (λ (l : Listed). placed place row ∷ placed_rows pages f h (take at refs ++ l.refs) rows) (child_is object at child all.0.child k.child_inside k.child_stands)
          ∙ ap (λ (seen : List ℕ). placed place row ∷ placed_rows pages f h seen rows) (seen_next at child)
          ∙ ap (λ (p : ℕ). placed p row ∷ placed_rows pages f h (take next refs) rows) (child_at object at child all.0.child k.child_inside k.child_stands)
          ∙ ap (λ (xs : List InnerRow). placed at row ∷ xs) (rows_placed over next es all.1 k.rest_inside k.rest_stands)
          ∙ sym (rows_more at e es)

    -- ---- a node and all below it

    leaf_node : (h : ℕ) (f : ℕ → List ℕ → Listed) (r : ℕ) (seen : List ℕ) → h ≡ 0 → node_in pages h f r seen ≡ put_first r (shape.Leaf r (leaf_at pages r)) nothing
    leaf_node zero f r seen is = refl
    leaf_node (suc h) f r seen is = absurd (omega (arith, is))

    -- an inner node over rows, behind nodes that were seen
    abbrev inner_over : ℕ → (ℕ → List ℕ → Listed) → ℕ → List ℕ → List InnerRow → Listed
    inner_over h f r seen rows = put_first r (shape.Inner r (placed_rows pages f h seen rows)) (nodes_below pages f h seen rows)

    inner_node : (h : ℕ) (f : ℕ → List ℕ → Listed) (r : ℕ) (seen : List ℕ) → 0 < h → node_in pages h f r seen ≡ inner_over h f r (seen ++ r ∷ []) (inner_at pages r)
    inner_node zero f r seen is = absurd (omega (arith, is))
    inner_node (suc h) f r seen is = refl

    abbrev new_in : ℕ → ℕ → Layer → Node
    new_in h at n = retagged_in (size h) (retagged_from refs h) (slice_index refs at) at n

    listed_layer : (h : ℕ) → IsListed h → (over : Option (List ℕ)) (at : ℕ) (n : Layer) → IsNodeIn dist width greatest h (Below h) (leaves h) over n → at + size_in (size h) n ≤ length refs
        → StandFrom at (shapes_in (size h) (shapes_from h) at n)
        → node_in pages h (list_node pages h) (slice_index refs at) (take at refs) ≡ laid (shapes_in (size h) (shapes_from h) at (out-Node (new_in h at n))) (take (size_in (size h) n) (drop at refs))
    listed_layer h ih over at (Node-F.Leaf tag es) is inside stand =
        let r = slice_index refs at in
        let few : at < length refs = omega (arith, inside) in
        leaf_node h (list_node pages h) r (take at refs) is.0
        ∙ ap (λ (rows : List LeafRow). put_first r (shape.Leaf r rows) nothing) stand.0
        ∙ ap (laid (shape.Leaf r (map leaf_row es) ∷ [])) (sym (one_ref at few))
        ∙ ap (λ (l : Layer). laid (shapes_in (size h) (shapes_from h) at l) (take 1 (drop at refs))) (sym (out_leaf r es))
    listed_layer h ih over at (Node-F.Inner tag es) is inside stand =
        let r = slice_index refs at in
        let f = list_node pages h in
        let few : at < length refs = omega (arith, inside) in
        let next = at + 1 in
        let new = retagged_below (size h) (retagged_from refs h) next es in
        let rows = map (referring refs) (inner_rows (size h) next es) in
        let all = sum_by (child_size h) es in
        let rest : next + all ≤ length refs = omega (arith, inside) in
        let node = shape.Inner r (inner_rows (size h) next new) in
        let below = shapes_below (size h) (shapes_from h) next new in
        inner_node h f r (take at refs) is.0
        ∙ ap (λ (seen : List ℕ). inner_over h f r seen (inner_at pages r)) (sym (take_more refs at 0 few))
        ∙ ap (inner_over h f r (take next refs)) stand.0
        ∙ ap (λ (ps : List InnerRow). put_first r (shape.Inner r ps) (nodes_below pages f h (take next refs) rows)) (rows_placed h ih over next es is.2 rest stand.1)
        ∙ ap (put_first r node) (below_listed h ih over next es is.2 rest stand.1)
        ∙ ap (λ (rs : List ℕ). laid (node ∷ below) (rs ++ take all (drop next refs))) (sym (one_ref at few))
        ∙ ap (laid (node ∷ below)) (sym (some_refs at 1 all))
        ∙ ap (λ (l : Layer). laid (shapes_in (size h) (shapes_from h) at l) (take (1 + all) (drop at refs))) (sym (out_inner r new))

    pub at_listed : (h : ℕ) → IsListed h
    at_listed zero over at n is inside stand = absurd is
    at_listed (suc h) over at n is inside stand = listed_layer h (at_listed h) over at (out-Node n) is inside stand

zip_length : {X Y : Type 0} (R : X → Y → Type 0) (xs : List X) (ys : List Y) → AllZip R xs ys → length xs ≡ length ys
zip_length R [] [] all = refl
zip_length R [] (y ∷ ys) all = absurd all
zip_length R (x ∷ xs) [] all = absurd all
zip_length R (x ∷ xs) (y ∷ ys) all = ap suc (zip_length R xs ys all.1)

filter_none : {X : Type 0} (p : X → Bool) (xs : List X) → AllByRecursion (λ x. p x ≡ false) xs → filter p xs ≡ []
filter_none p [] none = refl
filter_none p (x ∷ xs) none = cond-false (p x) _ _ none.0 ∙ filter_none p xs none.1

not_left : (refs rs : List ℕ) → AllByRecursion (λ r. is_in refs r ≡ true) rs → AllByRecursion (λ r. not (is_in refs r) ≡ false) rs
not_left refs [] all = tt
not_left refs (r ∷ rs) all = (not_from_true (is_in refs r) all.0, not_left refs rs all.1)

pub trees_are_listed : TreesAreListed
trees_are_listed dist width greatest h n pages refs is held =
    let shapes = preorder h n in
    let new = preorder h (retagged refs h n) in
    let stand = stand_from pages refs shapes refs 0 refl held.stand in
    let each : size h n ≡ length refs = omega (arith, zip_length (Stands pages refs) shapes refs held.stand, shapes_length h 0 n) in
    let all = at_listed pages refs dist width greatest held.once h None 0 n is.node (omega (arith, each)) stand ∙ ap (laid new) (take_all (size h n) refs (omega (arith, each))) in
    let none : unreached pages refs ≡ [] = filter_none (λ r. not (is_in refs r)) (used_refs pages) (not_left refs (used_refs pages) held.only) in
    ap (with_unreached pages) all
    ∙ ap (λ (rs : List ℕ). join (laid new refs) (standing_at pages rs)) none
    ∙ ap (λ (xs : List Shape). laid xs (refs ++ [])) (append-nil new)
    ∙ ap (laid new) (append-nil refs)

pub roots_are_used : RootsAreUsed
roots_are_used dist width greatest h n pages refs is held =
    at_used pages refs dist width greatest held.once h None 0 n is.node (stand_from pages refs (preorder h n) refs 0 refl held.stand)
