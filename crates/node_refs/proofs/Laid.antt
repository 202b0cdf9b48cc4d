-- Where the listed nodes are the preorder of a tree, the pages hold that tree.
use Rattle.std.proofs.Common.{◌≡◌, ℕ, zero, suc, ◌+◌, ◌<◌, ◌≤◌, Bool, true, List, [], ◌∷◌, ◌++◌, length, map, drop, sum_by, slice_index, Option, Some, None, refl, sym, ap, subst, ◌∙◌, ⊎_elim, arith, append_assoc, length-append}
use Rattle.std.specs.Prelude.{not, ◌==◌}
use Rattle.std.specs.List.{AllByRecursion, AllZip, filter}
use Rattle.std.proofs.lemmas.Bool.{cases_Bool, cond-true, cond-false, or_left, or_right, or_cases, not_from_false, eqb-true}
use Rattle.std.proofs.lemmas.List.{get_or_at, append_cancel_left, append-nil, drop_more}
use Rattle.std.proofs.lemmas.List.Folds.{list_any-append}
use Rattle.std.proofs.lemmas.List.Sums.{sum_by-cons}
use Rattle.mtree_node.specs.declared.node.InnerEntry.{InnerEntry, out-InnerEntry}
use Rattle.mtree_node.specs.declared.node.Node.{Node, out-Node}
use Rattle.mtree_node.specs.declared.node.Node.TheOpen.{Node-F}
use Rattle.mtree_node.specs.declared.shape.Shape.{Shape}
use Rattle.mtree_node.specs.declared.shape.Shape.TheVariants as shape
use Rattle.mtree_node.specs.Layer.{Layer}
use Rattle.mtree_node.specs.Tree.{leaves, IsInnerEntry, IsNode, IsNodeIn}
use Rattle.mtree_node.specs.Preorder.{LeafRow, InnerRow, size, size_in, leaf_row, inner_row, inner_rows, shapes_in, shapes_below, shapes_from, preorder}
use Rattle.mtree_node.proofs.Sizes.{child_size, shapes_length}
use Rattle.node_refs.specs.declared.pages.NodePage.{NodePage}
use Rattle.node_refs.specs.declared.listing.Listed.{Listed}
use Rattle.node_refs.specs.Pages.{leaf_at, inner_at, is_in, is_good, shape_at, used_refs}
use Rattle.node_refs.specs.Listing.{nothing, put_first, placed, past, child_place, child_nodes, placed_rows, nodes_below, node_in, list_node, unreached}
use Rattle.node_refs.specs.Laws.{referring, Stands, TreesAreLaid, RootsStandFirst}
use Rattle.node_refs.proofs.Once.{same_is}
use Rattle.node_refs.proofs.Comes.{StandFrom}
use Rattle.node_refs.proofs.Kept.{tagged_length, each_has_one}
use Rattle.node_refs.proofs.Few.{none_twice}

module _ (pages : List NodePage) where
  -- nodes behind some that were seen are these shapes, which stand at their references
  record IsHeld (seen : List ℕ) (l : Listed) (at : ℕ) (xs : List Shape) : Type 0 where
    shapes : l.shapes ≡ xs
    stand : (refs later : List ℕ) → refs ≡ seen ++ l.refs ++ later → StandFrom pages refs at xs

  starts_in : (h : ℕ) (f : ℕ → List ℕ → Listed) (r : ℕ) (seen : List ℕ) → (rs : List ℕ) × ((node_in pages h f r seen).refs ≡ r ∷ rs)
  starts_in zero f r seen = ([], refl)
  starts_in (suc h) f r seen = ((nodes_below pages f (suc h) (seen ++ r ∷ []) (inner_at pages r)).refs, refl)

  -- a node's own reference is the first
  starts : (h r : ℕ) (seen : List ℕ) → 1 ≤ h → (rs : List ℕ) × ((list_node pages h r seen).refs ≡ r ∷ rs)
  starts zero r seen some = absurd (omega (arith, some))
  starts (suc h) r seen some = starts_in h (list_node pages h) r seen

  stand_append : (refs : List ℕ) (at next : ℕ) (xs ys : List Shape) → next ≡ at + length xs → StandFrom pages refs at xs → StandFrom pages refs next ys → StandFrom pages refs at (xs ++ ys)
  stand_append refs at next [] ys is a b = subst (λ (k : ℕ). StandFrom pages refs k ys) (let same : next ≡ at = omega (arith, is) in same) b
  stand_append refs at next (x ∷ xs) ys is a b = (a.0, stand_append refs (at + 1) next xs ys (omega (arith, is)) a.1 b)

  zip_from : (shapes : List Shape) (refs rs : List ℕ) (at : ℕ) → rs ≡ drop at refs → length shapes ≡ length rs → at + length rs ≡ length refs → StandFrom pages refs at shapes → AllZip (Stands pages refs) shapes rs
  zip_from [] refs [] at is same end stand = tt
  zip_from [] refs (r ∷ rs) at is same end stand = absurd (omega (arith, same))
  zip_from (s ∷ shapes) refs [] at is same end stand = absurd (omega (arith, same))
  zip_from (s ∷ shapes) refs (r ∷ rs) at is same end stand =
      let both : r ∷ rs ≡ slice_index refs at ∷ drop (at + 1) refs = is ∙ drop_more refs at 0 (omega (arith, end)) in
      let first : slice_index refs at ≡ r = cc in
      let rest : rs ≡ drop (at + 1) refs = cc in
      (subst (Stands pages refs s) first stand.0, zip_from shapes refs rs (at + 1) rest (omega (arith, same)) (omega (arith, end)) stand.1)

  module _ (dist : List ℕ → List ℕ → ℕ) (width greatest : ℕ) where
    abbrev Below : ℕ → List ℕ → Node → Type 0
    Below h object n = IsNode dist width greatest h (Some object) n

    abbrev IsEntry : ℕ → Option (List ℕ) → InnerEntry → Type 0
    IsEntry h over e = IsInnerEntry dist width greatest (Below h) (leaves h) over (out-InnerEntry e)

    -- a list that begins with a node's nodes as its tree's preorder does holds that tree
    abbrev Holds : ℕ → Type 0
    Holds h = (over : Option (List ℕ)) (r : ℕ) (seen : List ℕ) (at : ℕ) (n : Node) (xs ys : List Shape) → length seen ≡ at → IsNode dist width greatest h over n → at + size h n < past
        → (list_node pages h r seen).shapes ++ xs ≡ shapes_from h at n ++ ys → IsHeld seen (list_node pages h r seen) at (shapes_from h at n)

    module _ (k : ℕ) (some : 1 ≤ k) (ih : Holds k) where
      abbrev f : ℕ → List ℕ → Listed
      f r seen = list_node pages k r seen

      abbrev shapes_of : ℕ → List InnerEntry → List Shape
      shapes_of at es = shapes_below (size k) (shapes_from k) at es

      record AreHeld (seen : List ℕ) (rows : List InnerRow) (at : ℕ) (es : List InnerEntry) : Type 0 where
        held : IsHeld seen (nodes_below pages f k seen rows) at (shapes_of at es)
        referred : (refs later : List ℕ) → refs ≡ seen ++ (nodes_below pages f k seen rows).refs ++ later → rows ≡ map (referring refs) (placed_rows pages f k seen rows)

      -- a child that has a place in the list
      record IsChild (seen : List ℕ) (r at : ℕ) (xs : List Shape) (c : Listed) : Type 0 where
        held : IsHeld seen c at xs
        first : (rs : List ℕ) × (c.refs ≡ r ∷ rs)
        many : length c.refs ≡ length xs

      child_held : (over : Option (List ℕ)) (r : ℕ) (seen : List ℕ) (at : ℕ) (n : Node) (xs ys : List Shape) → length seen ≡ at → IsNode dist width greatest k over n → at + size k n < past
          → child_place pages k seen r ≡ at → (child_nodes pages f k seen r).shapes ++ xs ≡ shapes_from k at n ++ ys → IsChild seen r at (shapes_from k at n) (child_nodes pages f k seen r)
      child_held over r seen at n xs ys here is few place begins =
          let good = ⊎_elim
          (λ yes. yes)
          (λ no. absurd (let gone : past ≡ at = sym (cond-false (is_good k pages seen r) (length seen) past no) ∙ place in omega (arith, gone, few)))
          (cases_Bool (is_good k pages seen r)) in
          let child : child_nodes pages f k seen r ≡ f r seen = cond-true (is_good k pages seen r) (f r seen) nothing good in
          let held = ih over r seen at n xs ys here is few (ap (λ (c : Listed). c.shapes ++ xs) (sym child) ∙ begins) in
          subst (IsChild seen r at (shapes_from k at n)) (sym child) (record {
            held = held;
            first = starts k r seen some;
            many = sym (tagged_length pages k r seen) ∙ ap length held.shapes;
          })

      more_held : (seen : List ℕ) (row : InnerRow) (rows : List InnerRow) (at : ℕ) (e : InnerEntry) (es : List InnerEntry) → length seen ≡ at → child_place pages k seen row.0 ≡ at
          → IsChild seen row.0 at (shapes_from k at (out-InnerEntry e).child) (child_nodes pages f k seen row.0)
          → AreHeld (seen ++ (child_nodes pages f k seen row.0).refs) rows (at + child_size k e) es → AreHeld seen (row ∷ rows) at (e ∷ es)
      more_held seen row rows at e es here place one others =
          let c = child_nodes pages f k seen row.0 in
          let rest = nodes_below pages f k (seen ++ c.refs) rows in
          let child = (out-InnerEntry e).child in
          let next = at + child_size k e in
          let nearer : (refs later : List ℕ) → refs ≡ seen ++ (c.refs ++ rest.refs) ++ later → refs ≡ seen ++ c.refs ++ rest.refs ++ later =
          λ refs later is. is ∙ ap (λ rs. rs ++ later) (sym (append_assoc seen c.refs rest.refs)) in
          record {
            held = record {
              shapes = ap (λ xs. xs ++ rest.shapes) one.held.shapes ∙ ap (λ xs. shapes_from k at child ++ xs) others.held.shapes;
              stand = λ refs later is.
                  stand_append refs at next (shapes_from k at child) (shapes_of next es) (omega (arith, shapes_length k at child))
                  (one.held.stand refs (rest.refs ++ later) (nearer refs later is ∙ append_assoc (seen ++ c.refs) rest.refs later))
                  (others.held.stand refs later (nearer refs later is));
            };
            referred = λ refs later is.
                let rs = one.first.0 in
                let starts_here = nearer refs later is ∙ append_assoc (seen ++ c.refs) rest.refs later ∙ append_assoc seen c.refs (rest.refs ++ later) ∙ ap (λ xs. seen ++ (xs ++ (rest.refs ++ later))) one.first.1 in
                let own : slice_index refs at ≡ row.0 = ap (λ (xs : List ℕ). slice_index xs at) starts_here ∙ get_or_at seen row.0 (rs ++ (rest.refs ++ later)) 0 at here in
                let same : row.0 ≡ slice_index refs (child_place pages k seen row.0) = sym own ∙ ap (slice_index refs) (sym place) in
                ap (λ (p : ℕ). placed p row ∷ rows) same
                ∙ ap (λ (xs : List InnerRow). placed (slice_index refs (child_place pages k seen row.0)) row ∷ xs) (others.referred refs later (nearer refs later is));
          }

      below_held : (over : Option (List ℕ)) (seen : List ℕ) (rows : List InnerRow) (at : ℕ) (es : List InnerEntry) (xs ys : List Shape) → length seen ≡ at → AllByRecursion (IsEntry k over) es → at + sum_by (child_size k) es < past
          → placed_rows pages f k seen rows ≡ inner_rows (size k) at es → (nodes_below pages f k seen rows).shapes ++ xs ≡ shapes_of at es ++ ys → AreHeld seen rows at es
      below_held over seen [] at [] xs ys here all few same begins = record {
        held = record { shapes = refl; stand = λ refs later is. tt };
        referred = λ refs later is. refl;
      }
      below_held over seen [] at (e ∷ es) xs ys here all few same begins = absurd (let none : [] ≡ inner_rows (size k) at (e ∷ es) = same in cc)
      below_held over seen (row ∷ rows) at [] xs ys here all few same begins = absurd (let none : placed_rows pages f k seen (row ∷ rows) ≡ [] = same in cc)
      below_held over seen (row ∷ rows) at (e ∷ es) xs ys here all few same begins =
          let child = (out-InnerEntry e).child in
          let next = at + child_size k e in
          let c = child_nodes pages f k seen row.0 in
          let rest = nodes_below pages f k (seen ++ c.refs) rows in
          let sum = sum_by-cons (child_size k) e es in
          let both : placed (child_place pages k seen row.0) row ∷ placed_rows pages f k (seen ++ c.refs) rows ≡ inner_row at (out-InnerEntry e) ∷ inner_rows (size k) next es = same in
          let first : placed (child_place pages k seen row.0) row ≡ inner_row at (out-InnerEntry e) = cc in
          let behind : placed_rows pages f k (seen ++ c.refs) rows ≡ inner_rows (size k) next es = cc in
          let place : child_place pages k seen row.0 ≡ at = ap (λ (p : InnerRow). p.0) first in
          let whole = sym (append_assoc c.shapes rest.shapes xs) ∙ begins ∙ append_assoc (shapes_from k at child) (shapes_of next es) ys in
          let one = child_held (Some (out-InnerEntry e).object) row.0 seen at child (rest.shapes ++ xs) (shapes_of next es ++ ys) here all.0.child (omega (arith, few, sum)) place whole in
          let left = append_cancel_left (shapes_from k at child) (rest.shapes ++ xs) (shapes_of next es ++ ys) (ap (λ zs. zs ++ (rest.shapes ++ xs)) (sym one.held.shapes) ∙ whole) in
          let there : length (seen ++ c.refs) ≡ next = omega (arith, length-append seen c.refs, one.many, shapes_length k at child, here) in
          more_held seen row rows at e es here place one (below_held over (seen ++ c.refs) rows next es xs ys there all.1 (omega (arith, few, sum)) behind left)

    -- ---- a node

    leaf_node : (h : ℕ) (f : ℕ → List ℕ → Listed) (r : ℕ) (seen : List ℕ) → h ≡ 0 → node_in pages h f r seen ≡ put_first r (shape.Leaf r (leaf_at pages r)) nothing
    leaf_node zero f r seen is = refl
    leaf_node (suc h) f r seen is = absurd (omega (arith, is))

    abbrev inner_over : ℕ → (ℕ → List ℕ → Listed) → ℕ → List ℕ → List InnerRow → Listed
    inner_over h f r seen rows = put_first r (shape.Inner r (placed_rows pages f h seen rows)) (nodes_below pages f h seen rows)

    inner_node : (h : ℕ) (f : ℕ → List ℕ → Listed) (r : ℕ) (seen : List ℕ) → 0 < h → node_in pages h f r seen ≡ inner_over h f r (seen ++ r ∷ []) (inner_at pages r)
    inner_node zero f r seen is = absurd (omega (arith, is))
    inner_node (suc h) f r seen is = refl

    -- the reference behind those that were seen
    own_ref : (refs seen rs later : List ℕ) (r at : ℕ) → length seen ≡ at → refs ≡ seen ++ (r ∷ rs) ++ later → slice_index refs at ≡ r
    own_ref refs seen rs later r at here is =
        ap (λ (xs : List ℕ). slice_index xs at) (is ∙ append_assoc seen (r ∷ rs) later) ∙ get_or_at seen r (rs ++ later) 0 at here

    leaf_held : (r tag : ℕ) (rows : List LeafRow) (seen : List ℕ) (at : ℕ) (xs ys : List Shape) → length seen ≡ at → shape.Leaf r (leaf_at pages r) ∷ xs ≡ shape.Leaf tag rows ∷ ys
        → IsHeld seen (put_first r (shape.Leaf r (leaf_at pages r)) nothing) at (shape.Leaf tag rows ∷ [])
    leaf_held r tag rows seen at xs ys here begins =
        let node : shape.Leaf r (leaf_at pages r) ≡ shape.Leaf tag rows = cc in
        let entries : leaf_at pages r ≡ rows = cc in
        record {
          shapes = ap (λ (s : Shape). s ∷ []) node;
          stand = λ refs later is. (ap (leaf_at pages) (own_ref refs seen [] later r at here is) ∙ entries, tt);
        }

    inner_held : (h : ℕ) → 0 < h → Holds h → (over : Option (List ℕ)) (r tag : ℕ) (es : List InnerEntry) (seen : List ℕ) (at : ℕ) (xs ys : List Shape) → length seen ≡ at → AllByRecursion (IsEntry h over) es
        → at + 1 + sum_by (child_size h) es < past
        → (inner_over h (list_node pages h) r (seen ++ r ∷ []) (inner_at pages r)).shapes ++ xs ≡ shapes_in (size h) (shapes_from h) at (Node-F.Inner tag es) ++ ys
        → IsHeld seen (inner_over h (list_node pages h) r (seen ++ r ∷ []) (inner_at pages r)) at (shapes_in (size h) (shapes_from h) at (Node-F.Inner tag es))
    inner_held h some ih over r tag es seen at xs ys here all few begins =
        let f = list_node pages h in
        let rows = inner_at pages r in
        let ps = placed_rows pages f h (seen ++ r ∷ []) rows in
        let rest = nodes_below pages f h (seen ++ r ∷ []) rows in
        let whole : shape.Inner r ps ∷ (rest.shapes ++ xs) ≡ shape.Inner tag (inner_rows (size h) (at + 1) es) ∷ (shapes_below (size h) (shapes_from h) (at + 1) es ++ ys) = begins in
        let node : shape.Inner r ps ≡ shape.Inner tag (inner_rows (size h) (at + 1) es) = cc in
        let entries : ps ≡ inner_rows (size h) (at + 1) es = cc in
        let left : rest.shapes ++ xs ≡ shapes_below (size h) (shapes_from h) (at + 1) es ++ ys = cc in
        let below = below_held h (omega (arith, some)) ih over (seen ++ r ∷ []) rows (at + 1) es xs ys (omega (arith, length-append seen (r ∷ []), here)) all few entries left in
        let nearer : (refs later : List ℕ) → refs ≡ seen ++ (r ∷ rest.refs) ++ later → refs ≡ seen ++ r ∷ [] ++ rest.refs ++ later =
        λ refs later is. is ∙ ap (λ rs. rs ++ later) (sym (append_assoc seen (r ∷ []) rest.refs)) in
        record {
          shapes = ap (λ (s : Shape). s ∷ rest.shapes) node ∙ ap (λ ss. shape.Inner tag (inner_rows (size h) (at + 1) es) ∷ ss) below.held.shapes;
          stand = λ refs later is. (
            ap (inner_at pages) (own_ref refs seen rest.refs later r at here is) ∙ below.referred refs later (nearer refs later is) ∙ ap (map (referring refs)) entries,
            below.held.stand refs later (nearer refs later is),
          );
        }

    layer_held : (h : ℕ) → Holds h → (over : Option (List ℕ)) (r : ℕ) (seen : List ℕ) (at : ℕ) (n : Layer) (xs ys : List Shape) → length seen ≡ at → IsNodeIn dist width greatest h (Below h) (leaves h) over n
        → at + size_in (size h) n < past → (node_in pages h (list_node pages h) r seen).shapes ++ xs ≡ shapes_in (size h) (shapes_from h) at n ++ ys
        → IsHeld seen (node_in pages h (list_node pages h) r seen) at (shapes_in (size h) (shapes_from h) at n)
    layer_held h ih over r seen at (Node-F.Leaf tag es) xs ys here is few begins =
        let node = leaf_node h (list_node pages h) r seen is.0 in
        subst (λ (l : Listed). IsHeld seen l at (shape.Leaf tag (map leaf_row es) ∷ [])) (sym node)
        (leaf_held r tag (map leaf_row es) seen at xs ys here (ap (λ (l : Listed). l.shapes ++ xs) (sym node) ∙ begins))
    layer_held h ih over r seen at (Node-F.Inner tag es) xs ys here is few begins =
        let node = inner_node h (list_node pages h) r seen is.0 in
        subst (λ (l : Listed). IsHeld seen l at (shapes_in (size h) (shapes_from h) at (Node-F.Inner tag es))) (sym node)
        (inner_held h is.0 ih over r tag es seen at xs ys here is.2 (omega (arith, few)) (ap (λ (l : Listed). l.shapes ++ xs) (sym node) ∙ begins))

    node_held : (h : ℕ) → Holds h
    node_held zero over r seen at n xs ys here is few begins = absurd is
    node_held (suc h) over r seen at n xs ys here is few begins = layer_held h (node_held h) over r seen at (out-Node n) xs ys here is few begins

in_filter : (p : ℕ → Bool) (us : List ℕ) (v : ℕ) → is_in us v ≡ true → p v ≡ true → is_in (filter p us) v ≡ true
in_filter p [] v some kept = some
in_filter p (u ∷ us) v some kept =
    let left : p u ≡ true → is_in (filter p (u ∷ us)) v ≡ is_in (u ∷ filter p us) v = λ yes. ap (λ (xs : List ℕ). is_in xs v) (cond-true (p u) (u ∷ filter p us) (filter p us) yes) in
    ⊎_elim
    (λ here. left (ap p (eqb-true u v here) ∙ kept) ∙ or_left (u == v) (is_in (filter p us) v) here)
    (λ later.
    let behind = in_filter p us v later kept in
    ⊎_elim
    (λ yes. left yes ∙ or_right (u == v) (is_in (filter p us) v) behind)
    (λ no. ap (λ (xs : List ℕ). is_in xs v) (cond-false (p u) (u ∷ filter p us) (filter p us) no) ∙ behind)
    (cases_Bool (p u)))
    (or_cases (u == v) (is_in us v) some)

all_of : (P : ℕ → Type 0) (us : List ℕ) → ((u : ℕ) → is_in us u ≡ true → P u) → AllByRecursion P us
all_of P [] has = tt
all_of P (u ∷ us) has = (has u (or_left (u == u) (is_in us u) (same_is u)), all_of P us (λ v inside. has v (or_right (u == v) (is_in us v) inside)))

-- each used place is listed: it was reached, or it comes behind
all_listed : (rs us : List ℕ) → AllByRecursion (λ v. is_in (rs ++ filter (λ r. not (is_in rs r)) us) v ≡ true) us
all_listed rs us =
    let p = λ (r : ℕ). not (is_in rs r) in
    all_of (λ v. is_in (rs ++ filter p us) v ≡ true) us (λ v inside. ⊎_elim
    (λ seen. list_any-append (λ (q : ℕ). q == v) rs (filter p us) ∙ or_left (is_in rs v) (is_in (filter p us) v) seen)
    (λ free. list_any-append (λ (q : ℕ). q == v) rs (filter p us) ∙ or_right (is_in rs v) (is_in (filter p us) v) (in_filter p us v inside (not_from_false (is_in rs v) free)))
    (cases_Bool (is_in rs v)))

pub trees_are_laid : TreesAreLaid
trees_are_laid dist width greatest h n pages root is slots used few same =
    let nodes = list_node pages h root [] in
    let rest = unreached pages nodes.refs in
    let refs = nodes.refs ++ rest in
    let begins = same ∙ sym (append-nil (preorder h n)) in
    let fits : 0 + size h n < past = omega (arith, few, ap length same, shapes_length h 0 n) in
    let held = node_held pages dist width greatest h None root [] 0 n (map (shape_at pages) rest) [] refl is.node fits begins in
    record {
      stand = zip_from pages (preorder h n) refs refs 0 refl (ap length (sym same) ∙ each_has_one pages h root) (omega arith) (held.stand refs rest refl);
      once = none_twice pages h root slots used;
      only = all_listed nodes.refs (used_refs pages);
    }

pub roots_stand_first : RootsStandFirst
roots_stand_first pages height root some =
    let nodes = list_node pages height root [] in
    ap (λ (rs : List ℕ). slice_index (rs ++ unreached pages nodes.refs) 0) (starts pages height root [] some).1
