-- What is saved can be written: its head and its body pages are lawful.
use Rattle.std.proofs.Common.{◌≡◌, ℕ, ◌+◌, ◌/◌, ◌<◌, ◌≤◌, ◌^◌, ◌&&◌, Bool, cond, List, [], ◌∷◌, length, map, get_or, Option, Some, None, sym, ◌∙◌, ap, subst, arith, IsTrue}
use Rattle.std.specs.Prelude.{◌==◌, ◌≢◌, nat_le}
use Rattle.std.specs.List.{AllByRecursion}
use Rattle.std.specs.Ordering.{nat_cmp}
use Rattle.std.specs.FinMap as maps
use Rattle.std.proofs.lemmas.Bool.{eq-eqb, ne_eqb, le-leb, leb-true, and_parts}
use Rattle.std.proofs.lemmas.List.{length-map, nil_from_length}
use Rattle.std.proofs.lemmas.Nat.{div-add-mod'}
use Rattle.vec_record.specs.Held as held
use Rattle.vec_record.specs.Vectors.{IsVector}
use Rattle.vec_record.specs.Limits.{are_within, is_between, greatest_dim, width_of}
use Rattle.vec_record.specs.Distance.{greatest_of}
use Rattle.vec_record.specs.Spelled.{is_spelled}
use Rattle.mtree_node.specs.declared.node.Node.{Node}
use Rattle.mtree_node.specs.declared.shape.Shape.{Shape}
use Rattle.mtree_node.specs.declared.shape.Shape.TheVariants as shape
use Rattle.mtree_node.specs.Preorder.{InnerRow, preorder}
use Rattle.mtree_node.specs.Tree.{records as records_in, IsNode, IsTree}
use Rattle.mtree_node.specs.Walk.{CanBeBuilt}
use Rattle.mtree_node.proofs.Sizes.{all_weaker}
use Rattle.mtree_index.specs.Tree.{contents, records_of, IsRoot}
use Rattle.tree_objects.specs.Objects.{RootHasAll}
use Rattle.tree_objects.specs.Laws.{Passes, ShapesPass, ShapesHaveAll}
use Rattle.tree_objects.proofs.Lists.{get_all}
use Rattle.kept_clusters.specs.Kept.{Kept}
use Rattle.stored_lines.specs.Lines.{IsLine, line_in}
use Rattle.stored_tree.specs.Shapes.{shapes_at, shapes_of}
use Rattle.tree_layout.specs.Layouts.{Laid, referred, leaf_for, inner_for}
use Rattle.page_layout.specs.declared.body.Body.{Body}
use Rattle.page_layout.specs.Heads.{Values, HeadValue, IsHead, is_root, is_height}
use Rattle.page_layout.specs.Bodies.{IsBody}
use Rattle.store_image.specs.Placing.{slot_for, numbers_after, saved_head, saved_laid, saved_bodies, ArePagesOf, CanBeSaved}
use Rattle.store_image.specs.SavedLaws.{SavedAreLawful}
use Rattle.store_image.proofs.SavedBodies.{AreParts, bodies_lawful}
use Rattle.store_image.proofs.SavedNumbers.{used_in}
use Rattle.store_image.proofs.SavedSlots.{none_at_zero, slots_lawful, lines_lawful}
use Rattle.store_image.proofs.SavedNodes.{IsGoodRow, IsGoodShape, IsNumber, nodes_good, AreRefs, leaves_written, inners_written}
use Rattle.store_image.proofs.SavedCounts.{Below, nodes_at, tree_width, no_record_at_zero, apart, all_stand, laid_sized, slots_long, saved_kinds, saved_few}
use Rattle.store_image.proofs.LoadFacts.{few_bounded, kinds_few}

-- the root and the height beside the number of records
pub record IsRooted (count root height : ℕ) : Type 0 where
  pub root_is : IsTrue (is_root count root)
  pub height_is : IsTrue (is_height count height)

rooted_none : (count root height : ℕ) → count ≡ 0 → root ≡ 0 → height ≡ 0 → IsRooted count root height
rooted_none count root height none no_root flat = record {
  root_is = subst (λ (b : Bool). IsTrue (cond b (root == 0) (nat_le 1 root))) (sym (eq-eqb count 0 none)) (eq-eqb root 0 no_root);
  height_is = subst (λ (b : Bool). IsTrue (cond b (height == 0) (is_between 1 6 height))) (sym (eq-eqb count 0 none)) (eq-eqb height 0 flat);
}

between : (height : ℕ) → 1 ≤ height → height ≤ 6 → IsTrue (is_between 1 6 height)
between height some low = ap (λ (b : Bool). b && nat_le height 6) (le-leb 1 height some) ∙ le-leb height 6 low

rooted_some : (count root height : ℕ) → (count ≡ 0 → ⊥) → root ≢ 0 → (height ≡ 0 → ⊥) → height ≤ 6 → IsRooted count root height
rooted_some count root height some a_root high low = record {
  root_is = subst (λ (b : Bool). IsTrue (cond b (root == 0) (nat_le 1 root))) (sym (ne_eqb count 0 some)) (le-leb 1 root (omega (arith, a_root)));
  height_is = subst (λ (b : Bool). IsTrue (cond b (height == 0) (is_between 1 6 height))) (sym (ne_eqb count 0 some)) (between height (omega (arith, high)) low);
}

-- of a tree whose nodes have references
module _ (built : Below) (dist : List ℕ → List ℕ → ℕ) (width greatest h : ℕ) (low : h ≤ 6) where
  level_not_zero : (n : Node) → IsTree dist width greatest h n → h ≡ 0 → ⊥
  level_not_zero n is flat = subst (λ (k : ℕ). IsNode dist width greatest k None n) flat is.node

  rooted : (root : Option Node) (refs : List ℕ) → IsRoot dist width greatest h root → length (shapes_at h root) ≤ 200000 → length refs ≡ length (shapes_at h root)
      → AllByRecursion (λ r. r ≢ 0) refs → IsRooted (maps.len (records_of h root)) (get_or refs 0 0) h
  rooted None refs is few long each =
      rooted_none (maps.len (records_of h None)) (get_or refs 0 0) h (maps.len-empty nat_cmp (List ℕ)) (ap (λ (l : List ℕ). get_or l 0 0) (nil_from_length refs long)) is
  rooted (Some n) refs is few long each =
      let can : CanBeBuilt width greatest h (preorder h n) (records_in h n) = built.built dist width greatest h n is low few in
      let high : h ≡ 0 → ⊥ = level_not_zero n is in
      let some_shape : length (preorder h n) ≡ 0 → ⊥ = λ none. high (can.no_shapes.1 none) in
      let some_record : maps.len (records_in h n) ≡ 0 → ⊥ = λ none. high (can.no_records.1 none) in
      let first : 0 < length refs = omega (arith, long, some_shape) in
      rooted_some (maps.len (records_of h (Some n))) (get_or refs 0 0) h some_record (get_all (λ r. r ≢ 0) refs 0 0 each first) high low

-- the nodes can be written
module _ (width one other limit : ℕ) (le : one ≤ other) where
  row_wider : (row : InnerRow) → IsGoodRow width one limit row → IsGoodRow width other limit row
  row_wider row is = record { place = is.place; parent = is.parent; radius = within row.2 is.radius; object = is.object }
    where
      within : (radius : ℕ) → radius ≤ one → radius ≤ other
      within radius small = omega (arith, small, le)

  shape_wider : (s : Shape) → IsGoodShape width one limit s → IsGoodShape width other limit s
  shape_wider (shape.Leaf tag rows) is = is
  shape_wider (shape.Inner tag rows) is = record {
    some = is.some;
    few = is.few;
    each = all_weaker (IsGoodRow width one limit) (IsGoodRow width other limit) rows row_wider is.each;
  }

  shapes_wider : (shapes : List Shape) → AllByRecursion (IsGoodShape width one limit) shapes → AllByRecursion (IsGoodShape width other limit) shapes
  shapes_wider shapes each = all_weaker (IsGoodShape width one limit) (IsGoodShape width other limit) shapes shape_wider each

good_at : (dist : List ℕ → List ℕ → ℕ) (width greatest h : ℕ) (small : (u x : List ℕ) → IsVector width u → IsVector width x → dist u x < 2 ^ 32) (rows : held.Rows) (root : Option Node)
    → IsRoot dist width greatest h root → records_of h root ≡ rows → ((q : ℕ) (x : List ℕ) → maps.get rows q ≡ Some x → IsNumber q)
    → AllByRecursion (IsGoodShape width greatest (length (shapes_at h root))) (shapes_at h root)
good_at dist width greatest h small rows None is same each = tt
good_at dist width greatest h small rows (Some n) is same each = nodes_good dist width greatest small h n rows is same each

spelled_at : ShapesHaveAll → (test : List ℕ → Bool) (h : ℕ) (root : Option Node) → RootHasAll (Passes test) h root → ShapesPass test (shapes_at h root)
spelled_at law test h None all = tt
spelled_at law test h (Some n) all = law test h n all

refs_small : (limit : ℕ) (refs : List ℕ) → limit ≤ 300000 → AllByRecursion (λ r. r / 64 < limit + 2) refs → AllByRecursion (λ r. r < 2 ^ 32) refs
refs_small limit refs few each = all_weaker (λ r. r / 64 < limit + 2) (λ r. r < 2 ^ 32) refs one each
  where
    one : (r : ℕ) → r / 64 < limit + 2 → r < 2 ^ 32
    one r small = omega (arith, div-add-mod' r 64, small, few)

-- numbers in a head
both_few : (n cap : ℕ) → n ≤ cap → cap ≤ 200000 → n ≤ 200000
both_few n cap few small = omega (arith, few, small)

at_least : (n : ℕ) → 2 ≤ 2 + n
at_least n = omega arith

fits : (n : ℕ) → n ≤ 300000 → 2 + n < 2 ^ 32
fits n few = omega (arith, few)

one_more : (n : ℕ) → n < 4294967295 → n + 1 < 2 ^ 32
one_more n less = omega (arith, less)

first_small : (refs : List ℕ) → AllByRecursion (λ r. r < 2 ^ 32) refs → get_or refs 0 0 < 2 ^ 32
first_small [] each = omega arith
first_small (r ∷ refs) each = each.0

cap_small : (v : Values) → IsTrue (are_within v.metric v.dim v.eps v.minpts v.cap) → v.cap ≤ 200000
cap_small v within =
    let a = and_parts (is_between 1 (greatest_dim v.metric) v.dim) (is_between 0 65535 v.eps && (is_between 1 65535 v.minpts && is_between 1 200000 v.cap)) within in
    let b = and_parts (is_between 0 65535 v.eps) (is_between 1 65535 v.minpts && is_between 1 200000 v.cap) a.1 in
    let c = and_parts (is_between 1 65535 v.minpts) (is_between 1 200000 v.cap) b.1 in
    leb-true v.cap 200000 (and_parts (nat_le 1 v.cap) (nat_le v.cap 200000) c.1).1

module _ (below : Below) (dist : List ℕ → List ℕ → ℕ) (most : ℕ → ℕ) (h : HeadValue) (bodies : List Body) (pages : List (List ℕ)) (records : held.Held) (kept : Kept)
    (are : ArePagesOf h bodies pages) (can : CanBeSaved dist most h records kept) where
  abbrev width : ℕ
  width = width_of h.values.metric h.values.dim

  abbrev greatest : ℕ
  greatest = greatest_of h.values.metric width

  abbrev numbers : List ℕ
  numbers = numbers_after h.values bodies records.vectors

  abbrev shapes : List Shape
  shapes = shapes_of kept.tree

  abbrev laid : Laid
  laid = saved_laid h.values bodies records.vectors kept

  wide : kept.tree.width ≡ width
  wide = tree_width below dist most h bodies pages records kept are can

  number_is : (q : ℕ) (x : List ℕ) → maps.get records.vectors q ≡ Some x → IsNumber q
  number_is q x is = record { some = not_zero; small = can.bounded.numbers q x is }
    where
      not_zero : q ≡ 0 → ⊥
      not_zero zero_is =
          let none : maps.get records.vectors 0 ≡ None = none_at_zero h.values records.vectors can.can.each in
          let its : maps.get records.vectors 0 ≡ Some x = subst (λ (n : ℕ). maps.get records.vectors n ≡ Some x) zero_is is in
          let no : None ≡ Some x = sym none ∙ its in
          cc

  shapes_good : AllByRecursion (IsGoodShape width greatest (length shapes)) shapes
  shapes_good =
      let small : (u x : List ℕ) → IsVector kept.tree.width u → IsVector kept.tree.width x → dist u x < 2 ^ 32 =
      subst (λ (w : ℕ). (u x : List ℕ) → IsVector w u → IsVector w x → dist u x < 2 ^ 32) (sym can.kept_is.fits.held.same_width) can.bounded.distances in
      let good = good_at dist kept.tree.width (most kept.tree.width) kept.tree.height small records.vectors kept.tree.root can.lawful.root can.kept_is.fits.held.same_pairs number_is in
      subst (λ (w : ℕ). AllByRecursion (IsGoodShape w (greatest_of h.values.metric w) (length shapes)) shapes) wide
      (shapes_wider kept.tree.width (most kept.tree.width) (greatest_of h.values.metric kept.tree.width) (length shapes) can.greatest shapes good)

  shapes_spelled : ShapesPass (is_spelled h.values.metric h.values.dim) shapes
  shapes_spelled = spelled_at below.objects (is_spelled h.values.metric h.values.dim) kept.tree.height kept.tree.root can.kept_is.spelled

  -- there are few pages, and each node has a reference
  kinds_long : length laid.kinds ≤ 300000
  kinds_long =
      let saved = saved_bodies h.values bodies records.vectors kept in
      let few = kinds_few saved (few_bounded h.values saved can.head.values (saved_few below dist most h bodies pages records kept are can)) in
      subst (λ (l : List ℕ). length l ≤ 300000) (saved_kinds below dist most h bodies pages records kept are can) few

  refs_are : AreRefs (length shapes) laid.refs
  refs_are =
      let sized = laid_sized below dist most h bodies pages records kept are can in
      record { long = sized.refs_are; some = sized.some; small = refs_small (length laid.kinds) laid.refs kinds_long sized.below }

  -- the records with their lines can be written
  lines_are : AllByRecursion (IsLine kept.counts.minpts) (map (line_in kept.counts kept.labels) (used_in numbers))
  lines_are =
      (lines_lawful kept.tree.width (contents kept.tree) records kept can.kept_is.fits (no_record_at_zero below dist most h bodies pages records kept are can)
      numbers (apart below dist most h bodies pages records kept are can) (all_stand below dist most h bodies pages records kept are can)).each

  parts_are : AreParts h.values laid.kinds (map (slot_for records.vectors kept) numbers) (map (leaf_for (map (referred laid.refs) shapes)) laid.leaves) (map (inner_for (map (referred laid.refs) shapes)) laid.inners)
  parts_are =
      let sized = laid_sized below dist most h bodies pages records kept are can in
      let stand = all_stand below dist most h bodies pages records kept are can in
      record {
        kinds_are = sized.kinds_are;
        slots_long = slots_long below dist most h bodies pages records kept are can;
        leaves_long = length-map laid.leaves (leaf_for (map (referred laid.refs) shapes)) ∙ sized.leaf_slots_are;
        inners_long = length-map laid.inners (inner_for (map (referred laid.refs) shapes)) ∙ sized.inner_slots_are;
        slots_are = slots_lawful h.values dist records kept can.can.each can.bounded can.kept_is.minpts numbers (λ m some is. sym (stand m some) ∙ is) lines_are;
        leaves_are = leaves_written h.values (length shapes) laid.refs refs_are shapes shapes_good shapes_spelled laid.leaves;
        inners_are = inners_written h.values (length shapes) laid.refs refs_are shapes shapes_good shapes_spelled laid.inners;
      }

  pub each_body : AllByRecursion (IsBody h.values) (saved_bodies h.values bodies records.vectors kept)
  each_body = bodies_lawful h.values laid.kinds _ _ _ parts_are

  -- and so can the head
  pub head_is : IsHead (saved_head h bodies records.vectors kept)
  head_is =
      let sized = laid_sized below dist most h bodies pages records kept are can in
      let held_are : maps.len (records_of kept.tree.height kept.tree.root) ≡ maps.len records.vectors = ap maps.len can.kept_is.fits.held.same_pairs in
      let cap = cap_small h.values can.head.values in
      let held_few : maps.len (records_of kept.tree.height kept.tree.root) ≤ 200000 = subst (λ (n : ℕ). n ≤ 200000) (sym held_are) (both_few (maps.len records.vectors) h.values.cap can.can.few cap) in
      let few : length shapes ≤ 200000 = nodes_at below dist kept.tree.width (most kept.tree.width) kept.tree.height kept.tree.root can.lawful.root held_few in
      let at : IsRooted (maps.len records.vectors) (get_or laid.refs 0 0) kept.tree.height =
      subst (λ (n : ℕ). IsRooted n (get_or laid.refs 0 0) kept.tree.height) held_are
      (rooted below dist kept.tree.width (most kept.tree.width) kept.tree.height can.lawful.low kept.tree.root laid.refs can.lawful.root few sized.refs_are sized.some) in
      record {
        version = can.head.version;
        pages = at_least (length laid.kinds);
        pages_fit = fits (length laid.kinds) kinds_long;
        values = can.head.values;
        batches = one_more h.batches can.can.batches;
        count = can.can.few;
        root = at.root_is;
        root_fits = first_small laid.refs refs_are.small;
        height = at.height_is;
      }

pub saved_are_lawful : Below → SavedAreLawful
saved_are_lawful below dist most h bodies pages records kept are can = record {
  head = head_is below dist most h bodies pages records kept are can;
  each = each_body below dist most h bodies pages records kept are can;
}
