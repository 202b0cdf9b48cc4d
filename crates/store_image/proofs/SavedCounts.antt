-- How many slots and pages there are after a save: no more than may be, and as many slots as the pages have.
use Rattle.std.proofs.Common.{◌≡◌, inl, inr, ℕ, ◌+◌, ◌-◌, ◌*◌, ◌/◌, ◌<◌, ◌≤◌, max, Bool, false, cond, ◌&&◌, List, [], ◌∷◌, length, map, drop, Option, Some, None, refl, sym, ◌∙◌, ap, subst, arith, IsTrue}
use Rattle.std.specs.Prelude.{not, nat_le, count_by}
use Rattle.std.specs.FinMap as maps
use Rattle.std.proofs.lemmas.Bool.{cases_Bool, leb-true, leb-false, le-leb, and_parts}
use Rattle.std.proofs.lemmas.List.{length-map}
use Rattle.std.proofs.lemmas.List.Sums.{sum_by-cons}
use Rattle.std.proofs.lemmas.Nat.{le-div, div-add-mod'}
use Rattle.std.proofs.Math.Nat.{mul-le-mul_left, mul-div_left}
use Rattle.vec_record.specs.Held as held
use Rattle.vec_record.specs.Limits.{width_of}
use Rattle.mtree_node.specs.declared.node.Node.{Node}
use Rattle.mtree_node.specs.declared.shape.Shape.{Shape}
use Rattle.mtree_node.specs.declared.shape.Shape.TheVariants as shape
use Rattle.mtree_node.specs.Preorder.{preorder}
use Rattle.mtree_node.specs.Tree.{leaves}
use Rattle.mtree_node.specs.Laws.{TreesCanBeBuilt}
use Rattle.mtree_index.specs.Tree.{records_of, IsRoot}
use Rattle.mtree_index.specs.Laws.{HaveAnEntryForEach}
use Rattle.tree_objects.specs.Laws.{ShapesHaveAll}
use Rattle.tree_objects.specs.Sizes.{is_leaf, is_inner, HaveFewLeafShapes, HaveFewInnerShapes, HaveTwoKinds}
use Rattle.node_places.specs.declared.nodes.Tagged.{Tagged}
use Rattle.node_places.specs.Slots.{AreApart}
use Rattle.node_places.specs.Nodes.{count_of}
use Rattle.node_places.specs.Laws.{AreSlots, RecordsStand}
use Rattle.node_places.proofs.Keys.{has_keys}
use Rattle.kept_clusters.specs.Kept.{Kept}
use Rattle.stored_tree.specs.Shapes.{shapes_at, shapes_of}
use Rattle.tree_layout.specs.Layouts.{Laid, tagged, leaf_for, inner_for, referred}
use Rattle.tree_layout.specs.Laws.{AreSized, LayoutsAreSized, leaf_count, inner_count}
use Rattle.page_layout.specs.declared.body.Body.{Body}
use Rattle.page_layout.specs.Heads.{Values, HeadValue}
use Rattle.store_image.specs.Contents.{kinds_of, count_of_kind, all_slots}
use Rattle.store_image.specs.Images.{number_of}
use Rattle.store_image.specs.Loading.{record_limit, leaf_limit, inner_limit, are_few}
use Rattle.store_image.specs.Placing.{size_on, slot_for, numbers_after, saved_laid, saved_bodies, ArePagesOf, CanBeSaved}
use Rattle.store_image.proofs.SavedBodies.{are_kinds, kinds_back}
use Rattle.store_image.proofs.SavedReads.{slots_read}
use Rattle.store_image.proofs.SavedSlots.{AllStand, length-keys, no_zero, none_at_zero}

-- the laws of the crates below on which a save stands
pub record Below : Type 0 where
  pub sized : LayoutsAreSized
  pub stand : RecordsStand
  pub entries : HaveAnEntryForEach
  pub leaf_shapes : HaveFewLeafShapes
  pub inner_shapes : HaveFewInnerShapes
  pub two_kinds : HaveTwoKinds
  pub built : TreesCanBeBuilt
  pub objects : ShapesHaveAll

-- a record page has a slot
some_slot : (width : ℕ) → width ≤ 512 → 0 < 16368 / (16 + width)
some_slot width small = let one : 1 ≤ 16368 / (16 + width) = le-div 1 16368 (16 + width) (omega arith) (omega (arith, small)) in omega (arith, one)

-- as many pages as slots fill
no_fewer : (size before pages : ℕ) → 0 < size → size * before ≤ pages * size → before ≤ pages
no_fewer size before pages some slots = elim (cases_Bool (nat_le before pages)) [
  | inl is ↦ leb-true before pages is
  | inr more ↦
      let above : pages + 1 ≤ before = omega (arith, leb-false before pages more) in
      let times : size * (pages + 1) ≤ size * before = mul-le-mul_left size above in
      let spread : size * (pages + 1) ≡ pages * size + size = omega arith in
      absurd (omega (arith, times, spread, slots, some))
]

-- and no more than records, or slots that were there, fill
rows_few : (size before count pages cap : ℕ) → 0 < size → before ≤ (cap + size - 1) / size → count ≤ cap → pages * size < max (size * before) count + size → pages ≤ (cap + size - 1) / size
rows_few size before count pages cap some few held slots = elim (cases_Bool (nat_le pages before)) [
  | inl is ↦ omega (arith, leb-true pages before is, few)
  | inr more ↦
      let above : before + 1 ≤ pages = omega (arith, leb-false pages before more) in
      let times : size * (before + 1) ≤ size * pages = mul-le-mul_left size above in
      let spread : size * (before + 1) ≡ size * before + size = omega arith in
      let turned : size * pages ≡ pages * size = omega arith in
      le-div pages (cap + size - 1) size some (omega (arith, times, spread, turned, slots, held, some))
]

leaves_few : (before count pages nodes cap : ℕ) → before ≤ (cap / 7 + 63) / 63 → count ≤ cap → nodes ≤ count / 7 + 1 → pages ≤ max before ((nodes + 62) / 63) → pages ≤ (cap / 7 + 63) / 63
leaves_few before count pages nodes cap old held few is =
    omega (arith, old, held, few, is, div-add-mod' (nodes + 62) 63, div-add-mod' (cap / 7 + 63) 63, div-add-mod' cap 7, div-add-mod' count 7)

inners_few : (before count pages nodes cap : ℕ) → before ≤ cap / 42 + 1 → count ≤ cap → nodes ≤ count / 42 + 1 → pages ≤ max before nodes → pages ≤ cap / 42 + 1
inners_few before count pages nodes cap old held few is = omega (arith, old, held, few, is, div-add-mod' cap 42, div-add-mod' count 42)

nodes_few : (leaf inner all long : ℕ) → long ≤ 200000 → leaf ≤ long / 7 + 1 → inner ≤ long / 42 + 1 → leaf + inner ≡ all → all ≤ 200000
nodes_few leaf inner all long few a b both = omega (arith, few, a, b, both, div-add-mod' long 7, div-add-mod' long 42)

-- how many nodes are leaves, and how many aren't
leaves_counted : (shapes : List Shape) → leaf_count shapes ≡ count_by is_leaf shapes
leaves_counted [] = refl
leaves_counted (shape.Leaf tag rows ∷ rest) =
    sum_by-cons (λ (n : Tagged). cond n.leaf 1 0) (tagged (shape.Leaf tag rows)) (map tagged rest) ∙ ap (λ (n : ℕ). 1 + n) (leaves_counted rest)
    ∙ sym (sum_by-cons (λ (s : Shape). cond (is_leaf s) 1 0) (shape.Leaf tag rows) rest)
leaves_counted (shape.Inner tag rows ∷ rest) =
    sum_by-cons (λ (n : Tagged). cond n.leaf 1 0) (tagged (shape.Inner tag rows)) (map tagged rest) ∙ ap (λ (n : ℕ). 0 + n) (leaves_counted rest)
    ∙ sym (sum_by-cons (λ (s : Shape). cond (is_leaf s) 1 0) (shape.Inner tag rows) rest)

inners_counted : (shapes : List Shape) → inner_count shapes ≡ count_by is_inner shapes
inners_counted [] = refl
inners_counted (shape.Leaf tag rows ∷ rest) =
    sum_by-cons (λ (n : Tagged). cond (not n.leaf) 1 0) (tagged (shape.Leaf tag rows)) (map tagged rest) ∙ ap (λ (n : ℕ). 0 + n) (inners_counted rest)
    ∙ sym (sum_by-cons (λ (s : Shape). cond (is_inner s) 1 0) (shape.Leaf tag rows) rest)
inners_counted (shape.Inner tag rows ∷ rest) =
    sum_by-cons (λ (n : Tagged). cond (not n.leaf) 1 0) (tagged (shape.Inner tag rows)) (map tagged rest) ∙ ap (λ (n : ℕ). 1 + n) (inners_counted rest)
    ∙ sym (sum_by-cons (λ (s : Shape). cond (is_inner s) 1 0) (shape.Inner tag rows) rest)

-- of a tree's nodes
module _ (dist : List ℕ → List ℕ → ℕ) (width greatest h : ℕ) where
  leaves_at : HaveAnEntryForEach → HaveFewLeafShapes → (root : Option Node) → IsRoot dist width greatest h root → leaf_count (shapes_at h root) ≤ maps.len (records_of h root) / 7 + 1
  leaves_at entries law None is = omega arith
  leaves_at entries law (Some n) is =
      let few = law dist width greatest h n is in
      subst (λ (k : ℕ). leaf_count (preorder h n) ≤ k / 7 + 1) (entries dist width greatest h n is) (omega (arith, leaves_counted (preorder h n), few))

  inners_at : HaveAnEntryForEach → HaveFewInnerShapes → (root : Option Node) → IsRoot dist width greatest h root → inner_count (shapes_at h root) ≤ maps.len (records_of h root) / 42 + 1
  inners_at entries law None is = omega arith
  inners_at entries law (Some n) is =
      let few = law dist width greatest h n is in
      subst (λ (k : ℕ). inner_count (preorder h n) ≤ k / 42 + 1) (entries dist width greatest h n is) (omega (arith, inners_counted (preorder h n), few))

pub nodes_at : Below → (dist : List ℕ → List ℕ → ℕ) (width greatest h : ℕ) (root : Option Node) → IsRoot dist width greatest h root → maps.len (records_of h root) ≤ 200000 → length (shapes_at h root) ≤ 200000
nodes_at below dist width greatest h None is few = omega arith
nodes_at below dist width greatest h (Some n) is few =
    let each = below.entries dist width greatest h n is in
    nodes_few (count_by is_leaf (preorder h n)) (count_by is_inner (preorder h n)) (length (preorder h n)) (length (leaves h n)) (subst (λ (k : ℕ). k ≤ 200000) (sym each) few)
    (below.leaf_shapes dist width greatest h n is) (below.inner_shapes dist width greatest h n is) (below.two_kinds dist width greatest h n is)

-- pages that are few, by their kinds
pub record AreFewKinds (v : Values) (kinds : List ℕ) : Type 0 where
  pub record_pages : count_of 1 kinds ≤ record_limit v
  pub leaf_pages : count_of 2 kinds ≤ leaf_limit v
  pub inner_pages : count_of 3 kinds ≤ inner_limit v

kinds_few : (v : Values) (bodies : List Body) → IsTrue (are_few v bodies) → AreFewKinds v (kinds_of bodies)
kinds_few v bodies few =
    let a = and_parts (nat_le (count_of_kind 1 bodies) (record_limit v)) (nat_le (count_of_kind 2 bodies) (leaf_limit v) && nat_le (count_of_kind 3 bodies) (inner_limit v)) few in
    let b = and_parts (nat_le (count_of_kind 2 bodies) (leaf_limit v)) (nat_le (count_of_kind 3 bodies) (inner_limit v)) a.1 in
    record {
      record_pages = leb-true (count_of_kind 1 bodies) (record_limit v) a.0;
      leaf_pages = leb-true (count_of_kind 2 bodies) (leaf_limit v) b.0;
      inner_pages = leb-true (count_of_kind 3 bodies) (inner_limit v) b.1;
    }

pub bodies_few : (v : Values) (bodies : List Body) (kinds : List ℕ) → kinds_of bodies ≡ kinds → AreFewKinds v kinds → IsTrue (are_few v bodies)
bodies_few v bodies kinds same few =
    let its : AreFewKinds v (kinds_of bodies) = subst (AreFewKinds v) (sym same) few in
    ap (λ (b : Bool). b && (nat_le (count_of_kind 2 bodies) (leaf_limit v) && nat_le (count_of_kind 3 bodies) (inner_limit v))) (le-leb (count_of_kind 1 bodies) (record_limit v) its.record_pages)
    ∙ ap (λ (b : Bool). b && nat_le (count_of_kind 3 bodies) (inner_limit v)) (le-leb (count_of_kind 2 bodies) (leaf_limit v) its.leaf_pages)
    ∙ le-leb (count_of_kind 3 bodies) (inner_limit v) its.inner_pages

module _ (below : Below) (dist : List ℕ → List ℕ → ℕ) (most : ℕ → ℕ) (h : HeadValue) (bodies : List Body) (pages : List (List ℕ)) (records : held.Held) (kept : Kept)
    (are : ArePagesOf h bodies pages) (can : CanBeSaved dist most h records kept) where
  abbrev size : ℕ
  size = size_on h.values

  abbrev before : List ℕ
  before = map number_of (all_slots bodies)

  abbrev numbers : List ℕ
  numbers = numbers_after h.values bodies records.vectors

  abbrev shapes : List Shape
  shapes = shapes_of kept.tree

  abbrev laid : Laid
  laid = saved_laid h.values bodies records.vectors kept

  abbrev saved : List Body
  saved = saved_bodies h.values bodies records.vectors kept

  pub tree_width : kept.tree.width ≡ width_of h.values.metric h.values.dim
  tree_width = can.kept_is.fits.held.same_width ∙ can.can.width

  pub size_some : 0 < size_on h.values
  size_some = some_slot (width_of h.values.metric h.values.dim) (subst (λ (n : ℕ). n ≤ 512) tree_width can.lawful.width.small)

  -- the records stand in slots
  pub no_record_at_zero : maps.contains_key records.vectors 0 ≡ false
  no_record_at_zero = no_zero h.values records.vectors can.can.each

  slots_are : AreSlots size (length before) (maps.keys records.vectors) numbers
  slots_are = below.stand size records.vectors before size_some (none_at_zero h.values records.vectors can.can.each) are.once

  pub apart : AreApart (numbers_after h.values bodies records.vectors)
  apart = slots_are.once

  pub all_stand : AllStand records.vectors kept (numbers_after h.values bodies records.vectors)
  all_stand = λ m some. slots_are.same m some ∙ has_keys records.vectors m

  before_long : length before ≡ size * count_of 1 (kinds_of bodies)
  before_long = length-map (all_slots bodies) number_of ∙ slots_read h.values 2 (drop 1 pages) bodies are.bodies_are

  -- the nodes stand in pages
  pub laid_sized : AreSized (kinds_of bodies) (length numbers / size) (shapes_of kept.tree) (saved_laid h.values bodies records.vectors kept)
  laid_sized = below.sized (kinds_of bodies) (length numbers / size) shapes (are_kinds bodies)

  pub saved_kinds : kinds_of (saved_bodies h.values bodies records.vectors kept) ≡ (saved_laid h.values bodies records.vectors kept).kinds
  saved_kinds = kinds_back size laid.kinds (map (slot_for records.vectors kept) numbers) (map (leaf_for (map (referred laid.refs) shapes)) laid.leaves) (map (inner_for (map (referred laid.refs) shapes)) laid.inners) laid_sized.kinds_are

  record_pages : count_of 1 laid.kinds ≡ slots_are.pages
  record_pages =
      let filled : length numbers / size ≡ slots_are.pages = ap (λ (n : ℕ). n / size) slots_are.whole ∙ mul-div_left slots_are.pages size_some in
      let least : count_of 1 (kinds_of bodies) ≤ slots_are.pages =
      no_fewer size (count_of 1 (kinds_of bodies)) slots_are.pages size_some (subst (λ (n : ℕ). n ≤ slots_are.pages * size) before_long (subst (λ (n : ℕ). length before ≤ n) slots_are.whole slots_are.no_fewer)) in
      laid_sized.record_pages ∙ ap (max (count_of 1 (kinds_of bodies))) filled ∙ greater (count_of 1 (kinds_of bodies)) slots_are.pages least
    where
      greater : (a b : ℕ) → a ≤ b → max a b ≡ b
      greater a b le = omega (arith, le)

  pub slots_long : length (map (slot_for records.vectors kept) numbers) ≡ size_on h.values * count_of 1 (saved_laid h.values bodies records.vectors kept).kinds
  slots_long = length-map numbers (slot_for records.vectors kept) ∙ slots_are.whole ∙ turned slots_are.pages size ∙ ap (λ (n : ℕ). size * n) (sym record_pages)
    where
      turned : (a b : ℕ) → a * b ≡ b * a
      turned a b = omega arith

  -- the pages are few
  pub laid_few : AreFewKinds h.values (saved_laid h.values bodies records.vectors kept).kinds
  laid_few =
      let old = kinds_few h.values bodies are.few in
      let held_are : maps.len (records_of kept.tree.height kept.tree.root) ≡ maps.len records.vectors = ap maps.len can.kept_is.fits.held.same_pairs in
      let leaf = subst (λ (n : ℕ). leaf_count shapes ≤ n / 7 + 1) held_are (leaves_at dist kept.tree.width (most kept.tree.width) kept.tree.height below.entries below.leaf_shapes kept.tree.root can.lawful.root) in
      let inner = subst (λ (n : ℕ). inner_count shapes ≤ n / 42 + 1) held_are (inners_at dist kept.tree.width (most kept.tree.width) kept.tree.height below.entries below.inner_shapes kept.tree.root can.lawful.root) in
      let slots : slots_are.pages * size < max (size * count_of 1 (kinds_of bodies)) (maps.len records.vectors) + size =
      subst (λ (n : ℕ). slots_are.pages * size < max (size * count_of 1 (kinds_of bodies)) n + size) (length-keys records.vectors)
      (subst (λ (n : ℕ). slots_are.pages * size < max n (length (maps.keys records.vectors)) + size) before_long
      (subst (λ (n : ℕ). n < max (length before) (length (maps.keys records.vectors)) + size) slots_are.whole slots_are.few)) in
      record {
        record_pages = subst (λ (n : ℕ). n ≤ record_limit h.values) (sym record_pages)
            (rows_few size (count_of 1 (kinds_of bodies)) (maps.len records.vectors) slots_are.pages h.values.cap size_some old.record_pages can.can.few slots);
        leaf_pages = leaves_few (count_of 2 (kinds_of bodies)) (maps.len records.vectors) (count_of 2 laid.kinds) (leaf_count shapes) h.values.cap old.leaf_pages can.can.few leaf laid_sized.leaf_pages;
        inner_pages = inners_few (count_of 3 (kinds_of bodies)) (maps.len records.vectors) (count_of 3 laid.kinds) (inner_count shapes) h.values.cap old.inner_pages can.can.few inner laid_sized.inner_pages;
      }

  pub saved_few : IsTrue (are_few h.values (saved_bodies h.values bodies records.vectors kept))
  saved_few = bodies_few h.values saved laid.kinds saved_kinds laid_few
