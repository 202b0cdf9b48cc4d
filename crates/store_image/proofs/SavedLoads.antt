-- What is saved loads as what it was: its lines say the books again, and its nodes the tree.
use Rattle.std.proofs.Common.{◌≡◌, ℕ, zero, suc, ◌+◌, ◌/◌, ◌<◌, Bool, List, [], ◌∷◌, length, map, drop, get_or, Option, Some, None, Result, Ok, refl, sym, ◌∙◌, ap, subst, arith, IsTrue}
use Rattle.std.specs.Prelude.{◌==◌}
use Rattle.std.specs.List.{AllByRecursion}
use Rattle.std.specs.FinMap as maps
use Rattle.std.proofs.lemmas.Bool.{eq-eqb}
use Rattle.std.proofs.lemmas.List.{length-map}
use Rattle.vec_record.specs.Held as held
use Rattle.vec_record.specs.Limits.{width_of}
use Rattle.vec_record.specs.Distance.{distance_of}
use Rattle.mtree_node.specs.declared.node.InnerEntry.{InnerEntry, out-InnerEntry}
use Rattle.mtree_node.specs.declared.node.Node.{Node, out-Node}
use Rattle.mtree_node.specs.declared.node.Node.TheOpen.{Node-F}
use Rattle.mtree_node.specs.declared.shape.Shape.{Shape}
use Rattle.mtree_node.specs.Layer.{Layer}
use Rattle.mtree_node.specs.Preorder.{leaf_row, size, inner_rows, shapes_below, shapes_in, shapes_from}
use Rattle.mtree_node.specs.Tree.{leaves, IsFilled, IsInnerEntry, IsNode, IsNodeIn}
use Rattle.mtree_index.specs.Plain.{PlainTree}
use Rattle.mtree_index.specs.Tree.{contents, IsRoot, IsLawful}
use Rattle.mtree_index.proofs.Places.{all_append}
use Rattle.node_refs.specs.declared.pages.NodePage.{NodePage}
use Rattle.node_refs.specs.Laws.{AreLaid}
use Rattle.node_walks.specs.Alike.{AreAlike, TreesAreAlike}
use Rattle.count_book.specs.Counted.{Counted}
use Rattle.label_book.specs.Labels.{Labels}
use Rattle.stored_lines.specs.declared.line.Line.{Line}
use Rattle.stored_lines.specs.declared.fault.Loose.{Loose}
use Rattle.stored_lines.specs.Lines.{first_loose, line_in, rows_of, labels_of}
use Rattle.stored_lines.specs.Laws.{AreHung, AreLinesOf}
use Rattle.kept_clusters.specs.Kept.{Kept, with_tags as kept_tagged}
use Rattle.stored_tree.specs.Shapes.{shapes_at, shapes_of, with_tags}
use Rattle.stored_tree.specs.Reading.{tree_in}
use Rattle.stored_tree.specs.Laws.{LaidTreesAreRead}
use Rattle.tree_layout.specs.Layouts.{Laid, leaf_for, inner_for, referred, pages_of}
use Rattle.tree_layout.specs.Laws.{HasRows, NodesAreLaid}
use Rattle.page_layout.specs.declared.body.Body.{Body}
use Rattle.page_layout.specs.Heads.{HeadValue}
use Rattle.page_layout.specs.Slots.{Rows}
use Rattle.store_image.specs.declared.fault.StoreFault.{StoreFault}
use Rattle.store_image.specs.declared.fault.StoreFault.TheVariants.{Damaged}
use Rattle.store_image.specs.Contents.{kinds_of, all_slots, node_pages}
use Rattle.store_image.specs.Images.{Image, image_with, number_of, vectors_of, lines_of, held_in, kept_in}
use Rattle.store_image.specs.Loading.{and_then, unless, unless_repeated, unless_loose, first_repeated, are_few, in_tree, tree_on, image_of_parts, checked, load_of, bodies_in}
use Rattle.store_image.specs.Placing.{size_on, slot_for, numbers_after, saved_head, saved_laid, saved_bodies, saved_pages, saved_image, ArePagesOf, CanBeSaved}
use Rattle.store_image.specs.SavedLaws.{IsOfKind, SavedAreRead, SavedLoad}
use Rattle.store_image.proofs.SavedBodies.{are_kinds, slots_back, pages_back}
use Rattle.store_image.proofs.SavedNumbers.{none_repeated, used_in}
use Rattle.store_image.proofs.SavedSlots.{lines_back, lines_long, vectors_back, lines_told}
use Rattle.store_image.proofs.SavedCounts.{Below, tree_width, no_record_at_zero, apart, all_stand, laid_sized, slots_long}

-- each check of a load that passes leads to the next
module _ (h : HeadValue) (bodies : List Body) where
  abbrev kinds : List ℕ
  kinds = kinds_of bodies

  abbrev width_here : ℕ
  width_here = width_of h.values.metric h.values.dim

  abbrev numbers_in : List ℕ
  numbers_in = map number_of (all_slots bodies)

  abbrev grown : Result Image StoreFault
  grown = and_then (tree_on h (node_pages bodies) (vectors_of (all_slots bodies))) (image_of_parts h (all_slots bodies))

  abbrev hung_by : Result Image StoreFault
  hung_by = unless_loose width_here kinds numbers_in (first_loose h.values.minpts (lines_of (all_slots bodies))) grown

  abbrev full : Result Image StoreFault
  full = unless (length (lines_of (all_slots bodies)) == h.count) (Damaged 1 32) hung_by

  abbrev numbered : Result Image StoreFault
  numbered = unless_repeated width_here kinds (first_repeated numbers_in) full

  pub checked_is : (tree : PlainTree) → IsTrue (are_few h.values bodies) → first_repeated (map number_of (all_slots bodies)) ≡ None
      → length (lines_of (all_slots bodies)) ≡ h.count → first_loose h.values.minpts (lines_of (all_slots bodies)) ≡ None
      → tree_on h (node_pages bodies) (vectors_of (all_slots bodies)) ≡ Ok tree
      → checked h bodies ≡ Ok (image_with h (held_in h.values (all_slots bodies)) (kept_in h.values (all_slots bodies) tree))
  checked_is tree few once counted tied tree_is =
      ap (λ (b : Bool). unless b (Damaged 1 0) numbered) few
      ∙ ap (λ (o : Option ℕ). unless_repeated width_here kinds o full) once
      ∙ ap (λ (b : Bool). unless b (Damaged 1 32) hung_by) (eq-eqb (length (lines_of (all_slots bodies))) h.count counted)
      ∙ ap (λ (o : Option Loose). unless_loose width_here kinds numbers_in o grown) tied
      ∙ ap (λ (o : Result PlainTree StoreFault). and_then o (image_of_parts h (all_slots bodies))) tree_is

-- each node of a tree has an entry
module _ (dist : List ℕ → List ℕ → ℕ) (width greatest : ℕ) where
  abbrev Under : ℕ → List ℕ → Node → Type 0
  Under h object n = IsNode dist width greatest h (Some object) n

  abbrev IsEntry : ℕ → Option (List ℕ) → InnerEntry → Type 0
  IsEntry h over e = IsInnerEntry dist width greatest (Under h) (leaves h) over (out-InnerEntry e)

  one_filled : (over : Option (List ℕ)) (n : ℕ) → IsFilled over 1 n → 0 < n
  one_filled None n is = omega (arith, is.0)
  one_filled (Some object) n is = omega (arith, is.0)

  two_filled : (over : Option (List ℕ)) (n : ℕ) → IsFilled over 2 n → 0 < n
  two_filled None n is = omega (arith, is.0)
  two_filled (Some object) n is = omega (arith, is.0)

  length-inner_rows : (h at : ℕ) (es : List InnerEntry) → length (inner_rows (size h) at es) ≡ length es
  length-inner_rows h at [] = refl
  length-inner_rows h at (e ∷ es) = ap suc (length-inner_rows h (at + size h (out-InnerEntry e).child) es)

  -- what is to be proved, at one height
  abbrev FullAt : ℕ → Type 0
  FullAt h = (at : ℕ) (over : Option (List ℕ)) (n : Node) → IsNode dist width greatest h over n → AllByRecursion HasRows (shapes_from h at n)

  below_full : (h : ℕ) → FullAt h → (at : ℕ) (over : Option (List ℕ)) (es : List InnerEntry) → AllByRecursion (IsEntry h over) es → AllByRecursion HasRows (shapes_below (size h) (shapes_from h) at es)
  below_full h ih at over [] each = tt
  below_full h ih at over (e ∷ es) each =
      let child = (out-InnerEntry e).child in
      all_append HasRows (shapes_from h at child) (shapes_below (size h) (shapes_from h) (at + size h child) es)
      (ih at (Some (out-InnerEntry e).object) child each.0.child) (below_full h ih (at + size h child) over es each.1)

  layer_full : (h : ℕ) → FullAt h → (at : ℕ) (over : Option (List ℕ)) (n : Layer) → IsNodeIn dist width greatest h (Under h) (leaves h) over n → AllByRecursion HasRows (shapes_in (size h) (shapes_from h) at n)
  layer_full h ih at over (Node-F.Leaf tag es) is =
      let long : length (map leaf_row es) ≡ length es = length-map es leaf_row in
      let some : 0 < length (map leaf_row es) = omega (arith, long, one_filled over (length es) is.1) in
      (some, tt)
  layer_full h ih at over (Node-F.Inner tag es) is =
      let long = length-inner_rows h (at + 1) es in
      let some : 0 < length (inner_rows (size h) (at + 1) es) = omega (arith, long, two_filled over (length es) is.1) in
      (some, below_full h ih (at + 1) over es is.2)

  nodes_full : (h : ℕ) → FullAt h
  nodes_full zero at over n is = absurd is
  nodes_full (suc h) at over n is = layer_full h (nodes_full h) at over (out-Node n) is

  shapes_full : (h : ℕ) (root : Option Node) → IsRoot dist width greatest h root → AllByRecursion HasRows (shapes_at h root)
  shapes_full h None is = tt
  shapes_full h (Some n) is = nodes_full h 0 None n is.node

  -- a tree under another distance
  root_alike : TreesAreAlike → (other : List ℕ → List ℕ → ℕ) → AreAlike width dist other → (h : ℕ) (root : Option Node) → IsRoot dist width greatest h root → IsRoot other width greatest h root
  root_alike law other alike h None is = is
  root_alike law other alike h (Some n) is = law width dist other alike greatest h n is

-- a collection of records, and what is kept, of their parts
abbrev held_with : ℕ → held.Rows → held.Held
held_with width vectors = record { width = width; vectors = vectors }

abbrev kept_with : ℕ → PlainTree → Counted → Labels → Kept
kept_with eps tree counts labels = record { eps = eps; tree = tree; counts = counts; labels = labels }

module _ (below : Below) (dist : List ℕ → List ℕ → ℕ) (most : ℕ → ℕ) (h : HeadValue) (bodies : List Body) (pages : List (List ℕ)) (records : held.Held) (kept : Kept)
    (are : ArePagesOf h bodies pages) (can : CanBeSaved dist most h records kept) where
  abbrev size_here : ℕ
  size_here = size_on h.values

  abbrev numbers : List ℕ
  numbers = numbers_after h.values bodies records.vectors

  abbrev shapes : List Shape
  shapes = shapes_of kept.tree

  abbrev laid : Laid
  laid = saved_laid h.values bodies records.vectors kept

  abbrev saved : List Body
  saved = saved_bodies h.values bodies records.vectors kept

  abbrev nodes : List Shape
  nodes = map (referred laid.refs) shapes

  -- the slots, their vectors and their lines
  pub slots_are : all_slots (saved_bodies h.values bodies records.vectors kept) ≡ map (slot_for records.vectors kept) (numbers_after h.values bodies records.vectors)
  slots_are =
      slots_back size_here laid.kinds (map (slot_for records.vectors kept) numbers) (map (leaf_for nodes) laid.leaves) (map (inner_for nodes) laid.inners)
      (laid_sized below dist most h bodies pages records kept are can).kinds_are (slots_long below dist most h bodies pages records kept are can)

  vectors_are : vectors_of (all_slots (saved_bodies h.values bodies records.vectors kept)) ≡ records.vectors
  vectors_are =
      ap vectors_of slots_are
      ∙ vectors_back records.vectors kept numbers (all_stand below dist most h bodies pages records kept are can) (no_record_at_zero below dist most h bodies pages records kept are can)

  lines_are : lines_of (all_slots (saved_bodies h.values bodies records.vectors kept)) ≡ map (line_in kept.counts kept.labels) (used_in (numbers_after h.values bodies records.vectors))
  lines_are = ap lines_of slots_are ∙ lines_back records.vectors kept numbers

  count_is : length (lines_of (all_slots (saved_bodies h.values bodies records.vectors kept))) ≡ maps.len records.vectors
  count_is =
      ap (λ (rows : Rows). length (lines_of rows)) slots_are
      ∙ lines_long records.vectors kept numbers (all_stand below dist most h bodies pages records kept are can) (no_record_at_zero below dist most h bodies pages records kept are can)
      (apart below dist most h bodies pages records kept are can)

  pages_are : node_pages (saved_bodies h.values bodies records.vectors kept) ≡ pages_of (saved_laid h.values bodies records.vectors kept) (shapes_of kept.tree)
  pages_are =
      pages_back size_here laid.kinds (map (slot_for records.vectors kept) numbers) (map (leaf_for nodes) laid.leaves) (map (inner_for nodes) laid.inners)
      (laid_sized below dist most h bodies pages records kept are can).kinds_are

  told : AreHung kept.counts → AreLinesOf kept.counts kept.labels (map (line_in kept.counts kept.labels) (used_in (numbers_after h.values bodies records.vectors)))
  told hung =
      lines_told kept.tree.width (contents kept.tree) records kept can.kept_is.fits (no_record_at_zero below dist most h bodies pages records kept are can)
      numbers (apart below dist most h bodies pages records kept are can) (all_stand below dist most h bodies pages records kept are can) hung

  tied_is : AreHung kept.counts → first_loose h.values.minpts (lines_of (all_slots (saved_bodies h.values bodies records.vectors kept))) ≡ None
  tied_is hung =
      ap (first_loose h.values.minpts) lines_are
      ∙ ap (λ (m : ℕ). first_loose m (map (line_in kept.counts kept.labels) (used_in numbers))) (sym can.kept_is.minpts) ∙ (told hung).tied

  -- the tree is read again
  lawful_by : TreesAreAlike → IsOfKind h records dist → IsLawful (distance_of h.values.metric) most kept.tree
  lawful_by law alike =
      let its : AreAlike kept.tree.width dist (distance_of h.values.metric) = subst (λ (w : ℕ). AreAlike w dist (distance_of h.values.metric)) (sym can.kept_is.fits.held.same_width) alike in
      record {
        width = can.lawful.width;
        root = root_alike dist kept.tree.width (most kept.tree.width) law (distance_of h.values.metric) its kept.tree.height kept.tree.root can.lawful.root;
        low = can.lawful.low;
      }

  nodes_laid : NodesAreLaid → AreLaid (pages_of (saved_laid h.values bodies records.vectors kept) (shapes_of kept.tree)) (shapes_of kept.tree) (saved_laid h.values bodies records.vectors kept).refs
  nodes_laid law =
      law (kinds_of bodies) (length numbers / size_here) shapes (are_kinds bodies)
      (shapes_full dist kept.tree.width (most kept.tree.width) kept.tree.height kept.tree.root can.lawful.root)

  tree_is : NodesAreLaid → LaidTreesAreRead → TreesAreAlike → IsOfKind h records dist
      → tree_on (saved_head h bodies records.vectors kept) (node_pages (saved_bodies h.values bodies records.vectors kept)) (vectors_of (all_slots (saved_bodies h.values bodies records.vectors kept)))
      ≡ Ok (with_tags (saved_laid h.values bodies records.vectors kept).refs kept.tree)
  tree_is law read trees alike =
      let by = distance_of h.values.metric in
      let root = get_or laid.refs 0 0 in
      let high = kept.tree.height in
      ap (λ (p : List NodePage). in_tree (tree_in by (width_of h.values.metric h.values.dim) high root p (vectors_of (all_slots saved)))) pages_are
      ∙ ap (λ (r : held.Rows). in_tree (tree_in by (width_of h.values.metric h.values.dim) high root (pages_of laid shapes) r)) (vectors_are ∙ sym can.kept_is.fits.held.same_pairs)
      ∙ ap (λ (w : ℕ). in_tree (tree_in by w high root (pages_of laid shapes) (contents kept.tree))) (sym (tree_width below dist most h bodies pages records kept are can))
      ∙ ap in_tree (read by most kept.tree (pages_of laid shapes) laid.refs (lawful_by trees alike) (nodes_laid law))

  -- the records and what is kept of their clusters
  held_is : held_in h.values (all_slots (saved_bodies h.values bodies records.vectors kept)) ≡ records
  held_is =
      ap (held_with (width_of h.values.metric h.values.dim)) vectors_are ∙ ap (λ (w : ℕ). held_with w records.vectors) (sym can.can.width)

  kept_is : AreHung kept.counts → kept_in h.values (all_slots (saved_bodies h.values bodies records.vectors kept)) (with_tags (saved_laid h.values bodies records.vectors kept).refs kept.tree)
      ≡ kept_tagged (saved_laid h.values bodies records.vectors kept).refs kept
  kept_is hung =
      let tree = with_tags laid.refs kept.tree in
      let lines = map (line_in kept.counts kept.labels) (used_in numbers) in
      let minpts : h.values.minpts ≡ kept.counts.minpts = sym can.kept_is.minpts in
      let its = told hung in
      ap (λ (l : List Line). kept_with h.values.eps tree (record { minpts = h.values.minpts; rows = rows_of l }) (labels_of h.values.minpts l)) lines_are
      ∙ ap (λ (m : ℕ). kept_with h.values.eps tree (record { minpts = m; rows = rows_of lines }) (labels_of m lines)) minpts
      ∙ ap (λ (r : _). kept_with h.values.eps tree (record { minpts = kept.counts.minpts; rows = r }) (labels_of kept.counts.minpts lines)) its.rows
      ∙ ap (kept_with h.values.eps tree kept.counts) its.labels_are
      ∙ ap (λ (e : ℕ). kept_with e tree kept.counts kept.labels) (sym can.kept_is.eps)

  loads : NodesAreLaid → LaidTreesAreRead → TreesAreAlike → AreHung kept.counts → IsOfKind h records dist
      → ArePagesOf (saved_head h bodies records.vectors kept) (saved_bodies h.values bodies records.vectors kept) (saved_pages h bodies records.vectors kept)
      → load_of (saved_pages h bodies records.vectors kept) ≡ Ok (saved_image h bodies records kept)
  unfolding load_of
  loads law read trees hung alike again =
      let head = saved_head h bodies records.vectors kept in
      let all = saved_pages h bodies records.vectors kept in
      let refs = laid.refs in
      ap (λ (o : Result HeadValue StoreFault). and_then o (λ v. and_then (bodies_in v.values 2 (drop 1 all)) (checked v))) again.head
      ∙ ap (λ (o : Result (List Body) StoreFault). and_then o (checked head)) again.bodies_are
      ∙ checked_is head saved (with_tags refs kept.tree) again.few (none_repeated (map number_of (all_slots saved)) again.once) count_is (tied_is hung) (tree_is law read trees alike)
      ∙ ap (λ (r : held.Held). Ok (image_with head r (kept_in h.values (all_slots saved) (with_tags refs kept.tree)))) held_is
      ∙ ap (λ (k : Kept). Ok (image_with head records k)) (kept_is hung)

pub saved_load : Below → NodesAreLaid → LaidTreesAreRead → TreesAreAlike → SavedAreRead → SavedLoad
saved_load below law read trees again dist most h bodies pages records kept are can hung alike =
    loads below dist most h bodies pages records kept are can law read trees hung alike (again dist most h bodies pages records kept are can)
