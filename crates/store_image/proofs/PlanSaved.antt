-- What a save that was planned leads to: its pages, their writes, and the state behind them.
use Rattle.std.proofs.Common.{◌≡◌, ℕ, ◌+◌, ◌*◌, ◌/◌, ◌<◌, ◌≤◌, List, [], ◌∷◌, ◌++◌, length, map, drop, get_or, Option, Some, None, Result, Ok, Err, refl, sym, ◌∙◌, ap, subst, arith, length-append}
use Rattle.std.specs.Option.{IfSome}
use Rattle.std.proofs.lemmas.List.{length-map, length-drop}
use Rattle.std.proofs.lemmas.Nat.{le-div}
use Rattle.std.proofs.Math.Nat.{mul-div_cancel, max-eq_right, mul_comm}
use Rattle.vec_record.specs.Held as held
use Rattle.vec_record.specs.Vectors.{IsWidth}
use Rattle.vec_record.specs.Limits.{width_of}
use Rattle.vec_record.specs.Spelled.{is_spelled}
use Rattle.mtree_node.specs.declared.node.Node.{Node}
use Rattle.mtree_node.specs.declared.shape.Shape.{Shape}
use Rattle.mtree_node.specs.Preorder.{size}
use Rattle.mtree_node.proofs.Sizes.{shapes_length}
use Rattle.tree_objects.specs.Laws.{AllPass, TagsKeep}
use Rattle.node_places.specs.Nodes.{count_of}
use Rattle.node_places.specs.Laws.{RecordsStand}
use Rattle.kept_clusters.specs.Kept.{Kept, Fit, with_tags}
use Rattle.tree_layout.specs.Layouts.{Laid, leaf_for, inner_for, referred}
use Rattle.tree_layout.specs.Laws.{LayoutsAreSized}
use Rattle.stored_tree.specs.Shapes.{shapes_at, shapes_of}
use Rattle.page_layout.specs.declared.body.Body.{Body}
use Rattle.page_layout.specs.Heads.{Values, HeadValue, head_of, head_page}
use Rattle.page_layout.specs.Bodies.{body_of, body_bytes}
use Rattle.page_gate.specs.Gate as gate
use Rattle.page_gate.specs.Writes.{written, new_count, IsPlan}
use Rattle.store_image.specs.declared.fault.StoreFault.{StoreFault}
use Rattle.store_image.specs.declared.loaded.Places.{Places}
use Rattle.store_image.specs.declared.layout.Next.{Next}
use Rattle.store_image.specs.Contents.{kind_of, kinds_of, all_slots}
use Rattle.store_image.specs.Images.{number_of}
use Rattle.store_image.specs.Loading.{and_then, in_page, head_in_pages, bodies_in}
use Rattle.store_image.specs.Placing.{size_on, slot_for, bodies_with, numbers_after, saved_head, saved_laid, saved_bodies, saved_pages, bodies_if_read, bodies_on, saved_on, writes_from, ArePagesOf, IsPaged, IsKept, CanBeSaved}
use Rattle.store_image.specs.SavedLaws.{SavedAreLawful, SavedAreRead, AreLawful}
use Rattle.store_image.specs.Stores.{HeadsCountPages}
use Rattle.store_image.specs.inside.Saves.{IsNext, next_bodies, next_pages}
use Rattle.store_image.proofs.SavedBodies.{slots_back}
use Rattle.store_image.proofs.SavedReads.{slots_read}
use Rattle.store_image.proofs.SavedSlots.{numbers_back, none_at_zero}
use Rattle.store_image.proofs.PlanLayout.{size_some}
use Rattle.store_image.proofs.PlanLayout as layout
use Rattle.store_image.proofs.PlanWrites.{plan_is, written_all, count_written}

-- as many body pages are read as there are
module _ (v : Values) where
  more_long : (more : List (List ℕ)) (bodies : List Body) (first : Body) (o : Result (List Body) StoreFault)
      → ((l : List Body) → o ≡ Ok l → length l ≡ length more)
      → and_then o (λ rest. Ok (first ∷ rest)) ≡ Ok bodies → length bodies ≡ length more + 1
  more_long more bodies first (Ok rest) ih is = let same : first ∷ rest ≡ bodies = cc in omega (arith, ap length (sym same), ih rest refl)
  more_long more bodies first (Err fault) ih is = absurd (cc)

  first_long : (more : List (List ℕ)) (bodies : List Body) (first : Result Body StoreFault) (o : Result (List Body) StoreFault)
      → ((l : List Body) → o ≡ Ok l → length l ≡ length more)
      → and_then first (λ one. and_then o (λ rest. Ok (one ∷ rest))) ≡ Ok bodies → length bodies ≡ length more + 1
  first_long more bodies (Ok first) o ih is = more_long more bodies first o ih is
  first_long more bodies (Err fault) o ih is = absurd (cc)

  pub bodies_long : (page : ℕ) (pages : List (List ℕ)) (bodies : List Body) → bodies_in v page pages ≡ Ok bodies → length bodies ≡ length pages
  unfolding bodies_in
  bodies_long page [] bodies is = let none : bodies ≡ [] = cc in ap length none
  bodies_long page (bytes ∷ more) bodies is =
      let one = first_long more bodies (in_page page (body_of v bytes)) (bodies_in v (page + 1) more) (bodies_long (page + 1) more) is in
      omega (arith, one)

-- what comes next is what is saved
pub next_are : (h : HeadValue) (bodies : List Body) (vectors : held.Rows) (kept : Kept) (next : Next) → IsNext h bodies vectors kept next
    → next_bodies h.values next vectors kept ≡ saved_bodies h.values bodies vectors kept
next_are h bodies vectors kept next is =
    let v = h.values in
    let laid = saved_laid v bodies vectors kept in
    let with : List ℕ → List ℕ → List Shape → List ℕ → List ℕ → List Body = λ kinds numbers shapes leaves inners.
    bodies_with (size_on v) kinds (map (slot_for vectors kept) numbers) (map (leaf_for shapes) leaves) (map (inner_for shapes) inners) in
    let shapes = map (referred laid.refs) (shapes_of kept.tree) in
    let numbers = numbers_after v bodies vectors in
    ap (λ (l : List ℕ). with l next.numbers.items next.shapes next.laid.leaves.items next.laid.inners.items) is.kinds
    ∙ ap (λ (l : List ℕ). with laid.kinds l next.shapes next.laid.leaves.items next.laid.inners.items) is.numbers
    ∙ ap (λ (l : List Shape). with laid.kinds numbers l next.laid.leaves.items next.laid.inners.items) is.shapes
    ∙ ap (λ (l : List ℕ). with laid.kinds numbers shapes l next.laid.inners.items) is.leaves
    ∙ ap (λ (l : List ℕ). with laid.kinds numbers shapes laid.leaves l) is.inners

pub next_are_pages : (h : HeadValue) (pages : List (List ℕ)) (vectors : held.Rows) (kept : Kept) (next : Next) → IsNext h (bodies_on h pages) vectors kept next
    → next_pages h.values next vectors kept ≡ saved_on h pages vectors kept
unfolding saved_pages
next_are_pages h pages vectors kept next is =
    ap (λ (x : HeadValue). head_page x ∷ map (body_bytes h.values) (next_bodies h.values next vectors kept)) is.head
    ∙ ap (λ (l : List Body). head_page (saved_head h (bodies_on h pages) vectors kept) ∷ map (body_bytes h.values) l) (next_are h (bodies_on h pages) vectors kept next is)

-- what is kept, with other tags
pub kept_after : TagsKeep → (v : Values) (tags : List ℕ) (records : held.Held) (kept new : Kept) → new ≡ with_tags tags kept
    → (Fit records kept → Fit records new) → IsKept v records kept → IsKept v records new
kept_after keep v tags records kept new new_is fits is = record {
  eps = ap (λ (k : Kept). k.eps) new_is ∙ is.eps;
  minpts = ap (λ (k : Kept). k.counts.minpts) new_is ∙ is.minpts;
  fits = fits is.fits;
  spelled = subst (λ (k : Kept). AllPass (is_spelled v.metric v.dim) k.tree) (sym new_is) (keep (is_spelled v.metric v.dim) tags kept.tree is.spelled);
}

-- a reference for each node is a tag for each node
pub tags_fit : (refs : List ℕ) (height : ℕ) (root : Option Node) → length refs ≡ length (shapes_at height root) → IfSome root (λ n. length refs ≡ size height n)
tags_fit refs height None is = tt
tags_fit refs height (Some n) is = is ∙ shapes_length height 0 n

-- What is true of a save before its pages are written: they can be, and the writes are a plan.
pub record CanPlan (h : HeadValue) (pages : List (List ℕ)) (vectors : held.Rows) (kept : Kept) : Type 0 where
  pub lawful : AreLawful (saved_head h (bodies_on h pages) vectors kept) (saved_bodies h.values (bodies_on h pages) vectors kept)
  pub no_fewer : length pages ≤ 1 + length (saved_laid h.values (bodies_on h pages) vectors kept).kinds
  pub plan : IsPlan pages (writes_from 1 pages (saved_on h pages vectors kept))
  pub written_is : written pages (writes_from 1 pages (saved_on h pages vectors kept)) ≡ saved_on h pages vectors kept
  pub count : new_count (writes_from 1 pages (saved_on h pages vectors kept)) ≡ 2 + length (saved_laid h.values (bodies_on h pages) vectors kept).kinds

other_batches : (h new : HeadValue) → new.batches ≡ h.batches + 1 → ◌≡◌ {A = Result HeadValue StoreFault} (Ok h) (Ok new) → ⊥
other_batches h new more is =
    let same : h ≡ new = cc in
    omega (arith, ap (λ (x : HeadValue). x.batches) same, more)

other_page : (pages : List (List ℕ)) (h new : HeadValue) (page : List ℕ) (news : List (List ℕ)) → head_in_pages pages ≡ Ok h → head_in_pages (page ∷ news) ≡ Ok new
    → new.batches ≡ h.batches + 1 → get_or pages 0 [] ≡ page → ⊥
unfolding head_in_pages
other_page pages h new page news old_is new_is more same =
    other_batches h new more (sym old_is ∙ ap (λ (p : List ℕ). in_page {A = HeadValue} 1 (head_of p)) same ∙ new_is)

module _ (dist : List ℕ → List ℕ → ℕ) (most : ℕ → ℕ) (h : HeadValue) (pages : List (List ℕ)) (records : held.Held) (kept : Kept)
    (read : SavedAreRead) (sized : LayoutsAreSized) (are : ArePagesOf h (bodies_on h pages) pages) (can : CanBeSaved dist most h records kept) where
  abbrev bodies : List Body
  bodies = bodies_on h pages

  abbrev numbers : List ℕ
  numbers = numbers_after h.values bodies records.vectors

  abbrev laid : Laid
  laid = saved_laid h.values bodies records.vectors kept

  abbrev new_head : HeadValue
  new_head = saved_head h bodies records.vectors kept

  abbrev new_bodies : List Body
  new_bodies = saved_bodies h.values bodies records.vectors kept

  abbrev new_pages : List (List ℕ)
  new_pages = saved_pages h bodies records.vectors kept

  some : 0 < size_on h.values
  some =
      let width : kept.tree.width ≡ width_of h.values.metric h.values.dim = can.kept_is.fits.held.same_width ∙ can.can.width in
      size_some (width_of h.values.metric h.values.dim) (subst IsWidth width can.lawful.width)

  new_are : ArePagesOf new_head new_bodies new_pages
  new_are = layout.saved_are dist most h bodies pages records kept read sized some are can

  new_kinds : kinds_of new_bodies ≡ laid.kinds
  new_kinds = layout.saved_kinds dist most h bodies pages records kept read sized some are can

  -- there are as many pages as kinds, and one more
  new_long : length (map (body_bytes h.values) new_bodies) ≡ length laid.kinds
  new_long = length-map new_bodies (body_bytes h.values) ∙ sym (length-map new_bodies kind_of) ∙ ap length new_kinds

  old_long : length pages ≤ length (kinds_of bodies) + 1
  old_long = omega (arith, bodies_long h.values 2 (drop 1 pages) bodies are.bodies_are, length-drop 1 pages, length-map bodies kind_of)

  no_fewer_kinds : length (kinds_of bodies) ≤ length laid.kinds
  no_fewer_kinds = longer (kinds_of bodies) _
    where
      longer : (front back : List ℕ) → length front ≤ length (front ++ back)
      longer front back = omega (arith, length-append front back)

  pub can_plan : SavedAreLawful → HeadsCountPages → CanPlan h pages records.vectors kept
  unfolding saved_pages
  can_plan lawful_law counts =
      let lawful = lawful_law dist most h bodies pages records kept are can in
      let first = head_page new_head in
      let news = map (body_bytes h.values) new_bodies in
      let other : get_or pages 0 [] ≡ first → ⊥ = other_page pages h new_head first news are.head new_are.head refl in
      let counted : gate.count_of first ≡ 2 + length laid.kinds = counts new_head lawful.head in
      let within : length pages ≤ length news + 1 = omega (arith, old_long, no_fewer_kinds, new_long) in
      record {
        lawful = lawful;
        no_fewer = omega (arith, old_long, no_fewer_kinds);
        plan = plan_is pages first news other within (omega (arith, counted, new_long));
        written_is = written_all pages (first ∷ news) (omega (arith, within));
        count = count_written pages first news other ∙ counted;
      }

  pub refs_long : length laid.refs ≡ length (shapes_of kept.tree)
  refs_long = (layout.laid_sized dist most h bodies pages records kept read sized some are can).refs_are

  -- the slots are those of the record pages
  whole : RecordsStand → length numbers ≡ size_on h.values * count_of 1 laid.kinds
  whole stand =
      let size = size_on h.values in
      let before = map number_of (all_slots bodies) in
      let stood = stand size records.vectors before some (none_at_zero h.values records.vectors can.can.each) are.once in
      let old : length before ≡ size * count_of 1 (kinds_of bodies) =
      length-map (all_slots bodies) number_of ∙ slots_read h.values 2 (drop 1 pages) bodies are.bodies_are in
      let times : count_of 1 (kinds_of bodies) * size ≤ length numbers = omega (arith, old, stood.no_fewer, mul_comm size (count_of 1 (kinds_of bodies))) in
      let fewer : count_of 1 (kinds_of bodies) ≤ length numbers / size = le-div (count_of 1 (kinds_of bodies)) (length numbers) size some times in
      let parts : length numbers / size ≡ stood.pages = ap (λ (n : ℕ). n / size) stood.whole ∙ mul-div_cancel stood.pages some in
      let kinds : count_of 1 laid.kinds ≡ stood.pages =
      (layout.laid_sized dist most h bodies pages records kept read sized some are can).record_pages ∙ max-eq_right fewer ∙ parts in
      stood.whole ∙ mul_comm stood.pages size ∙ ap (λ (n : ℕ). size * n) (sym kinds)

  new_numbers : RecordsStand → map number_of (all_slots new_bodies) ≡ numbers
  new_numbers stand =
      let slots = map (slot_for records.vectors kept) numbers in
      let long : length slots ≡ size_on h.values * count_of 1 laid.kinds = length-map numbers (slot_for records.vectors kept) ∙ whole stand in
      let kinds_are = (layout.laid_sized dist most h bodies pages records kept read sized some are can).kinds_are in
      ap (map number_of) (slots_back (size_on h.values) laid.kinds slots _ _ kinds_are long) ∙ numbers_back records.vectors kept numbers

  -- the places are those of the new pages
  pub paged_after : RecordsStand → (head : HeadValue) (places : Places) → head ≡ new_head → places.kinds.items ≡ laid.kinds → places.numbers.items ≡ numbers
      → IsPaged head places new_pages
  paged_after stand head places head_is kinds_is numbers_is =
      let back : bodies_on new_head new_pages ≡ new_bodies = ap bodies_if_read new_are.bodies_are in
      subst (λ (x : HeadValue). IsPaged x places new_pages) (sym head_is) (record {
        are = subst (λ (l : List Body). ArePagesOf new_head l new_pages) (sym back) new_are;
        kinds = kinds_is ∙ sym new_kinds ∙ ap kinds_of (sym back);
        numbers = numbers_is ∙ sym (new_numbers stand) ∙ ap (λ (l : List Body). map number_of (all_slots l)) (sym back);
      })
