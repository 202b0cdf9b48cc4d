-- The checks behind the grammar of the pages, one behind another.
use Rattle.std.proofs.Common.{◌≡◌, ℕ, Bool, true, false, List, length, map, drop, Option, Some, None, Result, Ok, Err, refl, sym, ◌∙◌, ap, subst}
use Rattle.std.specs.Prelude.{◌==◌, IfOk}
use Rattle.std.proofs.lemmas.Bool.{eq-eqb, ne_eqb}
use Rattle.vec_record.specs.Held as held
use Rattle.vec_record.specs.Limits.{width_of}
use Rattle.mtree_index.specs.Plain.{PlainTree}
use Rattle.node_refs.specs.declared.pages.NodePage.{NodePage}
use Rattle.stored_lines.specs.declared.line.Line.{Line}
use Rattle.stored_lines.specs.declared.fault.Loose.{Loose}
use Rattle.stored_lines.specs.declared.fault.Loose.TheVariants.{Anchor, Label}
use Rattle.stored_lines.specs.Lines as lines_in
use Rattle.page_layout.specs.declared.body.Body.{Body}
use Rattle.page_layout.specs.Heads.{Values, HeadValue}
use Rattle.store_image.specs.declared.fault.StoreFault.{StoreFault}
use Rattle.store_image.specs.declared.fault.StoreFault.TheVariants.{Damaged}
use Rattle.kept_clusters.specs.Kept.{Kept}
use Rattle.count_book.specs.Counted.{Counted}
use Rattle.label_book.specs.Labels.{Labels}
use Rattle.store_image.specs.declared.sorted.Sorted.{Sorted}
use Rattle.store_image.specs.Contents.{kinds_of, all_slots, node_pages}
use Rattle.store_image.specs.Images.{Image, image_with, number_of, vectors_of, lines_of}
use Rattle.store_image.specs.Loading.{and_then, unless, head_in_pages, bodies_in, are_few, first_repeated, unless_repeated, unless_loose, tree_on, checked, load_of, Fails}
use Rattle.store_image.specs.inside.Reads.{repeats, parted, ties, ArePartsOf, image_by, remaining}
use Rattle.store_image.specs.declared.loaded.Places.{Places}
use Rattle.store_image.specs.Placing.{ArePagesOf, IsPaged, bodies_if_read, bodies_on}
use Rattle.store_image.proofs.LoadNumbers.{once_apart}
use Rattle.store_image.proofs.LoadReading.{go_on, fails_is, fails_then}

unless_then : {A : Type 0} (b : Bool) (fault : StoreFault) (o : Option ℕ) (width : ℕ) (kinds : List ℕ) (next : Result A StoreFault)
    → and_then (unless b fault (unless_repeated width kinds o (Ok tt))) (λ (_ : Unit {0}). next) ≡ unless b fault (unless_repeated width kinds o next)
unless_then true fault None width kinds next = refl
unless_then true fault (Some i) width kinds next = refl
unless_then false fault o width kinds next = refl

loose_then : {A : Type 0} (width : ℕ) (kinds numbers : List ℕ) (o : Option Loose) (next : Result A StoreFault)
    → and_then (unless_loose width kinds numbers o (Ok tt)) (λ (_ : Unit {0}). next) ≡ unless_loose width kinds numbers o next
loose_then width kinds numbers None next = refl
loose_then width kinds numbers (Some (Anchor i)) next = refl
loose_then width kinds numbers (Some (Label i)) next = refl

-- what remains, over the plain parts
abbrev over : HeadValue → List ℕ → List ℕ → List Line → List NodePage → held.Rows → Result Image StoreFault
over h kinds numbers lines nodes vectors =
    unless (length lines == h.count) (Damaged 1 32)
    (unless_loose (width_of h.values.metric h.values.dim) kinds numbers (lines_in.first_loose h.values.minpts lines)
    (and_then (tree_on h nodes vectors) (λ tree. Ok (image_with h (record { width = width_of h.values.metric h.values.dim; vectors = vectors })
    (record {
      eps = h.values.eps;
      tree = tree;
      counts = record { minpts = h.values.minpts; rows = lines_in.rows_of lines };
      labels = lines_in.labels_of h.values.minpts lines;
    })))))

-- pages that are no parts
pub parted_fails : (h : HeadValue) (bodies : List Body) (e : StoreFault) → Fails e (parted h.values bodies) → Fails e (checked h bodies)
parted_fails h bodies e fails =
    let width = width_of h.values.metric h.values.dim in
    let slots = all_slots bodies in
    let numbers = map number_of slots in
    let next : Result Image StoreFault = over h (kinds_of bodies) numbers (lines_of slots) (node_pages bodies) (vectors_of slots) in
    subst (Fails e) (unless_then (are_few h.values bodies) (Damaged 1 0) (first_repeated numbers) width (kinds_of bodies) next)
    (fails_then e (parted h.values bodies) (λ _. next) fails)

pub many_parted : (v : Values) (bodies : List Body) → are_few v bodies ≡ false → parted v bodies ≡ Err (Damaged 1 0)
many_parted v bodies many = ap (λ (b : Bool). unless b (Damaged 1 0) (repeats v (kinds_of bodies) (map number_of (all_slots bodies)))) many

pub repeats_fail : (v : Values) (bodies : List Body) (e : StoreFault) → are_few v bodies ≡ true → Fails e (repeats v (kinds_of bodies) (map number_of (all_slots bodies))) → Fails e (parted v bodies)
repeats_fail v bodies e few fails =
    subst (Fails e) (sym (ap (λ (b : Bool). unless b (Damaged 1 0) (repeats v (kinds_of bodies) (map number_of (all_slots bodies)))) few)) fails

pub parts_checked : (h : HeadValue) (bodies : List Body) (parts : Sorted) → ArePartsOf h.values bodies parts → checked h bodies ≡ remaining h parts
parts_checked h bodies parts are =
    let width = width_of h.values.metric h.values.dim in
    let slots = all_slots bodies in
    let numbers = map number_of slots in
    let next : Result Image StoreFault = over h (kinds_of bodies) numbers (lines_of slots) (node_pages bodies) (vectors_of slots) in
    ap (λ (b : Bool). unless b (Damaged 1 0) (unless_repeated width (kinds_of bodies) (first_repeated numbers) next)) are.few
    ∙ ap (λ (o : Option ℕ). unless_repeated width (kinds_of bodies) o next) are.once
    ∙ (λ i. over h (sym are.kinds i) (sym are.numbers i) (sym are.lines i) (sym are.nodes i) (sym are.vectors i))

-- what remains, check by check
pub remaining_uncounted : (h : HeadValue) (parts : Sorted) → (length parts.lines.items ≡ h.count → ⊥) → remaining h parts ≡ Err (Damaged 1 32)
remaining_uncounted h parts other =
    ap (λ (b : Bool). unless b (Damaged 1 32) (unless_loose (width_of h.values.metric h.values.dim) parts.kinds.items parts.numbers.items (lines_in.first_loose h.values.minpts parts.lines.items)
    (and_then (tree_on h parts.nodes.items parts.records.vectors) (λ tree. Ok (image_by h parts tree))))) (ne_eqb (length parts.lines.items) h.count other)

remaining_counted : (h : HeadValue) (parts : Sorted) → length parts.lines.items ≡ h.count
    → remaining h parts ≡ unless_loose (width_of h.values.metric h.values.dim) parts.kinds.items parts.numbers.items (lines_in.first_loose h.values.minpts parts.lines.items)
    (and_then (tree_on h parts.nodes.items parts.records.vectors) (λ tree. Ok (image_by h parts tree)))
remaining_counted h parts same =
    ap (λ (b : Bool). unless b (Damaged 1 32) (unless_loose (width_of h.values.metric h.values.dim) parts.kinds.items parts.numbers.items (lines_in.first_loose h.values.minpts parts.lines.items)
    (and_then (tree_on h parts.nodes.items parts.records.vectors) (λ tree. Ok (image_by h parts tree))))) (eq-eqb (length parts.lines.items) h.count same)

pub remaining_loose : (h : HeadValue) (parts : Sorted) (e : StoreFault) → length parts.lines.items ≡ h.count
    → Fails e (ties h.values parts.kinds.items parts.numbers.items parts.lines.items) → Fails e (remaining h parts)
remaining_loose h parts e same fails =
    let next : Result Image StoreFault = and_then (tree_on h parts.nodes.items parts.records.vectors) (λ tree. Ok (image_by h parts tree)) in
    subst (Fails e) (loose_then (width_of h.values.metric h.values.dim) parts.kinds.items parts.numbers.items (lines_in.first_loose h.values.minpts parts.lines.items) next ∙ sym (remaining_counted h parts same))
    (fails_then e (ties h.values parts.kinds.items parts.numbers.items parts.lines.items) (λ _. next) fails)

remaining_tied : (h : HeadValue) (parts : Sorted) → length parts.lines.items ≡ h.count → lines_in.first_loose h.values.minpts parts.lines.items ≡ None
    → remaining h parts ≡ and_then (tree_on h parts.nodes.items parts.records.vectors) (λ tree. Ok (image_by h parts tree))
remaining_tied h parts same tied =
    remaining_counted h parts same
    ∙ ap (λ (o : Option Loose). unless_loose (width_of h.values.metric h.values.dim) parts.kinds.items parts.numbers.items o (and_then (tree_on h parts.nodes.items parts.records.vectors) (λ tree. Ok (image_by h parts tree)))) tied

pub remaining_treeless : (h : HeadValue) (parts : Sorted) (e : StoreFault) → length parts.lines.items ≡ h.count → lines_in.first_loose h.values.minpts parts.lines.items ≡ None
    → Fails e (tree_on h parts.nodes.items parts.records.vectors) → Fails e (remaining h parts)
remaining_treeless h parts e same tied fails =
    subst (Fails e) (sym (remaining_tied h parts same tied)) (fails_then e (tree_on h parts.nodes.items parts.records.vectors) (λ tree. Ok (image_by h parts tree)) fails)

pub remaining_passes : (h : HeadValue) (parts : Sorted) (tree : PlainTree) → length parts.lines.items ≡ h.count → lines_in.first_loose h.values.minpts parts.lines.items ≡ None
    → tree_on h parts.nodes.items parts.records.vectors ≡ Ok tree → remaining h parts ≡ Ok (image_by h parts tree)
remaining_passes h parts tree same tied is =
    remaining_tied h parts same tied ∙ ap (λ (o : Result PlainTree StoreFault). and_then o (λ tree. Ok (image_by h parts tree))) is

-- what is kept by a tree and the books of the lines
pub kept_is : (v : Values) (lines : List Line) (tree : PlainTree) (counts : Counted) (labels : Labels) (kept : Kept) → kept ≡ record { eps = v.eps; tree = tree; counts = counts; labels = labels }
    → counts ≡ record { minpts = v.minpts; rows = lines_in.rows_of lines } → labels ≡ lines_in.labels_of v.minpts lines
    → kept ≡ record { eps = v.eps; tree = tree; counts = record { minpts = v.minpts; rows = lines_in.rows_of lines }; labels = lines_in.labels_of v.minpts lines }
kept_is v lines tree counts labels kept is a b = is ∙ (λ i. record { eps = v.eps; tree = tree; counts = a i; labels = b i })

pub state_image : (h : HeadValue) (parts : Sorted) (tree : PlainTree) (kept : Kept) → parts.records.width ≡ width_of h.values.metric h.values.dim
    → kept ≡ record { eps = h.values.eps; tree = tree; counts = record { minpts = h.values.minpts; rows = lines_in.rows_of parts.lines.items }; labels = lines_in.labels_of h.values.minpts parts.lines.items }
    → image_by h parts tree ≡ image_with h parts.records kept
state_image h parts tree kept width is = λ i. image_with h (record { width = sym width i; vectors = parts.records.vectors }) (sym is i)

-- the load by its parts
pub load_is : (pages : List (List ℕ)) (h : HeadValue) (bodies : List Body) → head_in_pages pages ≡ Ok h → bodies_in h.values 2 (drop 1 pages) ≡ Ok bodies → load_of pages ≡ checked h bodies
unfolding load_of
load_is pages h bodies head are =
    go_on (head_in_pages pages) (λ h. and_then (bodies_in h.values 2 (drop 1 pages)) (checked h)) h (checked h bodies) head
    (go_on (bodies_in h.values 2 (drop 1 pages)) (checked h) bodies (checked h bodies) are refl)

pub load_no_head : (pages : List (List ℕ)) (e : StoreFault) → head_in_pages pages ≡ Err e → Fails e (load_of pages)
unfolding load_of
load_no_head pages e is = fails_is e (load_of pages) (ap (λ o. and_then o (λ h. and_then (bodies_in h.values 2 (drop 1 pages)) (checked h))) is)

pub load_no_bodies : (pages : List (List ℕ)) (h : HeadValue) (e : StoreFault) → head_in_pages pages ≡ Ok h → Fails e (bodies_in h.values 2 (drop 1 pages)) → Fails e (load_of pages)
unfolding load_of
load_no_bodies pages h e head fails =
    subst (Fails e) (sym (go_on (head_in_pages pages) (λ h. and_then (bodies_in h.values 2 (drop 1 pages)) (checked h)) h (and_then (bodies_in h.values 2 (drop 1 pages)) (checked h)) head refl))
    (fails_then e (bodies_in h.values 2 (drop 1 pages)) (checked h) fails)

-- the places are those of the pages
pub paged_of : (h : HeadValue) (bodies : List Body) (parts : Sorted) (places : Places) (list : List (List ℕ)) → head_in_pages list ≡ Ok h → bodies_in h.values 2 (drop 1 list) ≡ Ok bodies
    → ArePartsOf h.values bodies parts → places.kinds.items ≡ parts.kinds.items → places.numbers.items ≡ parts.numbers.items → IsPaged h places list
paged_of h bodies parts places list head are of kinds numbers =
    let on : bodies_on h list ≡ bodies = ap bodies_if_read are in
    record {
      are = subst (λ (b : List Body). ArePagesOf h b list) (sym on) (record { head = head; bodies_are = are; few = of.few; once = once_apart (map number_of (all_slots bodies)) of.once });
      kinds = kinds ∙ of.kinds ∙ ap kinds_of (sym on);
      numbers = numbers ∙ of.numbers ∙ ap (λ (b : List Body). map number_of (all_slots b)) (sym on);
    }

-- what holds where three things do
pub if_all : {A E : Type 0} (P Q R S : A → Type 0) (r : Result A E) → ((x : A) → P x → Q x → R x → S x) → IfOk r P → IfOk r Q → IfOk r R → IfOk r S
if_all P Q R S (Ok x) all p q r = all x p q r
if_all P Q R S (Err e) all p q r = tt
