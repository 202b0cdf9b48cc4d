-- What is read of pages, part by part.
use Rattle.std.proofs.Common.{◌≡◌, ℕ, ◌+◌, Bool, true, false, cond, List, [], ◌∷◌, ◌++◌, length, map, drop, get_or, Option, Some, None, Result, Ok, Err, refl, sym, ◌∙◌, ap, subst}
use Rattle.std.specs.Prelude.{◌==◌}
use Rattle.std.specs.List.{flat_map}
use Rattle.vec_record.specs.Limits.{width_of}
use Rattle.mtree_index.specs.Plain.{PlainTree}
use Rattle.mtree_node.specs.Preorder.{LeafRow, InnerRow}
use Rattle.page_gate.specs.Gate.{part, number_4}
use Rattle.page_layout.specs.declared.fault.LayoutFault.{LayoutFault}
use Rattle.page_layout.specs.declared.fault.LayoutFault.TheVariants as layout_fault
use Rattle.page_layout.specs.declared.body.Body.{Body}
use Rattle.page_layout.specs.declared.body.Body.TheVariants as body
use Rattle.page_layout.specs.Fields.{first_bad, unless_bad}
use Rattle.page_layout.specs.Heads.{Values, HeadValue, head_of, head_in, head_fields}
use Rattle.page_layout.specs.Slots.{Rows, rows_in, rows_of_page, record_fields}
use Rattle.page_layout.specs.Leaves.{leaves_of}
use Rattle.page_layout.specs.Inner.{inner_of}
use Rattle.page_layout.specs.Bodies.{as_body, body_of}
use Rattle.stored_lines.specs.declared.fault.Loose.{Loose}
use Rattle.stored_lines.specs.declared.fault.Loose.TheVariants as loose
use Rattle.stored_lines.specs.Lines.{first_loose}
use Rattle.store_image.specs.declared.fault.StoreFault.{StoreFault}
use Rattle.store_image.specs.declared.fault.StoreFault.TheVariants.{Damaged}
use Rattle.store_image.specs.Contents.{kinds_of, slots_of, all_slots, node_pages}
use Rattle.store_image.specs.Images.{Image, image_with, number_of, vectors_of, lines_of, kept_in, held_in}
use Rattle.store_image.specs.Loading.{and_then, unless, in_page, head_in_pages, bodies_in, are_few, first_repeated, unless_repeated, unless_loose, tree_on, image_of_parts, checked, load_of}
use Rattle.store_image.specs.Stores.{slots_if_any}

-- ---- steps

-- a step that came to a value
pub record Passed {A B : Type 0} (o : Result A LayoutFault) (next : A → Result B StoreFault) (b : B) : Type 0 where
  pub value : A
  pub first : o ≡ Ok value
  pub then_is : next value ≡ Ok b

pub passed : {A B : Type 0} (page : ℕ) (o : Result A LayoutFault) (next : A → Result B StoreFault) (b : B) → and_then (in_page page o) next ≡ Ok b → Passed o next b
passed page (Ok x) next b is = record { value = x; first = refl; then_is = is }
passed page (Err layout_fault.Foreign) next b is = absurd (cc)
passed page (Err (layout_fault.Damaged offset)) next b is = absurd (cc)
passed page (Err layout_fault.Memory) next b is = absurd (cc)

-- the same of a step that has a place already
pub record Went {A B : Type 0} (o : Result A StoreFault) (next : A → Result B StoreFault) (b : B) : Type 0 where
  pub value : A
  pub first : o ≡ Ok value
  pub then_is : next value ≡ Ok b

pub went : {A B : Type 0} (o : Result A StoreFault) (next : A → Result B StoreFault) (b : B) → and_then o next ≡ Ok b → Went o next b
went (Ok x) next b is = record { value = x; first = refl; then_is = is }
went (Err fault) next b is = absurd (cc)

pub go_on : {A B : Type 0} (o : Result A StoreFault) (next : A → Result B StoreFault) (a : A) (r : Result B StoreFault) → o ≡ Ok a → next a ≡ r → and_then o next ≡ r
go_on o next a r is then_is = ap (λ o'. and_then o' next) is ∙ then_is

-- checks that passed
pub test_passed : {A : Type 0} (b : Bool) (fault : StoreFault) (next : Result A StoreFault) (x : A) → unless b fault next ≡ Ok x → (b ≡ true) × (next ≡ Ok x)
test_passed true fault next x is = (refl, is)
test_passed false fault next x is = absurd (cc)

pub once_passed : {A : Type 0} (width : ℕ) (kinds : List ℕ) (o : Option ℕ) (next : Result A StoreFault) (x : A) → unless_repeated width kinds o next ≡ Ok x → (o ≡ None) × (next ≡ Ok x)
once_passed width kinds None next x is = (refl, is)
once_passed width kinds (Some i) next x is = absurd (cc)

pub tied_passed : {A : Type 0} (width : ℕ) (kinds numbers : List ℕ) (o : Option Loose) (next : Result A StoreFault) (x : A) → unless_loose width kinds numbers o next ≡ Ok x → (o ≡ None) × (next ≡ Ok x)
tied_passed width kinds numbers None next x is = (refl, is)
tied_passed width kinds numbers (Some (loose.Anchor i)) next x is = absurd (cc)
tied_passed width kinds numbers (Some (loose.Label i)) next x is = absurd (cc)

-- ---- body pages

same_ok : {A F : Type 0} (x y : A) → ◌≡◌ {A = Result A F} (Ok x) (Ok y) → y ≡ x
same_ok x y is = cc

pub no_bodies : (v : Values) (page : ℕ) → bodies_in v page [] ≡ Ok []
unfolding bodies_in
no_bodies v page = refl

pub none_of : (v : Values) (page : ℕ) (bodies : List Body) → bodies_in v page [] ≡ Ok bodies → bodies ≡ []
none_of v page bodies is = same_ok [] bodies (sym (no_bodies v page) ∙ is)

-- a first body page and others
pub record Bodies (v : Values) (page : ℕ) (bytes : List ℕ) (more : List (List ℕ)) (bodies : List Body) : Type 0 where
  pub mine : Body
  pub rest : List Body
  pub first : body_of v bytes ≡ Ok mine
  pub others : bodies_in v (page + 1) more ≡ Ok rest
  pub all : bodies ≡ mine ∷ rest

pub body_parts : (v : Values) (page : ℕ) (bytes : List ℕ) (more : List (List ℕ)) (bodies : List Body) → bodies_in v page (bytes ∷ more) ≡ Ok bodies → Bodies v page bytes more bodies
unfolding bodies_in
body_parts v page bytes more bodies is =
    let one = passed page (body_of v bytes) (λ first. and_then (bodies_in v (page + 1) more) (λ rest. Ok (first ∷ rest))) bodies is in
    let two = went (bodies_in v (page + 1) more) (λ rest. Ok (one.value ∷ rest)) bodies one.then_is in
    record { mine = one.value; rest = two.value; first = one.first; others = two.first; all = same_ok (one.value ∷ two.value) bodies two.then_is }

-- the slots of a record page, where its fields are lawful
pub record AreRead (v : Values) (page : List ℕ) (rows : Rows) : Type 0 where
  pub lawful : first_bad (record_fields v page) ≡ None
  pub same : rows ≡ rows_in (width_of v.metric v.dim) page

pub rows_read : (v : Values) (page : List ℕ) (rows : Rows) → rows_of_page v page ≡ Ok rows → AreRead v page rows
unfolding rows_of_page
rows_read v page rows is = at (first_bad (record_fields v page)) refl is
  where
    at : (o : Option ℕ) → first_bad (record_fields v page) ≡ o → unless_bad o (rows_in (width_of v.metric v.dim) page) ≡ Ok rows → AreRead v page rows
    at None lawful is = record { lawful = lawful; same = same_ok (rows_in (width_of v.metric v.dim) page) rows is }
    at (Some offset) lawful is = absurd (cc)

-- what holds of the slots of each record page that is read, and of no slots, holds of a body's
body_by : (P : Rows → Bool → Type 0) → P [] false → (one two three : Bool) (rows : Result Rows LayoutFault) (leaves : Result (List (List LeafRow)) LayoutFault) (inner : Result (List InnerRow) LayoutFault)
    → ((r : Rows) → rows ≡ Ok r → P r true) → (b : Body)
    → cond one (as_body body.Slots rows) (cond two (as_body body.Leaves leaves) (cond three (as_body body.Inner inner) (Err (layout_fault.Damaged 0)))) ≡ Ok b → P (slots_of b) one
body_by P none true two three (Ok r) leaves inner some b is = subst_at (slots_of b) (ap slots_of (same_ok (body.Slots r) b is))
  where
    subst_at : (s : Rows) → s ≡ r → P s true
    subst_at s same = subst (λ (x : Rows). P x true) (sym same) (some r refl)
body_by P none true two three (Err e) leaves inner some b is = absurd (cc)
body_by P none false true three rows (Ok l) inner some b is = subst (λ (x : Rows). P x false) (sym (ap slots_of (same_ok (body.Leaves l) b is))) none
body_by P none false true three rows (Err e) inner some b is = absurd (cc)
body_by P none false false true rows leaves (Ok i) some b is = subst (λ (x : Rows). P x false) (sym (ap slots_of (same_ok (body.Inner i) b is))) none
body_by P none false false true rows leaves (Err e) some b is = absurd (cc)
body_by P none false false false rows leaves inner some b is = absurd (cc)

pub body_so : (P : Rows → Bool → Type 0) → P [] false → (v : Values) (page : List ℕ) → ((r : Rows) → rows_of_page v page ≡ Ok r → P r true) → (b : Body) → body_of v page ≡ Ok b → P (slots_of b) (get_or page 0 0 == 1)
unfolding body_of
body_so P none v page some b is = body_by P none (get_or page 0 0 == 1) (get_or page 0 0 == 2) (get_or page 0 0 == 3) (rows_of_page v page) (leaves_of page) (inner_of v page) some b is

-- the slots of a body are those of its page
pub body_slots : (v : Values) (page : List ℕ) (b : Body) → body_of v page ≡ Ok b → slots_of b ≡ slots_if_any (width_of v.metric v.dim) page
body_slots v page b is =
    body_so (λ rows one. rows ≡ cond one (rows_in (width_of v.metric v.dim) page) []) refl v page (λ r read. (rows_read v page r read).same) b is

pub bodies_slots : (v : Values) (page : ℕ) (pages : List (List ℕ)) (bodies : List Body) → bodies_in v page pages ≡ Ok bodies → all_slots bodies ≡ flat_map (slots_if_any (width_of v.metric v.dim)) pages
bodies_slots v page [] bodies is = ap all_slots (none_of v page bodies is)
bodies_slots v page (bytes ∷ more) bodies is =
    let s = body_parts v page bytes more bodies is in
    ap all_slots s.all ∙ ap (λ (l : Rows). l ++ all_slots s.rest) (body_slots v bytes s.mine s.first)
    ∙ ap (λ (l : Rows). slots_if_any (width_of v.metric v.dim) bytes ++ l) (bodies_slots v (page + 1) more s.rest s.others)

-- ---- the head

-- a head page that is read: its fields are lawful, and it is what they say
pub record IsHeadRead (page : List ℕ) (h : HeadValue) : Type 0 where
  pub lawful : first_bad (head_fields page) ≡ None
  pub same : h ≡ head_in page

pub head_read : (page : List ℕ) (h : HeadValue) → head_of page ≡ Ok h → IsHeadRead page h
unfolding head_of
head_read page h is = at (number_4 4 page == 1) is
  where
    of_fields : (o : Option ℕ) → first_bad (head_fields page) ≡ o → unless_bad o (head_in page) ≡ Ok h → IsHeadRead page h
    of_fields None lawful is = record { lawful = lawful; same = same_ok (head_in page) h is }
    of_fields (Some offset) lawful is = absurd (cc)

    at : (b : Bool) → cond b (unless_bad (first_bad (head_fields page)) (head_in page)) (Err layout_fault.Foreign) ≡ Ok h → IsHeadRead page h
    at true is = of_fields (first_bad (head_fields page)) refl is
    at false is = absurd (cc)

pub head_in_is : (pages : List (List ℕ)) → head_in_pages pages ≡ in_page 1 (head_of (get_or pages 0 []))
unfolding head_in_pages
head_in_is pages = refl

pub read_head_is : (pages : List (List ℕ)) (h : HeadValue) → head_in_pages pages ≡ Ok h → head_of (get_or pages 0 []) ≡ Ok h
read_head_is pages h is = at (head_of (get_or pages 0 [])) (sym (head_in_is pages) ∙ is)
  where
    at : (o : Result HeadValue LayoutFault) → in_page 1 o ≡ Ok h → o ≡ Ok h
    at (Ok x) is = cc
    at (Err layout_fault.Foreign) is = absurd (cc)
    at (Err (layout_fault.Damaged offset)) is = absurd (cc)
    at (Err layout_fault.Memory) is = absurd (cc)

-- no page is no head
pub no_head : head_of [] ≡ Err layout_fault.Foreign
unfolding head_of number_4 part
no_head = refl

-- ---- a load that passes

pub record Loads (pages : List (List ℕ)) (image : Image) : Type 0 where
  pub h : HeadValue
  pub bodies : List Body
  pub tree : PlainTree
  pub head : head_in_pages pages ≡ Ok h
  pub read : bodies_in h.values 2 (drop 1 pages) ≡ Ok bodies
  pub once : first_repeated (map number_of (all_slots bodies)) ≡ None
  pub count : (length (lines_of (all_slots bodies)) == h.count) ≡ true
  pub tied : first_loose h.values.minpts (lines_of (all_slots bodies)) ≡ None
  pub tree_is : tree_on h (node_pages bodies) (vectors_of (all_slots bodies)) ≡ Ok tree
  pub image_is : image ≡ image_with h (held_in h.values (all_slots bodies)) (kept_in h.values (all_slots bodies) tree)

checks_passed : (pages : List (List ℕ)) (image : Image) (h : HeadValue) (bodies : List Body) → head_in_pages pages ≡ Ok h → bodies_in h.values 2 (drop 1 pages) ≡ Ok bodies → checked h bodies ≡ Ok image → Loads pages image
checks_passed pages image h bodies head read is =
    let slots = all_slots bodies in
    let width = width_of h.values.metric h.values.dim in
    let kinds = kinds_of bodies in
    let numbers = map number_of slots in
    let last : Result Image StoreFault = and_then (tree_on h (node_pages bodies) (vectors_of slots)) (image_of_parts h slots) in
    let third : Result Image StoreFault = unless_loose width kinds numbers (first_loose h.values.minpts (lines_of slots)) last in
    let second : Result Image StoreFault = unless (length (lines_of slots) == h.count) (Damaged 1 32) third in
    let few = test_passed (are_few h.values bodies) (Damaged 1 0) (unless_repeated width kinds (first_repeated numbers) second) image is in
    let once = once_passed width kinds (first_repeated numbers) second image few.1 in
    let count = test_passed (length (lines_of slots) == h.count) (Damaged 1 32) third image once.1 in
    let tied = tied_passed width kinds numbers (first_loose h.values.minpts (lines_of slots)) last image count.1 in
    let tree = went (tree_on h (node_pages bodies) (vectors_of slots)) (image_of_parts h slots) image tied.1 in
    record {
      h = h;
      bodies = bodies;
      tree = tree.value;
      head = head;
      read = read;
      once = once.0;
      count = count.0;
      tied = tied.0;
      tree_is = tree.first;
      image_is = same_ok (image_with h (held_in h.values slots) (kept_in h.values slots tree.value)) image tree.then_is;
    }

pub load_parts : (pages : List (List ℕ)) (image : Image) → load_of pages ≡ Ok image → Loads pages image
unfolding load_of
load_parts pages image is =
    let one = went (head_in_pages pages) (λ h. and_then (bodies_in h.values 2 (drop 1 pages)) (checked h)) image is in
    let two = went (bodies_in one.value.values 2 (drop 1 pages)) (checked one.value) image one.then_is in
    checks_passed pages image one.value two.value one.first two.first two.then_is

pub load_is : (pages : List (List ℕ)) (h : HeadValue) (bodies : List Body) → head_in_pages pages ≡ Ok h → bodies_in h.values 2 (drop 1 pages) ≡ Ok bodies → load_of pages ≡ checked h bodies
unfolding load_of
load_is pages h bodies head read =
    go_on (head_in_pages pages) (λ h. and_then (bodies_in h.values 2 (drop 1 pages)) (checked h)) h (checked h bodies) head
    (go_on (bodies_in h.values 2 (drop 1 pages)) (checked h) bodies (checked h bodies) read refl)
