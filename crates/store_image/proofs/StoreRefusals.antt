-- An opening is refused for what the content is.
use Rattle.std.proofs.Common.{◌≡◌, ℕ, ◌/◌, ◌+◌, ◌==◌, Bool, true, false, ◌&&◌, cond, leb, List, [], ◌∷◌, length, map, drop, get_or, Option, Some, None, IfSome, IfErr, Result, Ok, Err, refl, subst}
use Rattle.vec_record.specs.Held as held
use Rattle.vec_record.specs.Limits.{width_of}
use Rattle.node_refs.specs.declared.pages.NodePage.{NodePage}
use Rattle.stored_tree.specs.Reading.{Read}
use Rattle.stored_lines.specs.declared.fault.Loose.{Loose}
use Rattle.stored_lines.specs.declared.fault.Loose.TheVariants as loose
use Rattle.stored_lines.specs.Lines.{first_loose}
use Rattle.page_gate.specs.Gate.{number_4, blank_by, is_signed, first_set, is_open, fits, redo_start, redo_count, gate_of, begun_gate, signed_gate, behind_zeros, redo_gate, items, rises, page_of, count_of, counts, list_of, listed_by, listed, taken_by, through, opening, Opening, Refuses, Opens}
use Rattle.page_layout.specs.declared.fault.LayoutFault.{LayoutFault}
use Rattle.page_layout.specs.declared.fault.LayoutFault.TheVariants as layout_fault
use Rattle.page_layout.specs.declared.body.Body.{Body}
use Rattle.page_layout.specs.declared.body.Body.TheVariants as body
use Rattle.page_layout.specs.Fields.{first_bad, unless_bad}
use Rattle.page_layout.specs.Heads.{Values, HeadValue, head_fields, head_in, head_of, known_version}
use Rattle.page_layout.specs.Slots.{record_fields, rows_in, rows_of_page}
use Rattle.page_layout.specs.Leaves.{leaves_of, leaf_fields, leaves_in}
use Rattle.page_layout.specs.Inner.{inner_of, inner_fields, inner_rows_in}
use Rattle.page_layout.specs.Bodies.{as_body, body_of}
use Rattle.store_image.specs.declared.fault.StoreFault.{StoreFault}
use Rattle.store_image.specs.declared.fault.StoreFault.TheVariants.{Foreign, Damaged, Memory}
use Rattle.store_image.specs.Contents.{kinds_of, all_slots, node_pages}
use Rattle.store_image.specs.Images.{Image, number_of, vectors_of, lines_of}
use Rattle.store_image.specs.Loading.{and_then, are_few, bodies_in, checked, first_repeated, head_in_pages, image_of_parts, in_page, in_tree, load_of, tree_on, unless, unless_loose, unless_repeated}
use Rattle.store_image.specs.Stores.{RefusalsAreOfContents, is_of_content, refusal_of, refusal_on, verdict}

-- what the gate checks come to
abbrev Speaks : Opening → Type 0
Speaks (Refuses fault) = is_of_content fault ≡ true
Speaks (Opens pages) = Unit {0}

listed_speaks : (b : Bool) (pages : List (List ℕ)) → Speaks (listed_by b pages)
listed_speaks true pages = tt
listed_speaks false pages = refl

listed_in_speaks : (redo : List (ℕ × List ℕ)) (c : List ℕ) → Speaks (listed redo c)
unfolding listed
listed_in_speaks redo c = listed_speaks (counts (length c) (count_of (page_of redo c 1))) (list_of redo c)

taken_speaks : (b : Bool) (redo : List (ℕ × List ℕ)) (c : List ℕ) → Speaks (taken_by b (listed redo c))
taken_speaks true redo c = listed_in_speaks redo c
taken_speaks false redo c = refl

gate_speaks : (c : List ℕ) (b s : Bool) (z : Option ℕ) (o f : Bool) (start count : ℕ) → Speaks (through (begun_gate b (signed_gate s (behind_zeros z (redo_gate o f start count)))) c)
unfolding through
gate_speaks c true s z o f start count = refl
gate_speaks c false false z o f start count = refl
gate_speaks c false true (Some i) o f start count = refl
gate_speaks c false true None false f start count = listed_in_speaks [] c
gate_speaks c false true None true true start count = taken_speaks (rises 0 (start / 16384) (items start count c)) (items start count c) c
gate_speaks c false true None true false start count = refl

opening_speaks : (c : List ℕ) → Speaks (opening c)
unfolding opening gate_of
opening_speaks c = gate_speaks c (blank_by (length c) (get_or c 0 0)) (leb 32768 (length c) && is_signed c) (first_set c) (is_open c) (fits (length c) (redo_start c) (redo_count c)) (redo_start c) (redo_count c)

-- what the load checks come to
abbrev NoWant : StoreFault → Type 0
NoWant Foreign = Unit {0}
NoWant (Damaged page offset) = Unit {0}
NoWant Memory = ⊥

-- the same of the grammar of a page, wherever that is
abbrev NoWantIn : LayoutFault → Type 0
NoWantIn layout_fault.Foreign = Unit {0}
NoWantIn (layout_fault.Damaged offset) = Unit {0}
NoWantIn layout_fault.Memory = ⊥

unless_bad_says : {A : Type 0} (bad : Option ℕ) (value : A) → IfErr (unless_bad bad value) NoWantIn
unless_bad_says None value = tt
unless_bad_says (Some offset) value = tt

placed_says : {A : Type 0} (page : ℕ) (r : Result A LayoutFault) → IfErr r NoWantIn → IfErr (in_page page r) NoWant
placed_says page (Ok x) h = tt
placed_says page (Err layout_fault.Foreign) h = tt
placed_says page (Err (layout_fault.Damaged offset)) h = tt
placed_says page (Err layout_fault.Memory) h = h

known_says : {A : Type 0} (b : Bool) (bad : Option ℕ) (value : A) → IfErr (cond b (unless_bad bad value) (Err layout_fault.Foreign)) NoWantIn
known_says true bad value = unless_bad_says bad value
known_says false bad value = tt

head_of_says : (page : List ℕ) → IfErr (head_of page) NoWantIn
unfolding head_of
head_of_says page = known_says (number_4 4 page == known_version) (first_bad (head_fields page)) (head_in page)

head_says : (pages : List (List ℕ)) → IfErr (head_in_pages pages) NoWant
unfolding head_in_pages
head_says pages = placed_says 1 (head_of (get_or pages 0 [])) (head_of_says (get_or pages 0 []))

rows_say : (v : Values) (page : List ℕ) → IfErr (rows_of_page v page) NoWantIn
unfolding rows_of_page
rows_say v page = unless_bad_says (first_bad (record_fields v page)) (rows_in (width_of v.metric v.dim) page)

leaves_say : (page : List ℕ) → IfErr (leaves_of page) NoWantIn
unfolding leaves_of
leaves_say page = unless_bad_says (first_bad (leaf_fields page)) (leaves_in page)

inner_says : (v : Values) (page : List ℕ) → IfErr (inner_of v page) NoWantIn
unfolding inner_of
inner_says v page = unless_bad_says (first_bad (inner_fields v page)) (inner_rows_in (width_of v.metric v.dim) page)

as_body_says : {A : Type 0} (b : A → Body) (r : Result A LayoutFault) → IfErr r NoWantIn → IfErr (as_body b r) NoWantIn
as_body_says b (Ok x) h = tt
as_body_says b (Err e) h = h

kinds_say : (one two three : Bool) (rows leaves inner : Result Body LayoutFault) → IfErr rows NoWantIn → IfErr leaves NoWantIn → IfErr inner NoWantIn → IfErr (cond one rows (cond two leaves (cond three inner (Err (layout_fault.Damaged 0))))) NoWantIn
kinds_say true two three rows leaves inner r l i = r
kinds_say false true three rows leaves inner r l i = l
kinds_say false false true rows leaves inner r l i = i
kinds_say false false false rows leaves inner r l i = tt

body_says : (v : Values) (page : List ℕ) → IfErr (body_of v page) NoWantIn
unfolding body_of
body_says v page =
    kinds_say (get_or page 0 0 == 1) (get_or page 0 0 == 2) (get_or page 0 0 == 3) (as_body body.Slots (rows_of_page v page)) (as_body body.Leaves (leaves_of page)) (as_body body.Inner (inner_of v page))
    (as_body_says body.Slots (rows_of_page v page) (rows_say v page)) (as_body_says body.Leaves (leaves_of page) (leaves_say page)) (as_body_says body.Inner (inner_of v page) (inner_says v page))

then_says : {A B : Type 0} (r : Result A StoreFault) (next : A → Result B StoreFault) → IfErr r NoWant → ((x : A) → IfErr (next x) NoWant) → IfErr (and_then r next) NoWant
then_says (Ok x) next first more = more x
then_says (Err fault) next first more = first

bodies_say : (v : Values) (page : ℕ) (pages : List (List ℕ)) → IfErr (bodies_in v page pages) NoWant
unfolding bodies_in
bodies_say v page [] = tt
bodies_say v page (bytes ∷ more) =
    then_says (in_page page (body_of v bytes)) (λ first. and_then (bodies_in v (page + 1) more) (λ rest. Ok (first ∷ rest))) (placed_says page (body_of v bytes) (body_says v bytes))
    (λ first. then_says (bodies_in v (page + 1) more) (λ rest. Ok (first ∷ rest)) (bodies_say v (page + 1) more) (λ rest. tt))

unless_says : {A : Type 0} (b : Bool) (page offset : ℕ) (next : Result A StoreFault) → IfErr next NoWant → IfErr (unless b (Damaged page offset) next) NoWant
unless_says true page offset next h = h
unless_says false page offset next h = tt

repeated_says : {A : Type 0} (width : ℕ) (kinds : List ℕ) (o : Option ℕ) (next : Result A StoreFault) → IfErr next NoWant → IfErr (unless_repeated width kinds o next) NoWant
repeated_says width kinds None next h = h
repeated_says width kinds (Some i) next h = tt

loose_says : {A : Type 0} (width : ℕ) (kinds numbers : List ℕ) (o : Option Loose) (next : Result A StoreFault) → IfErr next NoWant → IfErr (unless_loose width kinds numbers o next) NoWant
loose_says width kinds numbers None next h = h
loose_says width kinds numbers (Some (loose.Anchor i)) next h = tt
loose_says width kinds numbers (Some (loose.Label i)) next h = tt

in_tree_says : (r : Read) → IfErr (in_tree r) NoWant
in_tree_says (Ok tree) = tt
in_tree_says (Err place) = tt

tree_says : (h : HeadValue) (pages : List NodePage) (vectors : held.Rows) → IfErr (tree_on h pages vectors) NoWant
tree_says h pages vectors = in_tree_says _

checks_say : (h : HeadValue) (bodies : List Body) → IfErr (checked h bodies) NoWant
checks_say h bodies =
    let slots = all_slots bodies in
    let width = width_of h.values.metric h.values.dim in
    let kinds = kinds_of bodies in
    let numbers = map number_of slots in
    let last : Result Image StoreFault = and_then (tree_on h (node_pages bodies) (vectors_of slots)) (image_of_parts h slots) in
    let third : Result Image StoreFault = unless_loose width kinds numbers (first_loose h.values.minpts (lines_of slots)) last in
    let second : Result Image StoreFault = unless (length (lines_of slots) == h.count) (Damaged 1 32) third in
    unless_says (are_few h.values bodies) 1 0 (unless_repeated width kinds (first_repeated numbers) second)
    (repeated_says width kinds (first_repeated numbers) second
    (unless_says (length (lines_of slots) == h.count) 1 32 third
    (loose_says width kinds numbers (first_loose h.values.minpts (lines_of slots)) last
    (then_says (tree_on h (node_pages bodies) (vectors_of slots)) (image_of_parts h slots) (tree_says h (node_pages bodies) (vectors_of slots)) (λ tree. tt)))))

load_says : (pages : List (List ℕ)) → IfErr (load_of pages) NoWant
unfolding load_of
load_says pages =
    then_says (head_in_pages pages) (λ h. and_then (bodies_in h.values 2 (drop 1 pages)) (checked h)) (head_says pages)
    (λ h. then_says (bodies_in h.values 2 (drop 1 pages)) (checked h) (bodies_say h.values 2 (drop 1 pages)) (checks_say h))

refusal_speaks : (r : Result Image StoreFault) → IfErr r NoWant → IfSome (refusal_of r) (λ fault. is_of_content fault ≡ true)
refusal_speaks (Ok image) h = tt
refusal_speaks (Err Foreign) h = refl
refusal_speaks (Err (Damaged page offset)) h = refl
refusal_speaks (Err Memory) h = absurd h

verdict_speaks : (o : Opening) → Speaks o → IfSome (verdict o) (λ fault. is_of_content fault ≡ true)
verdict_speaks (Refuses fault) h = h
verdict_speaks (Opens pages) h = refusal_speaks (load_of pages) (load_says pages)

on_speaks : (c : List ℕ) → IfSome (refusal_on c) (λ fault. is_of_content fault ≡ true)
unfolding refusal_on
on_speaks c = verdict_speaks (opening c) (opening_speaks c)

pub refusals_are_of_contents : RefusalsAreOfContents
refusals_are_of_contents = record {
  openings = on_speaks;
  gates = λ c fault is. subst Speaks is (opening_speaks c);
  loads = λ pages is. subst (λ (r : Result Image StoreFault). IfErr r NoWant) is (load_says pages);
}
