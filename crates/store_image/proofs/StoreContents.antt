-- The laws of contents as stores.
use Rattle.std.proofs.Common.{◌≡◌, inl, inr, ℕ, ◌/◌, Bool, true, false, ◌&&◌, leb, List, [], ◌∷◌, length, drop, get_or, Option, Some, None, Result, Ok, refl, sym, ◌∙◌, ap, subst, arith}
use Rattle.std.specs.Prelude.{◌==◌}
use Rattle.std.specs.List.{flat_map}
use Rattle.std.proofs.lemmas.Bool.{eq-eqb, le-leb}
use Rattle.std.specs.FinMap as maps
use Rattle.vec_record.specs.Distance.{distance_of}
use Rattle.vec_record.specs.Limits.{width_of}
use Rattle.stored_tree.specs.Reading.{tree_in, tree_with}
use Rattle.page_gate.specs.declared.fault.OpenFault.TheVariants.{Blank}
use Rattle.page_gate.specs.Gate.{number_4, is_blank, blank_by, is_signed, first_set, is_open, fits, redo_start, redo_count, gate_of, begun_gate, signed_gate, behind_zeros, redo_gate, items, rises, page_of, count_of, counts, list_of, listed_by, listed, taken_by, through, opening, Refuses, Opens}
use Rattle.page_layout.specs.Heads.{Values, HeadValue, head_of, head_in, head_page, values_in}
use Rattle.page_layout.specs.Slots.{Rows}
use Rattle.page_layout.specs.Laws.{HeadsHaveOneSpelling, WrittenArePages}
use Rattle.page_layout.proofs.Facts.{height_alike}
use Rattle.store_image.specs.declared.fault.StoreFault.{StoreFault}
use Rattle.store_image.specs.declared.fault.StoreFault.TheVariants.{Damaged}
use Rattle.store_image.specs.Contents.{all_slots}
use Rattle.store_image.specs.Images.{Image, vectors_of}
use Rattle.store_image.specs.Loading.{and_then, are_few, record_limit, leaf_limit, inner_limit, unless, in_page, in_tree, tree_on, checked, image_of_parts, load_of}
use Rattle.store_image.specs.Stores.{values_in_pages, slots_if_any, slots_in_pages, refusal_of, verdict, records_by, batches_by, params_by, AreDueIn, AreDueBy, AreDueOn, refusal_on, records_on, batches_on, params_on, IsSound, IsStore, new_image, SameOpeningsAreAlike, LoadsAreStores, NewStoresLoad, NewStoresAreDue, HeadsCountPages}
use Rattle.store_image.proofs.StoreReading.{Loads, load_parts, load_is, no_bodies, read_head_is, head_read, bodies_slots, head_in_is}

-- what each says is a function of the opening
refusal_is : (c : List ℕ) → refusal_on c ≡ verdict (opening c)
unfolding refusal_on
refusal_is c = refl

records_is : (c : List ℕ) → records_on c ≡ records_by (opening c)
unfolding records_on
records_is c = refl

batches_is : (c : List ℕ) → batches_on c ≡ batches_by (opening c)
unfolding batches_on
batches_is c = refl

params_is : (c : List ℕ) → params_on c ≡ params_by (opening c)
unfolding params_on
params_is c = refl

-- the one refusal of a blank content
blank_gate : (c : List ℕ) → is_blank c ≡ true → opening c ≡ Refuses Blank
unfolding is_blank opening gate_of through
blank_gate c is = ap (λ (b : Bool). through (begun_gate b (signed_gate (leb 32768 (length c) && is_signed c) (behind_zeros (first_set c) (redo_gate (is_open c) (fits (length c) (redo_start c) (redo_count c)) (redo_start c) (redo_count c))))) c) is

not_listed : (b : Bool) (pages : List (List ℕ)) → listed_by b pages ≡ Refuses Blank → ⊥
not_listed true pages is = cc
not_listed false pages is = cc

not_listed_in : (redo : List (ℕ × List ℕ)) (c : List ℕ) → listed redo c ≡ Refuses Blank → ⊥
unfolding listed
not_listed_in redo c is = not_listed (counts (length c) (count_of (page_of redo c 1))) (list_of redo c) is

not_taken : (b : Bool) (redo : List (ℕ × List ℕ)) (c : List ℕ) → taken_by b (listed redo c) ≡ Refuses Blank → ⊥
not_taken true redo c is = not_listed_in redo c is
not_taken false redo c is = cc

only_blank : (c : List ℕ) (b s : Bool) (z : Option ℕ) (o f : Bool) (start count : ℕ) → through (begun_gate b (signed_gate s (behind_zeros z (redo_gate o f start count)))) c ≡ Refuses Blank → b ≡ true
unfolding through
only_blank c true s z o f start count is = refl
only_blank c false false z o f start count is = absurd (cc)
only_blank c false true (Some i) o f start count is = absurd (cc)
only_blank c false true None false f start count is = absurd (not_listed_in [] c is)
only_blank c false true None true true start count is = absurd (not_taken (rises 0 (start / 16384) (items start count c)) (items start count c) c is)
only_blank c false true None true false start count is = absurd (cc)

blank_of : (c : List ℕ) → opening c ≡ Refuses Blank → is_blank c ≡ true
unfolding is_blank opening gate_of
blank_of c is = only_blank c (blank_by (length c) (get_or c 0 0)) (leb 32768 (length c) && is_signed c) (first_set c) (is_open c) (fits (length c) (redo_start c) (redo_count c)) (redo_start c) (redo_count c) is

due_along : (c d : List ℕ) → opening c ≡ opening d → AreDueOn c → AreDueOn d
due_along c d same due = subst AreDueBy same due

sound_along : (c d : List ℕ) → opening c ≡ opening d → IsSound c → IsSound d
sound_along c d same sound = record {
  begins = elim sound.begins [
    | inl blank ↦ inl (blank_of d (sym same ∙ blank_gate c blank))
    | inr opens ↦ inr (refusal_is d ∙ ap verdict (sym same) ∙ sym (refusal_is c) ∙ opens)
  ];
  due = due_along c d same sound.due;
}

pub same_openings : SameOpeningsAreAlike
same_openings c d same = record {
  refusal = refusal_is c ∙ ap verdict same ∙ sym (refusal_is d);
  records = records_is c ∙ ap records_by same ∙ sym (records_is d);
  batches = batches_is c ∙ ap batches_by same ∙ sym (batches_is d);
  params = params_is c ∙ ap params_by same ∙ sym (params_is d);
  due = (due_along c d same, due_along d c (sym same));
  sound = (sound_along c d same, sound_along d c (sym same));
}

-- ---- what a list of pages that loads says

-- a head and what its page says
head_says : (page : List ℕ) → ((head_in page).values ≡ values_in page) × ((head_in page).batches ≡ number_4 28 page)
unfolding head_in
head_says page = (refl, refl)

pub record AreSaid (pages : List (List ℕ)) (h : HeadValue) (slots : Rows) : Type 0 where
  pub values : h.values ≡ values_in_pages pages
  pub batches : h.batches ≡ number_4 28 (get_or pages 0 [])
  pub slots_are : slots ≡ slots_in_pages pages

pub said : (pages : List (List ℕ)) (image : Image) (l : Loads pages image) → AreSaid pages l.h (all_slots l.bodies)
said pages image l =
    let first = get_or pages 0 [] in
    let h_is : l.h ≡ head_in first = (head_read first l.h (read_head_is pages l.h l.head)).same in
    let values : l.h.values ≡ values_in_pages pages = ap (λ (x : HeadValue). x.values) h_is ∙ (head_says first).0 in
    record {
      values = values;
      batches = ap (λ (x : HeadValue). x.batches) h_is ∙ (head_says first).1;
      slots_are = bodies_slots l.h.values 2 (drop 1 pages) l.bodies l.read ∙ ap (λ (v : Values). flat_map (slots_if_any (width_of v.metric v.dim)) (drop 1 pages)) values;
    }

loaded_store : (c : List ℕ) (pages : List (List ℕ)) (image : Image) (l : Loads pages image) → opening c ≡ Opens pages → load_of pages ≡ Ok image → AreDueIn pages
    → IsStore l.h.values (vectors_of (all_slots l.bodies)) l.h.batches c
loaded_store c pages image l opens loads due =
    let s = said pages image l in
    record {
      opens = refusal_is c ∙ ap verdict opens ∙ ap refusal_of loads;
      due = subst AreDueBy (sym opens) due;
      params = params_is c ∙ ap params_by opens ∙ ap Some (sym s.values);
      records = records_is c ∙ ap records_by opens ∙ sym (ap vectors_of s.slots_are);
      batches_are = batches_is c ∙ ap batches_by opens ∙ sym s.batches;
    }

pub loads_are_stores : LoadsAreStores
loads_are_stores c pages image opens loads due =
    let l = load_parts pages image loads in
    subst (λ (i : Image). IsStore i.head.values i.records.vectors i.head.batches c) (sym l.image_is) (loaded_store c pages image l opens loads due)

-- ---- new stores

flat_tree : (dist : List ℕ → List ℕ → ℕ) (width height root : ℕ) → height ≡ 0 → tree_in dist width height root [] maps.empty ≡ Ok (tree_with width 0 None)
unfolding tree_in
flat_tree dist width height root flat = rw flat refl

few_pages : (v : Values) → are_few v [] ≡ true
few_pages v =
    let a = le-leb 0 (record_limit v) (omega arith) in
    let b = le-leb 0 (leaf_limit v) (omega arith) in
    let c = le-leb 0 (inner_limit v) (omega arith) in
    rw (a, b, c) refl

new_checked : (h : HeadValue) → h.count ≡ 0 → h.height ≡ 0 → checked h [] ≡ Ok (new_image h)
new_checked h none flat =
    let width = width_of h.values.metric h.values.dim in
    let tree : tree_on h [] maps.empty ≡ Ok (tree_with width 0 None) = ap in_tree (flat_tree (distance_of h.values.metric) width h.height h.root flat) in
    let last : Result Image StoreFault = and_then (tree_on h [] maps.empty) (image_of_parts h []) in
    let counted : Result Image StoreFault = unless (0 == h.count) (Damaged 1 32) last in
    ap (λ (b : Bool). unless b (Damaged 1 0) counted) (few_pages h.values) ∙ ap (λ (b : Bool). unless b (Damaged 1 32) last) (eq-eqb 0 h.count (sym none)) ∙ ap (λ r. and_then r (image_of_parts h [])) tree

pub new_stores_load : HeadsHaveOneSpelling → WrittenArePages → NewStoresLoad
new_stores_load heads written h new =
    let page : List ℕ = head_page h in
    let read : head_of page ≡ Ok h = (heads page h (written.0 h new.lawful)).1 (new.lawful, refl) in
    let flat : h.height ≡ 0 = (height_alike h.count h.height new.lawful.height).0 new.count in
    load_is (page ∷ []) h [] (head_in_is (page ∷ []) ∙ ap (in_page 1) read) (no_bodies h.values 2) ∙ new_checked h new.count flat

pub new_stores_are_due : NewStoresAreDue
new_stores_are_due h new = tt

pub heads_count_pages : HeadsHaveOneSpelling → WrittenArePages → HeadsCountPages
unfolding count_of head_in
heads_count_pages heads written h lawful =
    let page : List ℕ = head_page h in
    sym (ap (λ (x : HeadValue). x.pages) (head_read page h ((heads page h (written.0 h lawful)).1 (lawful, refl))).same)
