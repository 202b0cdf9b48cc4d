-- Lines are those that are due exactly where the books that they say stand for the records.
use Rattle.std.proofs.Common.{◌≡◌, ◌↔◌, ℕ, ◌<◌, ◌≤◌, Bool, true, false, cond, ◌&&◌, List, [], ◌∷◌, ◌++◌, length, map, drop, get_or, Option, Some, None, Ok, Err, inl, inr, refl, sym, ◌∙◌, ap, subst, arith, append_assoc}
use Rattle.std.specs.Prelude.{◌==◌, nat_le, is_some, unwrap_or}
use Rattle.std.specs.Option.{option_map}
use Rattle.std.specs.List.{flat_map, AllByRecursion}
use Rattle.std.specs.Ordering.{nat_cmp}
use Rattle.std.specs.Cmp.{nat_cmp_total}
use Rattle.std.specs.FinMap as maps
use Rattle.std.specs.FinMap.Entries.{find as value_at}
use Rattle.std.proofs.lemmas.Bool.{cases_lt, and_parts, le-leb, eqb-true, false≢true}
use Rattle.vec_record.specs.Held as held
use Rattle.vec_record.specs.Distance.{distance_of}
use Rattle.vec_record.specs.Limits.{width_of}
use Rattle.mtree_index.specs.Plain.{PlainTree}
use Rattle.stored_tree.specs.Reading.{Read, tree_in}
use Rattle.plain_dbscan.specs.Marks.{Density, Entries, is_core, size_of, cluster_of, anchor_of}
use Rattle.plain_dbscan.proofs.CoresOf.{anchor_is}
use Rattle.count_book.specs.declared.row.Row.{Row}
use Rattle.count_book.specs.Counted.{row_of}
use Rattle.update_seed.specs.Books.{row_due, label_due, AreLabelsDue}
use Rattle.stored_lines.specs.declared.line.Line.{Line}
use Rattle.stored_lines.specs.Lines.{IsLine, AreLines, AreOnce, line_with, number_of as line_number, row_in, rows_of, labels_of, named_by, first_loose}
use Rattle.stored_lines.proofs.Looked.{found_each, found_between, get_rows, get_labels, label_in}
use Rattle.stored_lines.proofs.Form.{form}
use Rattle.kept_clusters.specs.Kept.{Stand}
use Rattle.page_gate.specs.Gate.{number_4}
use Rattle.page_layout.specs.Heads.{Values, HeadValue, head_in}
use Rattle.page_layout.specs.Slots.{Rows}
use Rattle.page_layout.proofs.HeadLaws.{lawful_fields}
use Rattle.page_layout.proofs.Facts.{height_alike}
use Rattle.store_image.specs.Clustered.{density_on, line_due, AreDue}
use Rattle.store_image.specs.Contents.{all_slots, node_pages}
use Rattle.store_image.specs.Images.{Image, number_of, entry_of, vectors_of, lines_of, kept_in, held_in}
use Rattle.store_image.specs.Loading.{first_repeated, in_tree}
use Rattle.store_image.specs.Stores.{slots_in_pages, AreDueIn, DueLinesStand}
use Rattle.store_image.proofs.StoreReading.{Loads, load_parts, read_head_is, head_read}
use Rattle.store_image.proofs.StoreContents.{said}
use Rattle.store_image.proofs.StoreNumbers.{IsLawful, lines_are, found_line, no_vectors}
use Rattle.store_image.proofs.StoreLawful.{bodies_lawful}
use Rattle.store_image.proofs.StoreWalks.{Holds, read_holds}

-- ---- numbers and names

some_same : {A : Type 0} (x y : A) → Some x ≡ Some y → x ≡ y
some_same x y is = cc

named_some : (n : ℕ) → 1 ≤ n → named_by n ≡ Some n
named_some n some = by (n == 0) refl
  where
    by : (b : Bool) → (n == 0) ≡ b → cond b None (Some n) ≡ Some n
    by true is = let none : n ≡ 0 = eqb-true n 0 is in absurd (omega (arith, none, some))
    by false is = refl

named_back : (n : ℕ) → unwrap_or (named_by n) 0 ≡ n
named_back n = by (n == 0) refl
  where
    by : (b : Bool) → (n == 0) ≡ b → unwrap_or (cond b None (Some n)) 0 ≡ n
    by true is = sym (eqb-true n 0 is)
    by false is = refl

line_same : (number count anchor label c a b : ℕ) → count ≡ c → anchor ≡ a → label ≡ b
    → ◌≡◌ {A = Line} (record { number = number; count = count; anchor = anchor; label = label }) (record { number = number; count = c; anchor = a; label = b })
line_same number count anchor label c a b x y z = rw (x, y, z) refl

label_by : (b : Bool) (label cluster : ℕ) → (b ≡ false → label ≡ 0) → cond b (Some label) None ≡ cond b (Some cluster) None → label ≡ cond b cluster 0
label_by true label cluster free is = some_same label cluster is
label_by false label cluster free is = free refl

core_label : (b : Bool) (cluster : ℕ) → cond b (Some (cond b cluster 0)) None ≡ cond b (Some cluster) None
core_label true cluster = refl
core_label false cluster = refl

-- ---- lines over records that have their numbers

module _ (d : Density) (vectors : held.Rows) (lines : List Line) (are : AreLines d.minpts lines) (there : (q : ℕ) → is_some (value_at nat_cmp q (maps.entries vectors)) ≡ is_some (line_with lines q)) where
  abbrev es : Entries
  es = maps.entries vectors

  abbrev due_row : ℕ → Bool → Option Row
  due_row a b = cond b (Some (row_of (size_of d es a) (anchor_of d es a))) None

  abbrev due_label : ℕ → Bool → Option ℕ
  due_label a b = cond b (Some (cluster_of d es a)) None

  vectors_there : (q : ℕ) → is_some (maps.get vectors q) ≡ is_some (line_with lines q)
  vectors_there q = ap is_some (maps.get-entries vectors q) ∙ there q

  core_by : (q : ℕ) (l : Line) → line_with lines q ≡ Some l → is_core d es q ≡ nat_le d.minpts (size_of d es q)
  core_by q l is = ap (λ (b : Bool). b && nat_le d.minpts (size_of d es q)) (there q ∙ ap is_some is)

  no_core : (q : ℕ) → line_with lines q ≡ None → is_core d es q ≡ false
  no_core q is = ap (λ (b : Bool). b && nat_le d.minpts (size_of d es q)) (there q ∙ ap is_some is)

  some_number : (q : ℕ) → is_some (line_with lines q) ≡ true → 1 ≤ q
  some_number q stands = at (line_with lines q) refl stands
    where
      at : (o : Option Line) → line_with lines q ≡ o → is_some o ≡ true → 1 ≤ q
      at None is h = absurd (false≢true h)
      at (Some l) is h = let k = found_each (IsLine d.minpts) lines q l are.each is in subst (λ (n : ℕ). 1 ≤ n) k.1 k.0.number

  -- an anchor is the number of a record, so it isn't 0
  anchor_named : (a : ℕ) (o : Option ℕ) → anchor_of d es a ≡ o → named_by (unwrap_or o 0) ≡ o
  anchor_named a None is = refl
  anchor_named a (Some b) is =
      let core = (anchor_is d es (maps.entries_sorted vectors) a b is).is_core in
      let stands : is_some (value_at nat_cmp b es) ≡ true = (and_parts (is_some (value_at nat_cmp b es)) (nat_le d.minpts (size_of d es b)) core).0 in
      named_some b (some_number b (sym (there b) ∙ stands))

  -- ---- lines that are due say books that are due

  abbrev IsDue : Line → Type 0
  IsDue line = line ≡ line_due d es line.number

  due_line : AllByRecursion IsDue lines → (a : ℕ) (l : Line) → line_with lines a ≡ Some l → l ≡ line_due d es a
  due_line due a l is = let k = found_each IsDue lines a l due is in subst (λ (n : ℕ). l ≡ line_due d es n) k.1 k.0

  rows_due : AllByRecursion IsDue lines → (a : ℕ) → maps.get (rows_of lines) a ≡ row_due d es vectors a
  rows_due due a = get_rows lines a ∙ at (line_with lines a) refl
    where
      at : (o : Option Line) → line_with lines a ≡ o → option_map row_in o ≡ row_due d es vectors a
      at None is = sym (ap (due_row a) (vectors_there a ∙ ap is_some is))
      at (Some l) is =
          ap (λ (x : Line). Some (row_in x)) (due_line due a l is) ∙ ap (λ (o : Option ℕ). Some (row_of (size_of d es a) o)) (anchor_named a (anchor_of d es a) refl)
          ∙ sym (ap (due_row a) (vectors_there a ∙ ap is_some is))

  labels_due : AllByRecursion IsDue lines → AreLabelsDue d es (labels_of d.minpts lines)
  labels_due due a = get_labels d.minpts lines a are.once ∙ at (line_with lines a) refl
    where
      at : (o : Option Line) → line_with lines a ≡ o → label_in d.minpts o ≡ label_due d es a
      at None is = sym (ap (due_label a) (no_core a is))
      at (Some l) is =
          ap (λ (x : Line). label_in d.minpts (Some x)) (due_line due a l is)
          ∙ ap (λ (b : Bool). cond b (Some (cond (is_core d es a) (cluster_of d es a) 0)) None) (sym (core_by a l is))
          ∙ core_label (is_core d es a) (cluster_of d es a)

  -- ---- and the other way

  module _ (rows : (a : ℕ) → maps.get (rows_of lines) a ≡ row_due d es vectors a) (labels : AreLabelsDue d es (labels_of d.minpts lines)) where
    same_row : (l : Line) → line_with lines l.number ≡ Some l → row_in l ≡ row_of (size_of d es l.number) (anchor_of d es l.number)
    same_row l is =
        let a = l.number in
        some_same (row_in l) (row_of (size_of d es a) (anchor_of d es a))
        (sym (get_rows lines a ∙ ap (option_map row_in) is) ∙ rows a ∙ ap (due_row a) (vectors_there a ∙ ap is_some is))

    same_label : (l : Line) → IsLine d.minpts l → line_with lines l.number ≡ Some l → l.count ≡ size_of d es l.number → l.label ≡ cond (is_core d es l.number) (cluster_of d es l.number) 0
    same_label l its is count =
        let a = l.number in
        let high = nat_le d.minpts l.count in
        let core : is_core d es a ≡ high = core_by a l is ∙ ap (nat_le d.minpts) (sym count) in
        let said_label : cond high (Some l.label) None ≡ due_label a high = sym (get_labels d.minpts lines a are.once ∙ ap (label_in d.minpts) is) ∙ labels a ∙ ap (due_label a) core in
        let free : high ≡ false → l.label ≡ 0 = λ outer. its.unlabelled (low outer) in
        label_by high l.label (cluster_of d es a) free said_label ∙ ap (λ (b : Bool). cond b (cluster_of d es a) 0) (sym core)
      where
        low : nat_le d.minpts l.count ≡ false → l.count < d.minpts
        low outer = elim (cases_lt l.count d.minpts) [ inl lt ↦ lt | inr ge ↦ absurd (false≢true (sym outer ∙ le-leb d.minpts l.count ge)) ]

    one_due : (l : Line) → IsLine d.minpts l → line_with lines l.number ≡ Some l → IsDue l
    one_due l its is =
        let a = l.number in
        let row = same_row l is in
        let count : l.count ≡ size_of d es a = ap (λ (r : Row). r.count) row in
        let anchor : l.anchor ≡ unwrap_or (anchor_of d es a) 0 = sym (named_back l.anchor) ∙ ap (λ (r : Row). unwrap_or r.anchor 0) row in
        line_same a l.count l.anchor l.label (size_of d es a) (unwrap_or (anchor_of d es a) 0) (cond (is_core d es a) (cluster_of d es a) 0) count anchor (same_label l its is count)

    rest_due : (seen rest : List Line) → lines ≡ seen ++ rest → AllByRecursion (IsLine d.minpts) rest → AllByRecursion IsDue rest
    rest_due seen [] all each = tt
    rest_due seen (l ∷ rest) all each =
        let found : line_with lines l.number ≡ Some l =
        subst (λ (ls : List Line). line_with ls l.number ≡ Some l) (sym all) (found_between seen l rest (subst (λ (ls : List Line). AreOnce (map line_number ls)) all are.once)) in
        (one_due l each.0 found, rest_due (seen ++ l ∷ []) rest (all ∙ sym (append_assoc seen (l ∷ []) rest)) each.1)

    all_due : AllByRecursion IsDue lines
    all_due = rest_due [] lines refl are.each

-- ---- slots and a tree

row_there : (o : Option Line) → is_some (option_map row_in o) ≡ is_some o
row_there None = refl
row_there (Some l) = refl

module _ (v : Values) (slots : Rows) (tree : PlainTree) (lawful : AllByRecursion (IsLawful v.minpts) slots) (once : first_repeated (map number_of slots) ≡ None) (tied : first_loose v.minpts (lines_of slots) ≡ None)
    (holds : Holds (width_of v.metric v.dim) (vectors_of slots) tree) where
  abbrev d : Density
  d = density_on v

  are_lines : AreLines v.minpts (lines_of slots)
  are_lines = lines_are v.minpts slots lawful once

  found_there : (q : ℕ) → is_some (value_at nat_cmp q (maps.entries (vectors_of slots))) ≡ is_some (line_with (lines_of slots) q)
  found_there q = ap is_some (sym (maps.get-entries (vectors_of slots) q) ∙ maps.get-from_entries nat_cmp_total (flat_map entry_of slots) q) ∙ found_line slots q

  stand : AreDue v (vectors_of slots) (lines_of slots) → Stand (distance_of v.metric) (held_in v slots) (kept_in v slots tree)
  stand due =
      let has_form = form v.minpts (lines_of slots) are_lines tied in
      record {
        fits = record {
          held = record { same_width = holds.wide; same_pairs = holds.contents };
          numbers = λ a. ap is_some (get_rows (lines_of slots) a) ∙ row_there (line_with (lines_of slots) a) ∙ sym (vectors_there d (vectors_of slots) (lines_of slots) are_lines found_there a);
          counted = has_form.counted;
          unhung = has_form.unhung;
          labelled = has_form.labelled;
          least = has_form.least;
        };
        rows = rows_due d (vectors_of slots) (lines_of slots) are_lines found_there due;
        labels_due = labels_due d (vectors_of slots) (lines_of slots) are_lines found_there due;
      }

  due_as : Stand (distance_of v.metric) (held_in v slots) (kept_in v slots tree) → AreDue v (vectors_of slots) (lines_of slots)
  due_as stands = all_due d (vectors_of slots) (lines_of slots) are_lines found_there stands.rows stands.labels_due

-- ---- a load

tree_read : (r : Read) (tree : PlainTree) → in_tree r ≡ Ok tree → r ≡ Ok tree
tree_read (Ok x) tree is = cc
tree_read (Err place) tree is = absurd (let no_tree : in_tree (Err place) ≡ Ok tree = is in cc)

head_counts : (page : List ℕ) → ((head_in page).count ≡ number_4 32 page) × ((head_in page).height ≡ number_4 40 page)
unfolding head_in
head_counts page = (refl, refl)

module _ (pages : List (List ℕ)) (image : Image) (l : Loads pages image) where
  -- at the height 0 there are no records
  flat : l.h.height ≡ 0 → vectors_of (all_slots l.bodies) ≡ maps.empty
  flat low =
      let page = get_or pages 0 [] in
      let read = head_read page l.h (read_head_is pages l.h l.head) in
      let height : l.h.height ≡ number_4 40 page = ap (λ (h : HeadValue). h.height) read.same ∙ (head_counts page).1 in
      let count : l.h.count ≡ number_4 32 page = ap (λ (h : HeadValue). h.count) read.same ∙ (head_counts page).0 in
      let none : number_4 32 page ≡ 0 = (height_alike (number_4 32 page) (number_4 40 page) (lawful_fields page read.lawful).height).1 (sym height ∙ low) in
      let few : length (lines_of (all_slots l.bodies)) ≡ 0 = eqb-true (length (lines_of (all_slots l.bodies))) l.h.count l.count ∙ count ∙ none in
      ap (λ (es : List (ℕ × List ℕ)). maps.from_entries es) (no_vectors (all_slots l.bodies) few)

  holds : Holds (width_of l.h.values.metric l.h.values.dim) (vectors_of (all_slots l.bodies)) l.tree
  holds =
      let width = width_of l.h.values.metric l.h.values.dim in
      read_holds (distance_of l.h.values.metric) width l.h.height l.h.root (node_pages l.bodies) (vectors_of (all_slots l.bodies)) l.tree flat
      (tree_read (tree_in (distance_of l.h.values.metric) width l.h.height l.h.root (node_pages l.bodies) (vectors_of (all_slots l.bodies))) l.tree l.tree_is)

  abbrev Standing : Type 0
  Standing = Stand (distance_of l.h.values.metric) (held_in l.h.values (all_slots l.bodies)) (kept_in l.h.values (all_slots l.bodies) l.tree)

  due_here : AreDue l.h.values (vectors_of (all_slots l.bodies)) (lines_of (all_slots l.bodies)) ↔ Standing
  due_here =
      let lawful = bodies_lawful l.h.values 2 (drop 1 pages) l.bodies l.read in
      (stand l.h.values (all_slots l.bodies) l.tree lawful l.once l.tied holds, due_as l.h.values (all_slots l.bodies) l.tree lawful l.once l.tied holds)

  due_in : AreDueIn pages ↔ Standing
  due_in =
      let s = said pages image l in
      subst (λ (v : Values). AreDue v (vectors_of (slots_in_pages pages)) (lines_of (slots_in_pages pages)) ↔ Standing) s.values
      (subst (λ (r : Rows). AreDue l.h.values (vectors_of r) (lines_of r) ↔ Standing) s.slots_are due_here)

pub due_lines_stand : DueLinesStand
due_lines_stand pages image loads =
    let l = load_parts pages image loads in
    subst (λ (i : Image). AreDueIn pages ↔ Stand (distance_of i.head.values.metric) i.records i.kept) (sym l.image_is) (due_in pages image l)
