-- A page of records has one spelling, and what reading it gives.
use Rattle.std.proofs.Common.{◌≡◌, ℕ, zero, suc, ◌+◌, ◌-◌, ◌*◌, ◌<◌, ◌≤◌, Bool, true, false, eqb, List, [], ◌∷◌, ◌++◌, length, map, get_or, drop, replicate, Option, Some, None, Ok, Err, refl, sym, ap, subst, ◌∙◌, append_assoc, arith}
use Rattle.std.specs.List.{AllByRecursion, flat_map, range_with_len}
use Rattle.std.proofs.lemmas.Bool.{eqb-true, eq-eqb, ne_eqb}
use Rattle.std.proofs.lemmas.List.{append-nil, drop_all, drop_more}
use Rattle.std.proofs.lemmas.List.Concat.{flat_map-append}
use Rattle.std.proofs.lemmas.List.FromFn.{length-map-range_with_len, map-range_with_len_more}
use Rattle.std.proofs.Math.Nat.{mul-le-mul_left}
use Rattle.vec_record.specs.Vectors.{AreBytes}
use Rattle.vec_record.specs.Limits.{width_of}
use Rattle.page_layout.specs.declared.fault.LayoutFault.{LayoutFault}
use Rattle.page_layout.specs.declared.fault.LayoutFault.TheVariants.{Foreign, Damaged, Memory}
use Rattle.page_layout.specs.declared.slot.Slot.{Slot}
use Rattle.page_layout.specs.Fields.{Field, zero_fields, first_bad, unless_bad, IsWhy}
use Rattle.page_layout.specs.Heads.{Values}
use Rattle.page_layout.specs.Slots.{Rows, slots_in_page, slot_at, slot_fields, slots_fields, record_fields, slot_in, rows_in, rows_of_page, IsRow, AreRows, slot_bytes, record_page}
use Rattle.page_layout.specs.Steps.{slot_of, slots_of}
use Rattle.page_layout.proofs.Places.{behind, first_lawful, then_lawful, then_bad, append_lawful, append_bad, zeros_then, zeros_are, said_bad, said_ok}
use Rattle.page_layout.proofs.SlotLaws.{slots_fit, length-row, length-rows}
use Rattle.page_layout.proofs.SlotReads.{slot_read, slot_again}

-- ---- all slots

abbrev pub rows_from : ℕ → List ℕ → ℕ → ℕ → Rows
rows_from width page i n = map (λ k. slot_in width page (slot_at width k)) (range_with_len i n)

next_slot : (width i : ℕ) → slot_at width i + (16 + width) ≡ slot_at width (i + 1)
next_slot width i = omega arith

slots_rise : (width k n : ℕ) → slot_at width k ≤ slot_at width (k + n)
slots_rise width k n =
    let le : k ≤ k + n = omega arith in
    omega (arith, mul-le-mul_left (16 + width) le)

append_parts : (front back : List Field) → first_bad (front ++ back) ≡ None → (first_bad front ≡ None) × (first_bad back ≡ None)
append_parts [] back all = (refl, all)
append_parts ((offset, true) ∷ front) back all = append_parts front back all
append_parts ((offset, false) ∷ front) back all = absurd cc

rows_read : (v : Values) (page : List ℕ) → AreBytes page → (n i : ℕ) → slot_at (width_of v.metric v.dim) (i + n) ≤ length page → first_bad (slots_fields v page i n) ≡ None
    → AllByRecursion (IsRow v) (rows_from (width_of v.metric v.dim) page i n)
    × (drop (slot_at (width_of v.metric v.dim) i) page ≡ flat_map (slot_bytes (width_of v.metric v.dim)) (rows_from (width_of v.metric v.dim) page i n) ++ drop (slot_at (width_of v.metric v.dim) (i + n)) page)
rows_read v page bytes zero i le lawful =
    let none : i ≡ i + 0 = omega arith in
    (tt, ap (λ (k : ℕ). drop (slot_at (width_of v.metric v.dim) k) page) none)
rows_read v page bytes (suc n) i le lawful =
    let width : ℕ = width_of v.metric v.dim in
    let at : ℕ = slot_at width i in
    let on : i + 1 + n ≡ i + suc n = omega arith in
    let both = append_parts (slot_fields v page at) (slots_fields v page (i + 1) n) lawful in
    let end_le : slot_at width (i + 1 + n) ≤ length page = subst (λ (k : ℕ). slot_at width k ≤ length page) (sym on) le in
    let fits : at + (16 + width) ≤ length page = omega (arith, next_slot width i, end_le, slots_rise width (i + 1) n) in
    let first = slot_read v page bytes at fits both.0 in
    let more = rows_read v page bytes n (i + 1) end_le both.1 in
    let row : Option Slot = slot_in width page at in
    let rows : Rows = rows_from width page (i + 1) n in (
      (first.0, more.0),
      first.1 ∙ ap (λ (k : ℕ). slot_bytes width row ++ drop k page) (next_slot width i) ∙ ap (λ (l : List ℕ). slot_bytes width row ++ l) (more.1 ∙ ap (λ (k : ℕ). flat_map (slot_bytes width) rows ++ drop (slot_at width k) page) on)
          ∙ sym (append_assoc (slot_bytes width row) (flat_map (slot_bytes width) rows) (drop (slot_at width (i + suc n)) page)),
    )

rows_again : (v : Values) (page rest : List ℕ) (rows : Rows) (i : ℕ) → AllByRecursion (IsRow v) rows → drop (slot_at (width_of v.metric v.dim) i) page ≡ flat_map (slot_bytes (width_of v.metric v.dim)) rows ++ rest
    → (first_bad (slots_fields v page i (length rows)) ≡ None) × (rows_from (width_of v.metric v.dim) page i (length rows) ≡ rows)
rows_again v page rest [] i each holds = (refl, refl)
rows_again v page rest (row ∷ rows) i each holds =
    let width : ℕ = width_of v.metric v.dim in
    let at : ℕ = slot_at width i in
    let here : drop at page ≡ slot_bytes width row ++ (flat_map (slot_bytes width) rows ++ rest) = holds ∙ append_assoc (slot_bytes width row) (flat_map (slot_bytes width) rows) rest in
    let first = slot_again v page at row (flat_map (slot_bytes width) rows ++ rest) each.0 here in
    let next : drop (slot_at width (i + 1)) page ≡ flat_map (slot_bytes width) rows ++ rest =
    ap (λ (k : ℕ). drop k page) (sym (next_slot width i)) ∙ behind at (16 + width) page (slot_bytes width row) (flat_map (slot_bytes width) rows ++ rest) here (length-row v row each.0) in
    let more = rows_again v page rest rows (i + 1) each.1 next in (
      append_lawful (slot_fields v page at) (slots_fields v page (i + 1) (length rows)) first.lawful ∙ more.0,
      ap (λ (r : Option Slot). r ∷ rows_from width page (i + 1) (length rows)) first.same ∙ ap (λ (l : Rows). row ∷ l) more.1,
    )

-- ---- the whole page

abbrev page_with : Bool → List Field → List Field → List Field → List Field
page_with kind zeros slots rest = (0, kind) ∷ (zeros ++ (slots ++ rest))

record AreParts (kind : Bool) (zeros slots rest : List Field) : Type 0 where
  kind_is : kind ≡ true
  zeros_are : first_bad zeros ≡ None
  slots_are : first_bad slots ≡ None
  rest_are : first_bad rest ≡ None

with_parts : (kind : Bool) (zeros slots rest : List Field) → first_bad (page_with kind zeros slots rest) ≡ None → AreParts kind zeros slots rest
with_parts kind zeros slots rest lawful =
    let a = first_lawful (0, kind) (zeros ++ (slots ++ rest)) lawful in
    let b = append_parts zeros (slots ++ rest) a.1 in
    let c = append_parts slots rest b.1 in
    record { kind_is = a.0; zeros_are = b.0; slots_are = c.0; rest_are = c.1 }

with_slots : (kind : Bool) (zeros slots rest : List Field) → kind ≡ true → first_bad zeros ≡ None → first_bad (page_with kind zeros slots rest) ≡ first_bad (slots ++ rest)
with_slots kind zeros slots rest is lawful = then_lawful (0, kind) (zeros ++ (slots ++ rest)) is ∙ append_lawful zeros (slots ++ rest) lawful

module _ (v : Values) (page : List ℕ) where
  abbrev kind_test : Bool
  kind_test = eqb (get_or page 0 0) 1

  abbrev front_zeros : List Field
  front_zeros = zero_fields 1 15 page

  abbrev all_slots : List Field
  all_slots = slots_fields v page 0 (slots_in_page (width_of v.metric v.dim))

  abbrev end_zeros : List Field
  end_zeros = zero_fields (slot_at (width_of v.metric v.dim) (slots_in_page (width_of v.metric v.dim))) (16384 - slot_at (width_of v.metric v.dim) (slots_in_page (width_of v.metric v.dim))) page

  fields_are : record_fields v page ≡ page_with kind_test front_zeros all_slots end_zeros
  unfolding record_fields
  fields_are = refl

  page_says : (bad : Option ℕ) → first_bad (page_with kind_test front_zeros all_slots end_zeros) ≡ bad → rows_of_page v page ≡ unless_bad bad (rows_in (width_of v.metric v.dim) page)
  unfolding rows_of_page
  page_says bad is = ap (λ (fs : List Field). unless_bad (first_bad fs) (rows_in (width_of v.metric v.dim) page)) fields_are ∙ ap (λ (o : Option ℕ). unless_bad o (rows_in (width_of v.metric v.dim) page)) is

  pub kind_bad : (get_or page 0 0 ≡ 1 → ⊥) → rows_of_page v page ≡ Err (Damaged 0)
  kind_bad other = page_says (Some 0) (then_bad (0, kind_test) (front_zeros ++ (all_slots ++ end_zeros)) (ne_eqb (get_or page 0 0) 1 other))

  module _ (kind : get_or page 0 0 ≡ 1) where
    is_kind : kind_test ≡ true
    is_kind = eq-eqb (get_or page 0 0) 1 kind

    pub front_bad : (offset : ℕ) → Some offset ≡ first_bad (zero_fields 1 15 page) → rows_of_page v page ≡ Err (Damaged offset)
    front_bad offset bad = page_says (Some offset) (then_lawful (0, kind_test) (front_zeros ++ (all_slots ++ end_zeros)) is_kind ∙ append_bad front_zeros (all_slots ++ end_zeros) offset (sym bad))

    module _ (front : first_bad (zero_fields 1 15 page) ≡ None) where
      slots_bad : (offset : ℕ) → first_bad all_slots ≡ Some offset → rows_of_page v page ≡ Err (Damaged offset)
      slots_bad offset bad = page_says (Some offset) (with_slots kind_test front_zeros all_slots end_zeros is_kind front ∙ append_bad all_slots end_zeros offset bad)

      pub end_said : (end : Option ℕ) → first_bad (slots_fields v page 0 (slots_in_page (width_of v.metric v.dim))) ≡ None
          → end ≡ first_bad (zero_fields (slot_at (width_of v.metric v.dim) (slots_in_page (width_of v.metric v.dim))) (16384 - slot_at (width_of v.metric v.dim) (slots_in_page (width_of v.metric v.dim))) page)
          → rows_of_page v page ≡ unless_bad end (rows_in (width_of v.metric v.dim) page)
      end_said end slots is = page_says end (with_slots kind_test front_zeros all_slots end_zeros is_kind front ∙ append_lawful all_slots end_zeros slots ∙ sym is)

      pub slots_why : (e : LayoutFault) → IsWhy (slots_of v page) e → IsWhy (rows_of_page v page) e
      slots_why Memory why = tt
      slots_why Foreign why = why
      slots_why (Damaged offset) why = slots_bad offset (said_bad (first_bad all_slots) (rows_in (width_of v.metric v.dim) page) offset why)

  page_spelled : AreBytes page → length page ≡ 16384 → AreParts kind_test front_zeros all_slots end_zeros
      → AreRows v (rows_in (width_of v.metric v.dim) page) × (page ≡ record_page (width_of v.metric v.dim) (rows_in (width_of v.metric v.dim) page))
  unfolding record_page
  page_spelled bytes len parts =
      let width : ℕ = width_of v.metric v.dim in
      let n : ℕ = slots_in_page width in
      let rows : Rows = rows_in width page in
      let tail : List ℕ = replicate (16384 - slot_at width n) 0 in
      let fits : slot_at width n ≤ 16384 = slots_fit width in
      let all : 0 + n ≡ n = omega arith in
      let slots = rows_read v page bytes n 0 (omega (arith, fits, len)) parts.slots_are in
      let end_is : slot_at width n + (16384 - slot_at width n) ≡ 16384 = omega (arith, fits) in
      let ended : drop (slot_at width n + (16384 - slot_at width n)) page ≡ [] = drop_all (slot_at width n + (16384 - slot_at width n)) page (omega (arith, end_is, len)) in
      let end_holds : drop (slot_at width n) page ≡ tail =
      zeros_then (16384 - slot_at width n) (slot_at width n) page (omega (arith, end_is, len)) parts.rest_are ∙ ap (λ (l : List ℕ). tail ++ l) ended ∙ append-nil tail in
      let first : slot_at width 0 ≡ 16 = omega arith in
      let slots_hold : drop 16 page ≡ flat_map (slot_bytes width) rows ++ tail = ap (λ (k : ℕ). drop k page) (sym first) ∙ slots.1 ∙ ap (λ (k : ℕ). flat_map (slot_bytes width) rows ++ drop (slot_at width k) page) all ∙ ap (λ (l : List ℕ). flat_map (slot_bytes width) rows ++ l) end_holds in
      let front : drop 1 page ≡ replicate 15 0 ++ drop 16 page = zeros_then 15 1 page (omega (arith, len)) parts.zeros_are in
      let kind : get_or page 0 0 ≡ 1 = eqb-true (get_or page 0 0) 1 parts.kind_is in
      let whole : page ≡ 1 ∷ drop 1 page = drop_more page 0 0 (omega (arith, len)) ∙ ap (λ (b : ℕ). b ∷ drop 1 page) kind in (
        record { count = length-map-range_with_len (λ k. slot_in width page (slot_at width k)) 0 n; each = slots.0 },
        whole ∙ ap (λ (l : List ℕ). 1 ∷ l) (front ∙ ap (λ (l : List ℕ). replicate 15 0 ++ l) slots_hold),
      )

  again_parts : (rows : Rows) → AreRows v rows → page ≡ record_page (width_of v.metric v.dim) rows → AreParts kind_test front_zeros all_slots end_zeros × (rows_in (width_of v.metric v.dim) page ≡ rows)
  unfolding record_page
  again_parts rows are same =
      let width : ℕ = width_of v.metric v.dim in
      let n : ℕ = slots_in_page width in
      let tail : List ℕ = replicate (16384 - slot_at width n) 0 in
      let front : drop 1 page ≡ replicate 15 0 ++ (flat_map (slot_bytes width) rows ++ tail) = ap (drop 1) same in
      let first : slot_at width 0 ≡ 16 = omega arith in
      let slots_hold : drop (slot_at width 0) page ≡ flat_map (slot_bytes width) rows ++ tail = ap (λ (k : ℕ). drop k page) first ∙ behind 1 15 page (replicate 15 0) (flat_map (slot_bytes width) rows ++ tail) front refl in
      let read = rows_again v page tail rows 0 are.each slots_hold in
      let all : slot_at width 0 + (16 + width) * length rows ≡ slot_at width n = omega (arith, ap (λ (k : ℕ). (16 + width) * k) are.count) in
      let end_holds : drop (slot_at width n) page ≡ tail ++ [] =
      ap (λ (k : ℕ). drop k page) (sym all) ∙ behind (slot_at width 0) ((16 + width) * length rows) page (flat_map (slot_bytes width) rows) tail slots_hold (length-rows v rows are.each) ∙ sym (append-nil tail) in (
        record {
          kind_is = eq-eqb (get_or page 0 0) 1 (ap (λ (l : List ℕ). get_or l 0 0) same);
          zeros_are = zeros_are 15 1 page (flat_map (slot_bytes width) rows ++ tail) front;
          slots_are = ap (λ (k : ℕ). first_bad (slots_fields v page 0 k)) (sym are.count) ∙ read.0;
          rest_are = zeros_are (16384 - slot_at width n) (slot_at width n) page [] end_holds;
        },
        ap (λ (k : ℕ). rows_from width page 0 k) (sym are.count) ∙ read.1,
      )

  -- a page is read as rows exactly where it is their written form
  pub record_from : (rows : Rows) → AreBytes page → length page ≡ 16384 → rows_of_page v page ≡ Ok rows → AreRows v rows × (page ≡ record_page (width_of v.metric v.dim) rows)
  record_from rows bytes len is =
      let parts = said_ok (first_bad (page_with kind_test front_zeros all_slots end_zeros)) (rows_in (width_of v.metric v.dim) page) rows (sym (page_says (first_bad (page_with kind_test front_zeros all_slots end_zeros)) refl) ∙ is) in
      subst (λ (r : Rows). AreRows v r × (page ≡ record_page (width_of v.metric v.dim) r)) parts.1 (page_spelled bytes len (with_parts kind_test front_zeros all_slots end_zeros parts.0))

  pub record_again : (rows : Rows) → AreRows v rows → page ≡ record_page (width_of v.metric v.dim) rows → rows_of_page v page ≡ Ok rows
  record_again rows are same =
      let all = again_parts rows are same in
      let parts = all.0 in
      page_says None (with_slots kind_test front_zeros all_slots end_zeros parts.kind_is parts.zeros_are ∙ append_lawful all_slots end_zeros parts.slots_are ∙ parts.rest_are) ∙ ap (λ (r : Rows). Ok r) all.1

-- the slots one by one
module _ (v : Values) (page : List ℕ) where
  abbrev pub IsSoFar : ℕ → Rows → Type 0
  IsSoFar k rows = (first_bad (slots_fields v page 0 k) ≡ None) × (rows ≡ rows_from (width_of v.metric v.dim) page 0 k)

  range_split : (a b i : ℕ) → range_with_len i (a + b) ≡ range_with_len i a ++ range_with_len (i + a) b
  range_split zero b i =
      let same : i ≡ i + 0 = omega arith in
      let none : 0 + b ≡ b = omega arith in
      ap (range_with_len i) none ∙ ap (λ (k : ℕ). range_with_len k b) same
  range_split (suc a) b i =
      let one : suc a + b ≡ suc (a + b) = omega arith in
      let on : i + 1 + a ≡ i + suc a = omega arith in
      ap (range_with_len i) one ∙ ap (λ (l : List ℕ). i ∷ l) (range_split a b (i + 1)) ∙ ap (λ (k : ℕ). i ∷ (range_with_len (i + 1) a ++ range_with_len k b)) on

  fields_split : (a b : ℕ) → slots_fields v page 0 (a + b) ≡ slots_fields v page 0 a ++ slots_fields v page a b
  fields_split a b =
      let f : ℕ → List Field = λ k. slot_fields v page (slot_at (width_of v.metric v.dim) k) in
      let start : 0 + a ≡ a = omega arith in
      ap (flat_map f) (range_split a b 0) ∙ flat_map-append f (range_with_len 0 a) (range_with_len (0 + a) b) ∙ ap (λ (k : ℕ). slots_fields v page 0 a ++ slots_fields v page k b) start

  pub one_more : (k : ℕ) (rows : Rows) (row : Option Slot) → IsSoFar k rows → slot_of v page (slot_at (width_of v.metric v.dim) k) ≡ Ok row → IsSoFar (k + 1) (rows ++ row ∷ [])
  one_more k rows row so_far is =
      let width : ℕ = width_of v.metric v.dim in
      let parts = said_ok (first_bad (slot_fields v page (slot_at width k))) (slot_in width page (slot_at width k)) row is in (
        ap first_bad (fields_split k 1) ∙ append_lawful (slots_fields v page 0 k) (slots_fields v page k 1) so_far.0 ∙ append_lawful (slot_fields v page (slot_at width k)) [] parts.0,
        ap (λ (r : Option Slot). rows ++ r ∷ []) (sym parts.1) ∙ ap (λ (l : Rows). l ++ slot_in width page (slot_at width k) ∷ []) so_far.1
            ∙ sym (map-range_with_len_more (λ j. slot_in width page (slot_at width j)) 0 k k (omega arith)),
      )

  pub one_bad : (k : ℕ) (rows : Rows) (e : LayoutFault) → IsSoFar k rows → k < slots_in_page (width_of v.metric v.dim) → IsWhy (slot_of v page (slot_at (width_of v.metric v.dim) k)) e → IsWhy (slots_of v page) e
  one_bad k rows Memory so_far lt why = tt
  one_bad k rows Foreign so_far lt why = why
  one_bad k rows (Damaged offset) so_far lt why =
      let width : ℕ = width_of v.metric v.dim in
      let n : ℕ = slots_in_page width in
      let here : first_bad (slot_fields v page (slot_at width k)) ≡ Some offset = said_bad (first_bad (slot_fields v page (slot_at width k))) (slot_in width page (slot_at width k)) offset why in
      let rest : n ≡ k + suc (n - (k + 1)) = omega (arith, lt) in
      let bad : first_bad (slots_fields v page 0 n) ≡ Some offset =
      ap (λ (m : ℕ). first_bad (slots_fields v page 0 m)) rest ∙ ap first_bad (fields_split k (suc (n - (k + 1)))) ∙ append_lawful (slots_fields v page 0 k) (slots_fields v page k (suc (n - (k + 1)))) so_far.0
      ∙ append_bad (slot_fields v page (slot_at width k)) (slots_fields v page (k + 1) (n - (k + 1))) offset here in
      ap (λ (o : Option ℕ). unless_bad o (rows_in width page)) bad

  pub all_said : (k : ℕ) (rows : Rows) → IsSoFar k rows → k ≡ slots_in_page (width_of v.metric v.dim) → slots_of v page ≡ Ok rows
  all_said k rows so_far is =
      let width : ℕ = width_of v.metric v.dim in
      let lawful : first_bad (slots_fields v page 0 (slots_in_page width)) ≡ None = ap (λ (m : ℕ). first_bad (slots_fields v page 0 m)) (sym is) ∙ so_far.0 in
      let rows_are : rows_in width page ≡ rows = ap (rows_from width page 0) (sym is) ∙ sym so_far.1 in
      ap (λ (o : Option ℕ). unless_bad o (rows_in width page)) lawful ∙ ap (λ (r : Rows). Ok r) rows_are
