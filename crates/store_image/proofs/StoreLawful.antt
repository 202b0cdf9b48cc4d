-- The grammar of a record page has checked what a line must be.
use Rattle.std.proofs.Common.{◌≡◌, inl, inr, ℕ, zero, suc, ◌+◌, ◌-◌, ◌≤◌, Bool, true, false, cond, List, [], ◌∷◌, ◌++◌, map, get_or, None, Ok, refl, sym, ◌∙◌, ap, subst, arith}
use Rattle.std.specs.Prelude.{◌==◌, nat_le}
use Rattle.std.specs.List.{range_with_len, AllByRecursion}
use Rattle.std.proofs.lemmas.Bool.{cases_Bool, leb-true, le-leb, eqb-true, eqb-false, and_parts}
use Rattle.vec_record.specs.Limits.{is_between, width_of}
use Rattle.vec_record.specs.Spelled.{is_spelled}
use Rattle.page_gate.specs.Gate.{part, number_4}
use Rattle.page_layout.specs.declared.body.Body.{Body}
use Rattle.page_layout.specs.Fields.{Field, first_bad, zero_fields}
use Rattle.page_layout.specs.Heads.{Values}
use Rattle.page_layout.specs.Slots.{is_anchor, is_label, slot_at, slot_fields, slot_in, slots_fields, slots_in_page, record_fields, rows_in}
use Rattle.page_layout.specs.Bodies.{body_of}
use Rattle.page_layout.proofs.Places.{first_lawful}
use Rattle.page_layout.proofs.Runs.{both_lawful}
use Rattle.page_layout.proofs.SlotReads.{fields_used, free_in, used_in}
use Rattle.stored_lines.specs.Lines.{IsLine}
use Rattle.store_image.specs.Contents.{slots_of, all_slots}
use Rattle.store_image.specs.Loading.{bodies_in}
use Rattle.store_image.proofs.StoreReading.{rows_read, body_so, body_parts, none_of}
use Rattle.store_image.proofs.StoreNumbers.{IsLawful}

-- a line whose tests pass
module _ (v : Values) (number count anchor label : ℕ) where
  abbrev Lawful : Type 0
  Lawful = IsLine v.minpts (record { number = number; count = count; anchor = anchor; label = label })

  line_lawful : (number ≡ 0 → ⊥) → nat_le 1 count ≡ true → is_anchor v count anchor ≡ true → is_label v number count label ≡ true → Lawful
  line_lawful some counted hung labelled = by (nat_le v.minpts count) refl hung labelled
    where
      by : (b : Bool) → nat_le v.minpts count ≡ b → cond b (anchor == 0) true ≡ true → cond b (is_between 1 number label) (label == 0) ≡ true → Lawful
      by true core a l =
          let between = and_parts (nat_le 1 label) (nat_le label number) l in
          let enough : v.minpts ≤ count = leb-true v.minpts count core in
          record {
            number = omega (arith, some);
            count = leb-true 1 count counted;
            unhung = λ high. eqb-true anchor 0 a;
            labelled = λ high. leb-true 1 label between.0;
            least = λ high. leb-true label number between.1;
            unlabelled = λ low. absurd (omega (arith, enough, low));
          }
      by false outer a l =
          let no_core : v.minpts ≤ count → ⊥ = λ high. absurd (let both : false ≡ true = sym outer ∙ le-leb v.minpts count high in cc) in
          record {
            number = omega (arith, some);
            count = leb-true 1 count counted;
            unhung = λ high. absurd (no_core high);
            labelled = λ high. absurd (no_core high);
            least = λ high. absurd (no_core high);
            unlabelled = λ low. eqb-true label 0 l;
          }

module _ (v : Values) (page : List ℕ) where
  abbrev width : ℕ
  width = width_of v.metric v.dim

  used_lawful : (at : ℕ) → (number_4 at page ≡ 0 → ⊥) → first_bad (slot_fields v page at) ≡ None → Lawful v (number_4 at page) (number_4 (at + 4) page) (number_4 (at + 8) page) (number_4 (at + 12) page)
  used_lawful at used lawful =
      let spelled : Field = (at + 15 + width, is_spelled v.metric v.dim (part (at + 16) width page)) in
      let label : Field = (at + 12, is_label v (number_4 at page) (number_4 (at + 4) page) (number_4 (at + 12) page)) in
      let anchor : Field = (at + 8, is_anchor v (number_4 (at + 4) page) (number_4 (at + 8) page)) in
      let count : Field = (at + 4, nat_le 1 (number_4 (at + 4) page)) in
      let a = first_lawful count (anchor ∷ label ∷ spelled ∷ []) (ap first_bad (sym (fields_used v page at used)) ∙ lawful) in
      let b = first_lawful anchor (label ∷ spelled ∷ []) a.1 in
      let c = first_lawful label (spelled ∷ []) b.1 in
      line_lawful v (number_4 at page) (number_4 (at + 4) page) (number_4 (at + 8) page) (number_4 (at + 12) page) used a.0 b.0 c.0

  slot_lawful : (at : ℕ) → first_bad (slot_fields v page at) ≡ None → IsLawful v.minpts (slot_in width page at)
  slot_lawful at lawful = elim (cases_Bool (number_4 at page == 0)) [
    | inl free ↦ subst (IsLawful v.minpts) (sym (free_in width page at (eqb-true (number_4 at page) 0 free))) tt
    | inr some ↦
        let used : number_4 at page ≡ 0 → ⊥ = eqb-false (number_4 at page) 0 some in
        subst (IsLawful v.minpts) (sym (used_in width page at used)) (used_lawful at used lawful)
  ]

  slots_lawful : (n i : ℕ) → first_bad (slots_fields v page i n) ≡ None → AllByRecursion (IsLawful v.minpts) (map (λ k. slot_in width page (slot_at width k)) (range_with_len i n))
  slots_lawful zero i lawful = tt
  slots_lawful (suc n) i lawful =
      let parts = both_lawful (slot_fields v page (slot_at width i)) (slots_fields v page (i + 1) n) lawful in
      (slot_lawful (slot_at width i) parts.0, slots_lawful n (i + 1) parts.1)

  page_lawful : first_bad (record_fields v page) ≡ None → AllByRecursion (IsLawful v.minpts) (rows_in width page)
  unfolding record_fields
  page_lawful lawful =
      let n = slots_in_page width in
      let end : List Field = zero_fields (slot_at width n) (16384 - slot_at width n) page in
      let behind = first_lawful (0, get_or page 0 0 == 1) (zero_fields 1 15 page ++ (slots_fields v page 0 n ++ end)) lawful in
      let slots = both_lawful (zero_fields 1 15 page) (slots_fields v page 0 n ++ end) behind.1 in
      slots_lawful n 0 (both_lawful (slots_fields v page 0 n) end slots.1).0

  body_lawful : (b : Body) → body_of v page ≡ Ok b → AllByRecursion (IsLawful v.minpts) (slots_of b)
  body_lawful b is =
      body_so (λ rows one. AllByRecursion (IsLawful v.minpts) rows) tt v page
      (λ r read. let k = rows_read v page r read in subst (AllByRecursion (IsLawful v.minpts)) (sym k.same) (page_lawful k.lawful)) b is

all_append : {A : Type 0} (P : A → Type 0) (xs ys : List A) → AllByRecursion P xs → AllByRecursion P ys → AllByRecursion P (xs ++ ys)
all_append P [] ys a b = b
all_append P (x ∷ xs) ys a b = (a.0, all_append P xs ys a.1 b)

pub bodies_lawful : (v : Values) (page : ℕ) (pages : List (List ℕ)) (bodies : List Body) → bodies_in v page pages ≡ Ok bodies → AllByRecursion (IsLawful v.minpts) (all_slots bodies)
bodies_lawful v page [] bodies is = subst (λ (l : List Body). AllByRecursion (IsLawful v.minpts) (all_slots l)) (sym (none_of v page bodies is)) tt
bodies_lawful v page (bytes ∷ more) bodies is =
    let s = body_parts v page bytes more bodies is in
    subst (λ (l : List Body). AllByRecursion (IsLawful v.minpts) (all_slots l)) (sym s.all)
    (all_append (IsLawful v.minpts) (slots_of s.mine) (all_slots s.rest) (body_lawful v bytes s.mine s.first) (bodies_lawful v (page + 1) more s.rest s.others))
