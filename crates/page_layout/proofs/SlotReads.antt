-- A slot has one spelling, and what reading it gives.
use Rattle.std.proofs.Common.{◌≡◌, inl, inr, ℕ, ◌+◌, ◌-◌, ◌^◌, ◌<◌, ◌≤◌, Bool, true, eqb, leb, cond, List, [], ◌∷◌, ◌++◌, length, take, drop, replicate, Option, Some, None, refl, sym, ap, subst, ◌∙◌, append_assoc, arith}
use Rattle.std.proofs.lemmas.Bool.{cases_Bool, leb-true, le-leb, eqb-true, eqb-false, eq-eqb, ne_eqb, and_parts}
use Rattle.std.proofs.lemmas.List.{replicate-append-replicate}
use Rattle.vec_record.specs.Vectors.{AreBytes}
use Rattle.vec_record.specs.Limits.{is_between, width_of}
use Rattle.vec_record.specs.Spelled.{is_spelled}
use Rattle.page_gate.specs.Gate.{part, number_4}
use Rattle.page_layout.specs.declared.slot.Slot.{Slot}
use Rattle.page_layout.specs.Fields.{Field, word, zero_fields, first_bad, unless_bad}
use Rattle.page_layout.specs.Heads.{Values}
use Rattle.page_layout.specs.Slots.{is_core_count, is_anchor, is_label, slot_fields, slot_in, IsSlot, IsRow, slot_bytes}
use Rattle.page_layout.specs.Steps.{slot_of}
use Rattle.page_layout.proofs.Places.{bytes-part, length-part, part_then, part_is, behind, number_small, word_then, number_is, first_lawful, zeros_then, zeros_are}

abbrev pub used_with : ℕ → ℕ → Bool → Bool → Bool → Bool → List Field
used_with at width count anchor label spelled = (at + 4, count) ∷ (at + 8, anchor) ∷ (at + 12, label) ∷ (at + 15 + width, spelled) ∷ []

abbrev pub used_fields : Values → List ℕ → ℕ → List Field
used_fields v page at =
    used_with at (width_of v.metric v.dim) (leb 1 (number_4 (at + 4) page)) (is_anchor v (number_4 (at + 4) page) (number_4 (at + 8) page))
    (is_label v (number_4 at page) (number_4 (at + 4) page) (number_4 (at + 12) page)) (is_spelled v.metric v.dim (part (at + 16) (width_of v.metric v.dim) page))

record AreUsed (count anchor label spelled : Bool) : Type 0 where
  first : count ≡ true
  second : anchor ≡ true
  third : label ≡ true
  fourth : spelled ≡ true

used_parts : (at width : ℕ) (count anchor label spelled : Bool) → first_bad (used_with at width count anchor label spelled) ≡ None → AreUsed count anchor label spelled
used_parts at width count anchor label spelled lawful =
    let a = first_lawful (at + 4, count) ((at + 8, anchor) ∷ (at + 12, label) ∷ (at + 15 + width, spelled) ∷ []) lawful in
    let b = first_lawful (at + 8, anchor) ((at + 12, label) ∷ (at + 15 + width, spelled) ∷ []) a.1 in
    let c = first_lawful (at + 12, label) ((at + 15 + width, spelled) ∷ []) b.1 in
    let d = first_lawful (at + 15 + width, spelled) [] c.1 in
    record { first = a.0; second = b.0; third = c.0; fourth = d.0 }

used_from : (at width : ℕ) (count anchor label spelled : Bool) → count ≡ true → anchor ≡ true → label ≡ true → spelled ≡ true → first_bad (used_with at width count anchor label spelled) ≡ None
used_from at width count anchor label spelled a b c d = rw (a, b, c, d) refl

module _ (v : Values) (page : List ℕ) (at : ℕ) where
  pub fields_used : (number_4 at page ≡ 0 → ⊥) → slot_fields v page at ≡ used_fields v page at
  fields_used used = ap (λ (b : Bool). cond b (zero_fields (at + 4) (12 + width_of v.metric v.dim) page) (used_fields v page at)) (ne_eqb (number_4 at page) 0 used)

  pub fields_free : number_4 at page ≡ 0 → slot_fields v page at ≡ zero_fields (at + 4) (12 + width_of v.metric v.dim) page
  fields_free free = ap (λ (b : Bool). cond b (zero_fields (at + 4) (12 + width_of v.metric v.dim) page) (used_fields v page at)) (eq-eqb (number_4 at page) 0 free)

abbrev found : ℕ → List ℕ → ℕ → Slot
found width page at = record {
  number = number_4 at page;
  count = number_4 (at + 4) page;
  anchor = number_4 (at + 8) page;
  label = number_4 (at + 12) page;
  vector = part (at + 16) width page;
}

module _ (width : ℕ) (page : List ℕ) (at : ℕ) where
  slot_in_is : slot_in width page at ≡ cond (eqb (number_4 at page) 0) None (Some (found width page at))
  unfolding slot_in
  slot_in_is = refl

  pub free_in : number_4 at page ≡ 0 → slot_in width page at ≡ None
  free_in free = slot_in_is ∙ ap (λ (b : Bool). cond b None (Some (found width page at))) (eq-eqb (number_4 at page) 0 free)

  pub used_in : (number_4 at page ≡ 0 → ⊥) → slot_in width page at ≡ Some (found width page at)
  used_in used = slot_in_is ∙ ap (λ (b : Bool). cond b None (Some (found width page at))) (ne_eqb (number_4 at page) 0 used)

  pub used_in_is : (number_4 at page ≡ 0 → ⊥) → (n count anchor label : ℕ) (vector : List ℕ) → n ≡ number_4 at page → count ≡ number_4 (at + 4) page → anchor ≡ number_4 (at + 8) page → label ≡ number_4 (at + 12) page
      → vector ≡ part (at + 16) width page → slot_in width page at ≡ Some (record { number = n; count = count; anchor = anchor; label = label; vector = vector })
  used_in_is used n count anchor label vector n_is count_is anchor_is label_is vector_is = used_in used ∙ rw (n_is, count_is, anchor_is, label_is, vector_is) refl

zero_word : (n : ℕ) (rest : List ℕ) → replicate (16 + n) 0 ++ rest ≡ word 0 ++ (replicate (12 + n) 0 ++ rest)
zero_word n rest =
    let sizes : 4 + (12 + n) ≡ 16 + n = omega arith in
    let front : List ℕ = replicate 4 0 in
    let both : front ++ replicate (12 + n) 0 ≡ replicate (16 + n) 0 = replicate-append-replicate 4 (12 + n) 0 ∙ ap (λ (k : ℕ). replicate k 0) sizes in
    ap (λ (l : List ℕ). l ++ rest) (sym both) ∙ append_assoc front (replicate (12 + n) 0) rest

-- a slot from its bytes on, and what lies behind it
abbrev pub HoldsRow : ℕ → List ℕ → ℕ → Option Slot → Type 0
HoldsRow width page at row = drop at page ≡ slot_bytes width row ++ drop (at + (16 + width)) page

module _ (v : Values) (page : List ℕ) (bytes : AreBytes page) (at : ℕ) (le : at + (16 + width_of v.metric v.dim) ≤ length page) where
  free_read : number_4 at page ≡ 0 → first_bad (zero_fields (at + 4) (12 + width_of v.metric v.dim) page) ≡ None → HoldsRow (width_of v.metric v.dim) page at None
  free_read free lawful =
      let width : ℕ = width_of v.metric v.dim in
      let end_is : at + 4 + (12 + width) ≡ at + (16 + width) = omega arith in
      let zeros : drop (at + 4) page ≡ replicate (12 + width) 0 ++ drop (at + (16 + width)) page = zeros_then (12 + width) (at + 4) page (omega (arith, le)) lawful ∙ ap (λ (k : ℕ). replicate (12 + width) 0 ++ drop k page) end_is in
      word_then at page bytes (omega (arith, le)) ∙ ap (λ (n : ℕ). word n ++ drop (at + 4) page) free ∙ ap (λ (l : List ℕ). word 0 ++ l) zeros ∙ sym (zero_word width (drop (at + (16 + width)) page))

  used_read : HoldsRow (width_of v.metric v.dim) page at (Some (found (width_of v.metric v.dim) page at))
  used_read =
      let width : ℕ = width_of v.metric v.dim in
      let on : (k next : ℕ) (rest : List ℕ) → next ≡ k + 4 → k + 4 ≤ at + 16 → drop next page ≡ rest → drop k page ≡ word (number_4 k page) ++ rest =
      λ k next rest is within more. word_then k page bytes (omega (arith, le, within)) ∙ ap (λ (n : ℕ). word (number_4 k page) ++ drop n page) (sym is) ∙ ap (λ (l : List ℕ). word (number_4 k page) ++ l) more in
      let end_is : at + 16 + width ≡ at + (16 + width) = omega arith in
      let vector : drop (at + 16) page ≡ part (at + 16) width page ++ drop (at + (16 + width)) page = part_then (at + 16) width page ∙ ap (λ (k : ℕ). part (at + 16) width page ++ drop k page) end_is in
      let label = on (at + 12) (at + 16) _ (omega arith) (omega arith) vector in
      let anchor = on (at + 8) (at + 12) _ (omega arith) (omega arith) label in
      let count = on (at + 4) (at + 8) _ (omega arith) (omega arith) anchor in
      on at (at + 4) _ refl (omega arith) count

  used_lawful : (number_4 at page ≡ 0 → ⊥) → first_bad (used_fields v page at) ≡ None → IsSlot v (found (width_of v.metric v.dim) page at)
  used_lawful used lawful =
      let width : ℕ = width_of v.metric v.dim in
      let all = used_parts at width (leb 1 (number_4 (at + 4) page)) (is_anchor v (number_4 (at + 4) page) (number_4 (at + 8) page)) (is_label v (number_4 at page) (number_4 (at + 4) page) (number_4 (at + 12) page)) (is_spelled v.metric v.dim (part (at + 16) width page)) lawful in
      record {
        number = used;
        small = number_small at page bytes;
        count = leb-true 1 (number_4 (at + 4) page) all.first;
        count_fits = number_small (at + 4) page bytes;
        anchor = all.second;
        anchor_fits = number_small (at + 8) page bytes;
        label = all.third;
        vector = record { len = length-part (at + 16) width page (omega (arith, le)); bytes = bytes-part (at + 16) width page bytes };
        spelled = all.fourth;
      }

  pub slot_read : first_bad (slot_fields v page at) ≡ None → IsRow v (slot_in (width_of v.metric v.dim) page at) × HoldsRow (width_of v.metric v.dim) page at (slot_in (width_of v.metric v.dim) page at)
  slot_read lawful =
      let width : ℕ = width_of v.metric v.dim in
      elim (cases_Bool (eqb (number_4 at page) 0)) [
        | inl yes_is ↦
            let free : number_4 at page ≡ 0 = eqb-true (number_4 at page) 0 yes_is in
            let row : slot_in width page at ≡ None = free_in width page at free in
            subst (λ (r : Option Slot). IsRow v r × HoldsRow width page at r) (sym row) (tt, free_read free (ap first_bad (sym (fields_free v page at free)) ∙ lawful))
        | inr no_is ↦
            let used : number_4 at page ≡ 0 → ⊥ = eqb-false (number_4 at page) 0 no_is in
            let row : slot_in width page at ≡ Some (found width page at) = used_in width page at used in
            subst (λ (r : Option Slot). IsRow v r × HoldsRow width page at r) (sym row) (used_lawful used (ap first_bad (sym (fields_used v page at used)) ∙ lawful), used_read)
      ]

pub record IsRead (v : Values) (page : List ℕ) (at : ℕ) (row : Option Slot) : Type 0 where
  pub lawful : first_bad (slot_fields v page at) ≡ None
  pub same : slot_in (width_of v.metric v.dim) page at ≡ row

-- a label that is lawful is at most its record's number
pub label_most : (v : Values) (number count label : ℕ) → is_label v number count label ≡ true → label ≤ number
label_most v number count label is =
    let all = λ (b : Bool). cond b (is_between 1 number label) (eqb label 0) in
    elim (cases_Bool (is_core_count v count)) [
      | inl yes_is ↦ leb-true label number (and_parts (leb 1 label) (leb label number) (ap all (sym yes_is) ∙ is)).1
      | inr no_is ↦ let none : label ≡ 0 = eqb-true label 0 (ap all (sym no_is) ∙ is) in omega (arith, none)
    ]

pub label_fits : (v : Values) (s : Slot) → IsSlot v s → s.label < 2 ^ 32
label_fits v s is = omega (arith, is.small, label_most v s.number s.count s.label is.label)

-- a slot that was written is read again
pub slot_again : (v : Values) (page : List ℕ) (at : ℕ) (row : Option Slot) (rest : List ℕ) → IsRow v row → drop at page ≡ slot_bytes (width_of v.metric v.dim) row ++ rest → IsRead v page at row
slot_again v page at None rest is holds =
    let width : ℕ = width_of v.metric v.dim in
    let all : drop at page ≡ word 0 ++ (replicate (12 + width) 0 ++ rest) = holds ∙ zero_word width rest in
    let free : number_4 at page ≡ 0 = number_is at 0 page (replicate (12 + width) 0 ++ rest) (omega arith) all in
    record {
      lawful = ap first_bad (fields_free v page at free) ∙ zeros_are (12 + width) (at + 4) page rest (behind at 4 page (word 0) (replicate (12 + width) 0 ++ rest) all refl);
      same = free_in width page at free;
    }
slot_again v page at (Some s) rest is holds =
    let width : ℕ = width_of v.metric v.dim in
    let on : (k next n : ℕ) (more : List ℕ) → k + 4 ≡ next → drop k page ≡ word n ++ more → drop next page ≡ more = λ k next n more is_next here. ap (λ (m : ℕ). drop m page) (sym is_next) ∙ behind k 4 page (word n) more here refl in
    let count_here : drop (at + 4) page ≡ word s.count ++ (word s.anchor ++ (word s.label ++ (s.vector ++ rest))) = on at (at + 4) s.number _ refl holds in
    let anchor_here : drop (at + 8) page ≡ word s.anchor ++ (word s.label ++ (s.vector ++ rest)) = on (at + 4) (at + 8) s.count _ (omega arith) count_here in
    let label_here : drop (at + 12) page ≡ word s.label ++ (s.vector ++ rest) = on (at + 8) (at + 12) s.anchor _ (omega arith) anchor_here in
    let vector_here : drop (at + 16) page ≡ s.vector ++ rest = on (at + 12) (at + 16) s.label _ (omega arith) label_here in
    let number : number_4 at page ≡ s.number = number_is at s.number page _ is.small holds in
    let count : number_4 (at + 4) page ≡ s.count = number_is (at + 4) s.count page _ is.count_fits count_here in
    let anchor : number_4 (at + 8) page ≡ s.anchor = number_is (at + 8) s.anchor page _ is.anchor_fits anchor_here in
    let label : number_4 (at + 12) page ≡ s.label = number_is (at + 12) s.label page _ (label_fits v s is) label_here in
    let vector : part (at + 16) width page ≡ s.vector = part_is (at + 16) width page s.vector rest vector_here is.vector.len in
    let used : number_4 at page ≡ 0 → ⊥ = λ zero_is. is.number (sym number ∙ zero_is) in
    record {
      lawful = ap first_bad (fields_used v page at used)
          ∙ used_from at width (leb 1 (number_4 (at + 4) page)) (is_anchor v (number_4 (at + 4) page) (number_4 (at + 8) page)) (is_label v (number_4 at page) (number_4 (at + 4) page) (number_4 (at + 12) page))
          (is_spelled v.metric v.dim (part (at + 16) width page)) (ap (leb 1) count ∙ le-leb 1 s.count is.count) (ap (λ (k : ℕ). is_anchor v k (number_4 (at + 8) page)) count ∙ ap (is_anchor v s.count) anchor ∙ is.anchor)
          (ap (λ (k : ℕ). is_label v k (number_4 (at + 4) page) (number_4 (at + 12) page)) number ∙ ap (λ (k : ℕ). is_label v s.number k (number_4 (at + 12) page)) count ∙ ap (is_label v s.number s.count) label ∙ is.label) (ap (is_spelled v.metric v.dim) vector ∙ is.spelled);
      same = used_in_is width page at used s.number s.count s.anchor s.label s.vector (sym number) (sym count) (sym anchor) (sym label) (sym vector);
    }

-- ---- the steps of reading

module _ (v : Values) (page : List ℕ) (at : ℕ) where
  pub free_said : (bad : Option ℕ) (n : ℕ) → number_4 at page ≡ 0 → n ≡ 12 + width_of v.metric v.dim → bad ≡ first_bad (zero_fields (at + 4) n page) → slot_of v page at ≡ unless_bad bad None
  free_said bad n free size is =
      let fields : first_bad (slot_fields v page at) ≡ bad = ap first_bad (fields_free v page at free) ∙ ap (λ (k : ℕ). first_bad (zero_fields (at + 4) k page)) (sym size) ∙ sym is in
      ap (λ (o : Option ℕ). unless_bad o (slot_in (width_of v.metric v.dim) page at)) fields ∙ ap (unless_bad bad) (free_in (width_of v.metric v.dim) page at free)

  pub used_said : (bad : Option ℕ) (fields : List Field) → (number_4 at page ≡ 0 → ⊥) → fields ≡ used_fields v page at → bad ≡ first_bad fields → slot_of v page at ≡ unless_bad bad (slot_in (width_of v.metric v.dim) page at)
  used_said bad fields used are is =
      ap (λ (o : Option ℕ). unless_bad o (slot_in (width_of v.metric v.dim) page at)) (ap first_bad (fields_used v page at used) ∙ ap first_bad (sym are) ∙ sym is)

  pub sliced : (n : ℕ) → n ≡ width_of v.metric v.dim → take (at + 16 + n - (at + 16)) (drop (at + 16) page) ≡ part (at + 16) (width_of v.metric v.dim) page
  unfolding part
  sliced n is =
      let same : at + 16 + n - (at + 16) ≡ width_of v.metric v.dim = omega (arith, is) in
      ap (λ (k : ℕ). take k (drop (at + 16) page)) same

  pub used_are : (width number count anchor label : ℕ) (vector : List ℕ) (lawful_anchor lawful_label spelled : Bool) → width ≡ width_of v.metric v.dim → number ≡ number_4 at page → count ≡ number_4 (at + 4) page
      → anchor ≡ number_4 (at + 8) page → label ≡ number_4 (at + 12) page → vector ≡ part (at + 16) (width_of v.metric v.dim) page → lawful_anchor ≡ is_anchor v count anchor → lawful_label ≡ is_label v number count label
      → spelled ≡ is_spelled v.metric v.dim vector → used_with at width (leb 1 count) lawful_anchor lawful_label spelled ≡ used_fields v page at
  used_are width number count anchor label vector lawful_anchor lawful_label spelled width_is number_is count_is anchor_is label_is vector_is anchor_lawful label_lawful spelled_is =
      let test : spelled ≡ is_spelled v.metric v.dim (part (at + 16) (width_of v.metric v.dim) page) = spelled_is ∙ ap (is_spelled v.metric v.dim) vector_is in
      rw (anchor_lawful, label_lawful, test, width_is, number_is, count_is, anchor_is, label_is) refl
