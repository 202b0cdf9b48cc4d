-- An entry and a slot of a page of leaves have one spelling.
use Rattle.std.proofs.Common.{◌≡◌, ℕ, ◌+◌, ◌-◌, ◌*◌, ◌<◌, ◌≤◌, not, leb, eqb, List, [], ◌∷◌, ◌++◌, length, map, drop, replicate, Option, Some, None, refl, sym, ap, ◌∙◌, append_assoc, arith}
use Rattle.std.specs.List.{flat_map, range_with_len}
use Rattle.std.specs.Option.{option_or}
use Rattle.std.proofs.lemmas.Bool.{not-true, not_from_true, not_from_false, leb-true, le-leb, lt-leb, eqb-false, eq-eqb, ne_eqb}
use Rattle.std.proofs.lemmas.List.{length-append, length-replicate}
use Rattle.std.proofs.lemmas.List.FromFn.{length-map-range_with_len, map-range_with_len_more}
use Rattle.vec_record.specs.Vectors.{AreBytes}
use Rattle.page_gate.specs.Gate.{number_4}
use Rattle.mtree_node.specs.Preorder.{LeafRow}
use Rattle.page_layout.specs.Fields.{Field, word, zero_fields, first_bad}
use Rattle.page_layout.specs.Leaves.{leaf_row_at, leaf_row_fields, leaf_rows_fields, leaf_slot_fields, leaf_row_in, leaf_rows_in, IsLeafRow, IsLeaf, leaf_row_bytes, leaf_bytes}
use Rattle.page_layout.proofs.Places.{behind, number_small, word_then, number_is, first_lawful, then_lawful, then_bad, append_lawful, zeros_then, zeros_are}
use Rattle.page_layout.proofs.Runs.{both_lawful, three_or, length-run, run_read, run_again, run_behind}

-- ---- an entry

row_read : (page : List ℕ) → AreBytes page → (at : ℕ) → at + 8 ≤ length page → first_bad (leaf_row_fields page at) ≡ None
    → IsLeafRow (leaf_row_in page at) × (drop at page ≡ leaf_row_bytes (leaf_row_in page at) ++ drop (at + 8) page)
row_read page bytes at le lawful =
    let parent : ℕ = number_4 (at + 4) page in
    let number = first_lawful (at, not (eqb (number_4 at page) 0)) [] lawful in
    let on : at + 4 + 4 ≡ at + 8 = omega arith in
    let rest : drop (at + 4) page ≡ word parent ++ drop (at + 8) page = word_then (at + 4) page bytes (omega (arith, le)) ∙ ap (λ (k : ℕ). word parent ++ drop k page) on in (
      record {
        number = eqb-false (number_4 at page) 0 (not-true (eqb (number_4 at page) 0) number.0);
        small = number_small at page bytes;
        parent = number_small (at + 4) page bytes;
      },
      word_then at page bytes (omega (arith, le)) ∙ ap (λ (l : List ℕ). word (number_4 at page) ++ l) rest,
    )

pub row_bad : (page : List ℕ) (at : ℕ) → number_4 at page ≡ 0 → first_bad (leaf_row_fields page at) ≡ Some at
row_bad page at is = then_bad (at, not (eqb (number_4 at page) 0)) [] (not_from_true (eqb (number_4 at page) 0) (eq-eqb (number_4 at page) 0 is))

pub row_good : (page : List ℕ) (at : ℕ) → (number_4 at page ≡ 0 → ⊥) → first_bad (leaf_row_fields page at) ≡ None
row_good page at used = then_lawful (at, not (eqb (number_4 at page) 0)) [] (not_from_false (eqb (number_4 at page) 0) (ne_eqb (number_4 at page) 0 used))

row_again : (page : List ℕ) (at : ℕ) (row : LeafRow) (rest : List ℕ) → IsLeafRow row → drop at page ≡ leaf_row_bytes row ++ rest
    → (first_bad (leaf_row_fields page at) ≡ None) × (leaf_row_in page at ≡ row)
row_again page at row rest is holds =
    let pair : ℕ → ℕ → LeafRow = λ a b. (a, b) in
    let number : number_4 at page ≡ row.0 = number_is at row.0 page (word row.1 ++ rest) is.small holds in
    let parent : number_4 (at + 4) page ≡ row.1 = number_is (at + 4) row.1 page rest is.parent (behind at 4 page (word row.0) (word row.1 ++ rest) holds refl) in (
      row_good page at (λ zero_is. is.number (sym number ∙ zero_is)),
      ap (λ (n : ℕ). pair n (number_4 (at + 4) page)) number ∙ ap (pair row.0) parent,
    )

row_long : (row : LeafRow) → IsLeafRow row → length (leaf_row_bytes row) ≡ 8
row_long row is = refl

-- the entries one by one
pub row_next : (page : List ℕ) (at k : ℕ) (rows new : List LeafRow) (number parent : ℕ) → rows ≡ map (λ i. leaf_row_in page (leaf_row_at at i)) (range_with_len 0 k)
    → number ≡ number_4 (leaf_row_at at k) page → parent ≡ number_4 (leaf_row_at at k + 4) page → new ≡ rows ++ (number, parent) ∷ []
    → new ≡ map (λ i. leaf_row_in page (leaf_row_at at i)) (range_with_len 0 (k + 1))
row_next page at k rows new number parent rows_are number_is parent_is new_is =
    let pair : ℕ → ℕ → LeafRow = λ a b. (a, b) in
    let row : LeafRow = leaf_row_in page (leaf_row_at at k) in
    let same : pair number parent ≡ row = ap (λ (n : ℕ). pair n parent) number_is ∙ ap (pair (number_4 (leaf_row_at at k) page)) parent_is in
    new_is ∙ ap (λ (r : LeafRow). rows ++ r ∷ []) same ∙ ap (λ (l : List LeafRow). l ++ row ∷ []) rows_are ∙ sym (map-range_with_len_more (λ i. leaf_row_in page (leaf_row_at at i)) 0 k k (omega arith))

-- ---- a slot

pub leaf_long : (rows : List LeafRow) → IsLeaf rows → length (leaf_bytes rows) ≡ 256
leaf_long rows is =
    let entries : List ℕ = flat_map leaf_row_bytes rows in
    let rest : List ℕ = replicate (240 - 8 * length rows) 0 in
    let many : length entries ≡ 8 * length rows = length-run leaf_row_bytes IsLeafRow 8 row_long rows is.each in
    omega (arith, length-append entries rest, length-replicate {A = ℕ} (240 - 8 * length rows) 0, many, is.few)

-- a slot and what is behind it, part by part
pub leaf_then : (n : ℕ) (rows : List LeafRow) (rest : List ℕ) → length rows ≡ n
    → word n ++ (replicate 12 0 ++ (flat_map leaf_row_bytes rows ++ (replicate (240 - 8 * n) 0 ++ rest))) ≡ leaf_bytes rows ++ rest
leaf_then n rows rest is =
    let entries : List ℕ = flat_map leaf_row_bytes rows in
    let whole : ℕ → List ℕ → List ℕ = λ k l. word k ++ (replicate 12 0 ++ l) in
    ap (λ (l : List ℕ). whole n l) (sym (append_assoc entries (replicate (240 - 8 * n) 0) rest))
    ∙ ap (λ (k : ℕ). whole k ((entries ++ replicate (240 - 8 * k) 0) ++ rest)) (sym is)

abbrev slot_with : List ℕ → ℕ → ℕ → List Field
slot_with page at n = (at, leb n 30) ∷ (zero_fields (at + 4) 12 page ++ (leaf_rows_fields page at n ++ zero_fields (leaf_row_at at n) (240 - 8 * n) page))

module _ (page : List ℕ) (at : ℕ) where
  pub fill_few : first_bad (leaf_slot_fields page at) ≡ None → number_4 at page ≤ 30
  fill_few lawful =
      let n : ℕ = number_4 at page in
      leb-true n 30 (first_lawful (at, leb n 30) (zero_fields (at + 4) 12 page ++ (leaf_rows_fields page at n ++ zero_fields (leaf_row_at at n) (240 - 8 * n) page)) lawful).0

  pub slot_read : AreBytes page → at + 256 ≤ length page → first_bad (leaf_slot_fields page at) ≡ None → IsLeaf (leaf_rows_in page at) × (drop at page ≡ leaf_bytes (leaf_rows_in page at) ++ drop (at + 256) page)
  slot_read bytes le lawful =
      let n : ℕ = number_4 at page in
      let rows : List LeafRow = leaf_rows_in page at in
      let few : n ≤ 30 = fill_few lawful in
      let ends : List Field = zero_fields (leaf_row_at at n) (240 - 8 * n) page in
      let a = first_lawful (at, leb n 30) (zero_fields (at + 4) 12 page ++ (leaf_rows_fields page at n ++ ends)) lawful in
      let b = both_lawful (zero_fields (at + 4) 12 page) (leaf_rows_fields page at n ++ ends) a.1 in
      let c = both_lawful (leaf_rows_fields page at n) ends b.1 in
      let all : 0 + n ≡ n = omega arith in
      let first : leaf_row_at at 0 ≡ at + 4 + 12 = omega arith in
      let end_is : leaf_row_at at n + (240 - 8 * n) ≡ at + 256 = omega (arith, few) in
      let entries = run_read LeafRow page (at + 16) 8 (leaf_row_in page) (leaf_row_fields page) leaf_row_bytes IsLeafRow (row_read page bytes) n 0 (omega (arith, few, le)) c.0 in
      let many : length rows ≡ n = length-map-range_with_len (λ k. leaf_row_in page (leaf_row_at at k)) 0 n in
      let tail : drop (leaf_row_at at n) page ≡ replicate (240 - 8 * n) 0 ++ drop (at + 256) page =
      zeros_then (240 - 8 * n) (leaf_row_at at n) page (omega (arith, end_is, le)) c.1 ∙ ap (λ (k : ℕ). replicate (240 - 8 * n) 0 ++ drop k page) end_is in
      let middle : drop (at + 4 + 12) page ≡ flat_map leaf_row_bytes rows ++ (replicate (240 - 8 * n) 0 ++ drop (at + 256) page) =
      ap (λ (k : ℕ). drop k page) (sym first) ∙ entries.1 ∙ ap (λ (k : ℕ). flat_map leaf_row_bytes rows ++ drop (leaf_row_at at k) page) all ∙ ap (λ (l : List ℕ). flat_map leaf_row_bytes rows ++ l) tail in
      let front : drop (at + 4) page ≡ replicate 12 0 ++ drop (at + 4 + 12) page = zeros_then 12 (at + 4) page (omega (arith, le)) b.0 in (
        record { few = omega (arith, many, few); each = entries.0 },
        word_then at page bytes (omega (arith, le)) ∙ ap (λ (l : List ℕ). word n ++ l) (front ∙ ap (λ (l : List ℕ). replicate 12 0 ++ l) middle) ∙ leaf_then n rows (drop (at + 256) page) many,
      )

  -- the fields of a slot, each part by itself
  pub slot_over : 30 < number_4 at page → first_bad (leaf_slot_fields page at) ≡ Some at
  slot_over over =
      let n : ℕ = number_4 at page in
      then_bad (at, leb n 30) (zero_fields (at + 4) 12 page ++ (leaf_rows_fields page at n ++ zero_fields (leaf_row_at at n) (240 - 8 * n) page)) (lt-leb n 30 over)

  pub slot_said : (n front back : ℕ) (a b c : Option ℕ) → n ≡ number_4 at page → n ≤ 30 → front ≡ 12 → back ≡ 240 - 8 * n
      → a ≡ first_bad (zero_fields (at + 4) front page) → b ≡ first_bad (leaf_rows_fields page at n) → c ≡ first_bad (zero_fields (leaf_row_at at n) back page)
      → option_or (option_or a b) c ≡ first_bad (leaf_slot_fields page at)
  slot_said n front back a b c fill few front_is back_is a_is b_is c_is =
      let zeros : List Field = zero_fields (at + 4) 12 page in
      let rows : List Field = leaf_rows_fields page at n in
      let rest : List Field = zero_fields (leaf_row_at at n) (240 - 8 * n) page in
      let a_same : a ≡ first_bad zeros = a_is ∙ ap (λ (k : ℕ). first_bad (zero_fields (at + 4) k page)) front_is in
      let c_same : c ≡ first_bad rest = c_is ∙ ap (λ (k : ℕ). first_bad (zero_fields (leaf_row_at at n) k page)) back_is in
      ap (λ (o : Option ℕ). option_or (option_or o b) c) a_same ∙ ap (λ (o : Option ℕ). option_or (option_or (first_bad zeros) o) c) b_is ∙ ap (option_or (option_or (first_bad zeros) (first_bad rows))) c_same
      ∙ sym (three_or zeros rows rest) ∙ sym (then_lawful (at, leb n 30) (zeros ++ (rows ++ rest)) (le-leb n 30 few)) ∙ ap (λ (k : ℕ). first_bad (slot_with page at k)) fill

  pub slot_again : (rows : List LeafRow) (rest : List ℕ) → IsLeaf rows → drop at page ≡ leaf_bytes rows ++ rest → (first_bad (leaf_slot_fields page at) ≡ None) × (leaf_rows_in page at ≡ rows)
  slot_again rows rest is holds =
      let n : ℕ = length rows in
      let entries : List ℕ = flat_map leaf_row_bytes rows in
      let ends : List ℕ = replicate (240 - 8 * n) 0 ++ rest in
      let all : drop at page ≡ word n ++ (replicate 12 0 ++ (entries ++ ends)) = holds ∙ sym (leaf_then n rows rest refl) in
      let fill : number_4 at page ≡ n = number_is at n page (replicate 12 0 ++ (entries ++ ends)) (omega (arith, is.few)) all in
      let zeros : drop (at + 4) page ≡ replicate 12 0 ++ (entries ++ ends) = behind at 4 page (word n) (replicate 12 0 ++ (entries ++ ends)) all refl in
      let first : at + 4 + 12 ≡ leaf_row_at at 0 = omega arith in
      let start : at + 4 + 12 ≡ at + 16 = omega arith in
      let here : drop (at + 4 + 12) page ≡ entries ++ ends = behind (at + 4) 12 page (replicate 12 0) (entries ++ ends) zeros refl in
      let again = run_again LeafRow page (at + 16) 8 (leaf_row_in page) (leaf_row_fields page) leaf_row_bytes IsLeafRow row_long (row_again page) ends rows 0 is.each (ap (λ (k : ℕ). drop k page) (sym first) ∙ here) in
      let behind_rows : drop (leaf_row_at at n) page ≡ ends = run_behind LeafRow page (at + 16) 8 (leaf_row_in page) (leaf_row_fields page) leaf_row_bytes IsLeafRow row_long ends rows is.each (ap (λ (k : ℕ). drop k page) (sym start) ∙ here) in
      let tail : List Field = zero_fields (leaf_row_at at n) (240 - 8 * n) page in (
        ap (λ (k : ℕ). first_bad (slot_with page at k)) fill ∙ then_lawful (at, leb n 30) (zero_fields (at + 4) 12 page ++ (leaf_rows_fields page at n ++ tail)) (le-leb n 30 is.few)
            ∙ append_lawful (zero_fields (at + 4) 12 page) (leaf_rows_fields page at n ++ tail) (zeros_are 12 (at + 4) page (entries ++ ends) zeros)
            ∙ append_lawful (leaf_rows_fields page at n) tail again.0 ∙ zeros_are (240 - 8 * n) (leaf_row_at at n) page rest behind_rows,
        ap (λ (k : ℕ). map (λ i. leaf_row_in page (leaf_row_at at i)) (range_with_len 0 k)) fill ∙ again.1,
      )
