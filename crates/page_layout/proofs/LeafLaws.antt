-- A page of leaves has one spelling, and what reading it gives.
use Rattle.std.proofs.Common.{◌≡◌, ℕ, ◌+◌, ◌<◌, ◌≤◌, Bool, eqb, List, [], ◌∷◌, ◌++◌, length, map, get_or, drop, replicate, Option, Some, None, Ok, refl, sym, ap, subst, ◌∙◌, arith}
use Rattle.std.specs.List.{flat_map, range_with_len}
use Rattle.std.specs.Option.{option_or}
use Rattle.std.proofs.lemmas.Bool.{eqb-true, eq-eqb, ne_eqb}
use Rattle.std.proofs.lemmas.List.{append-nil, drop_all, drop_more}
use Rattle.std.proofs.lemmas.List.FromFn.{length-map-range_with_len, map-range_with_len_more}
use Rattle.vec_record.specs.Vectors.{AreBytes}
use Rattle.page_gate.specs.Gate.{number_4}
use Rattle.mtree_node.specs.Preorder.{LeafRow}
use Rattle.page_layout.specs.Fields.{Field, zero_fields, first_bad, unless_bad}
use Rattle.page_layout.specs.Leaves.{leaf_slot_at, leaf_slot_fields, leaf_slots_fields, leaf_fields, leaf_rows_in, leaves_in, leaves_of, IsLeaf, AreLeaves, leaf_bytes, leaf_page}
use Rattle.page_layout.proofs.Places.{behind, first_lawful, then_lawful, then_bad, append_lawful, zeros_then, zeros_are, said_ok}
use Rattle.page_layout.proofs.Runs.{fields_from, both_lawful, three_or, fields_bad, fields_each, run_read, run_again, run_behind}
use Rattle.page_layout.proofs.LeafReads.{leaf_long, fill_few, slot_read, slot_again}

-- ---- the slots, as many as they are

abbrev pub slots_from : List ℕ → ℕ → List Field
slots_from page n = fields_from (λ i. leaf_slot_fields page (leaf_slot_at i)) 0 n

abbrev pub rows_from : List ℕ → ℕ → List (List LeafRow)
rows_from page n = map (λ i. leaf_rows_in page (leaf_slot_at i)) (range_with_len 0 n)

module _ (page : List ℕ) (n : ℕ) (many : n ≡ 63) where
  slots_are : leaf_slots_fields page ≡ slots_from page n
  unfolding leaf_slots_fields
  slots_are = ap (slots_from page) (sym many)

  pub rows_are : leaves_in page ≡ rows_from page n
  unfolding leaves_in
  rows_are = ap (rows_from page) (sym many)

  pub slots_done : first_bad (slots_from page n) ≡ None → first_bad (leaf_slots_fields page) ≡ None
  slots_done is = ap first_bad slots_are ∙ is

  slots_each : (i : ℕ) → i < n → first_bad (leaf_slots_fields page) ≡ None → first_bad (leaf_slot_fields page (leaf_slot_at i)) ≡ None
  slots_each i lt is = fields_each (λ k. leaf_slot_fields page (leaf_slot_at k)) i n lt (ap first_bad (sym slots_are) ∙ is)

  slots_read : AreBytes page → length page ≡ 16384 → first_bad (leaf_slots_fields page) ≡ None → AreLeaves (leaves_in page) × (drop 16 page ≡ flat_map leaf_bytes (leaves_in page) ++ drop 16144 page)
  slots_read bytes len is =
      let first : leaf_slot_at 0 ≡ 16 = omega arith in
      let last : leaf_slot_at (0 + n) ≡ 16144 = omega (arith, many) in
      let read = run_read (List LeafRow) page 16 256 (leaf_rows_in page) (leaf_slot_fields page) leaf_bytes IsLeaf (λ at le lawful. slot_read page at bytes le lawful) n 0 (omega (arith, last, len)) (ap first_bad (sym slots_are) ∙ is) in
      let long : length (rows_from page n) ≡ n = length-map-range_with_len (λ i. leaf_rows_in page (leaf_slot_at i)) 0 n in
      let holds : drop 16 page ≡ flat_map leaf_bytes (rows_from page n) ++ drop 16144 page =
      ap (λ (k : ℕ). drop k page) (sym first) ∙ read.1 ∙ ap (λ (k : ℕ). flat_map leaf_bytes (rows_from page n) ++ drop k page) last in
      let both : AreLeaves (rows_from page n) × (drop 16 page ≡ flat_map leaf_bytes (rows_from page n) ++ drop 16144 page) = (record { count = long ∙ many; each = read.0 }, holds) in
      subst (λ (l : List (List LeafRow)). AreLeaves l × (drop 16 page ≡ flat_map leaf_bytes l ++ drop 16144 page)) (sym rows_are) both

  slots_again : (leaves : List (List LeafRow)) (rest : List ℕ) → AreLeaves leaves → drop 16 page ≡ flat_map leaf_bytes leaves ++ rest
      → (first_bad (leaf_slots_fields page) ≡ None) × (leaves_in page ≡ leaves) × (drop 16144 page ≡ rest)
  slots_again leaves rest are holds =
      let first : 16 ≡ leaf_slot_at 0 = omega arith in
      let all : length leaves ≡ n = are.count ∙ sym many in
      let last : 16144 ≡ leaf_slot_at (length leaves) = omega (arith, are.count) in
      let again = run_again (List LeafRow) page 16 256 (leaf_rows_in page) (leaf_slot_fields page) leaf_bytes IsLeaf leaf_long (λ at rows more is here. slot_again page at rows more is here) rest leaves 0 are.each (ap (λ (k : ℕ). drop k page) (sym first) ∙ holds) in (
        slots_done (ap (λ (k : ℕ). first_bad (slots_from page k)) (sym all) ∙ again.0),
        rows_are ∙ ap (rows_from page) (sym all) ∙ again.1,
        ap (λ (k : ℕ). drop k page) last ∙ run_behind (List LeafRow) page 16 256 (leaf_rows_in page) (leaf_slot_fields page) leaf_bytes IsLeaf leaf_long rest leaves are.each holds,
      )

-- ---- the steps of reading

pub slot_few : (page : List ℕ) (i : ℕ) → i < 63 → first_bad (leaf_slots_fields page) ≡ None → number_4 (leaf_slot_at i) page ≤ 30
slot_few page i lt is = fill_few page (leaf_slot_at i) (slots_each page 63 refl i lt is)

pub slots_bad : (page : List ℕ) (i offset : ℕ) → i < 63 → first_bad (slots_from page i) ≡ None → first_bad (leaf_slot_fields page (leaf_slot_at i)) ≡ Some offset → first_bad (leaf_slots_fields page) ≡ Some offset
slots_bad page i offset lt so_far bad = ap first_bad (slots_are page 63 refl) ∙ fields_bad (λ k. leaf_slot_fields page (leaf_slot_at k)) i 63 offset lt so_far bad

pub rows_next : (page : List ℕ) (i : ℕ) (slots new : List (List LeafRow)) (rows : List LeafRow) → slots ≡ rows_from page i → rows ≡ leaf_rows_in page (leaf_slot_at i) → new ≡ slots ++ rows ∷ [] → new ≡ rows_from page (i + 1)
rows_next page i slots new rows so_far is new_is =
    let last : List LeafRow = leaf_rows_in page (leaf_slot_at i) in
    new_is ∙ ap (λ (r : List LeafRow). slots ++ r ∷ []) is ∙ ap (λ (l : List (List LeafRow)). l ++ last ∷ []) so_far ∙ sym (map-range_with_len_more (λ k. leaf_rows_in page (leaf_slot_at k)) 0 i i (omega arith))

-- ---- the whole page

abbrev parts_with : Bool → List Field → List Field → List Field → List Field
parts_with kind zeros slots rest = (0, kind) ∷ (zeros ++ (slots ++ rest))

module _ (page : List ℕ) where
  abbrev kind_test : Bool
  kind_test = eqb (get_or page 0 0) 2

  fields_are : leaf_fields page ≡ parts_with kind_test (zero_fields 1 15 page) (leaf_slots_fields page) (zero_fields 16144 240 page)
  unfolding leaf_fields
  fields_are = refl

  pub kind_bad : (get_or page 0 0 ≡ 2 → ⊥) → first_bad (leaf_fields page) ≡ Some 0
  kind_bad other = ap first_bad fields_are ∙ then_bad (0, kind_test) (zero_fields 1 15 page ++ (leaf_slots_fields page ++ zero_fields 16144 240 page)) (ne_eqb (get_or page 0 0) 2 other)

  pub fields_said : (a b c : Option ℕ) → get_or page 0 0 ≡ 2 → a ≡ first_bad (zero_fields 1 15 page) → b ≡ first_bad (leaf_slots_fields page) → c ≡ first_bad (zero_fields 16144 240 page)
      → option_or (option_or a b) c ≡ first_bad (leaf_fields page)
  fields_said a b c kind a_is b_is c_is =
      let zeros : List Field = zero_fields 1 15 page in
      let slots : List Field = leaf_slots_fields page in
      let rest : List Field = zero_fields 16144 240 page in
      ap (λ (o : Option ℕ). option_or (option_or o b) c) a_is ∙ ap (λ (o : Option ℕ). option_or (option_or (first_bad zeros) o) c) b_is ∙ ap (option_or (option_or (first_bad zeros) (first_bad slots))) c_is
      ∙ sym (three_or zeros slots rest) ∙ sym (ap first_bad fields_are ∙ then_lawful (0, kind_test) (zeros ++ (slots ++ rest)) (eq-eqb (get_or page 0 0) 2 kind))

  leaves_said : leaves_of page ≡ unless_bad (first_bad (leaf_fields page)) (leaves_in page)
  unfolding leaves_of
  leaves_said = refl

  pub said_with : (bad : Option ℕ) → bad ≡ first_bad (leaf_fields page) → leaves_of page ≡ unless_bad bad (leaves_in page)
  said_with bad is = leaves_said ∙ ap (λ (o : Option ℕ). unless_bad o (leaves_in page)) (sym is)

  pub slots_lawful : first_bad (leaf_fields page) ≡ None → first_bad (leaf_slots_fields page) ≡ None
  slots_lawful is =
      let zeros : List Field = zero_fields 1 15 page in
      let slots : List Field = leaf_slots_fields page in
      let rest : List Field = zero_fields 16144 240 page in
      let a = first_lawful (0, kind_test) (zeros ++ (slots ++ rest)) (ap first_bad (sym fields_are) ∙ is) in
      (both_lawful slots rest (both_lawful zeros (slots ++ rest) a.1).1).0

  page_read : AreBytes page → length page ≡ 16384 → first_bad (leaf_fields page) ≡ None → AreLeaves (leaves_in page) × (page ≡ leaf_page (leaves_in page))
  unfolding leaf_page
  page_read bytes len is =
      let zeros : List Field = zero_fields 1 15 page in
      let slots : List Field = leaf_slots_fields page in
      let rest : List Field = zero_fields 16144 240 page in
      let a = first_lawful (0, kind_test) (zeros ++ (slots ++ rest)) (ap first_bad (sym fields_are) ∙ is) in
      let b = both_lawful zeros (slots ++ rest) a.1 in
      let c = both_lawful slots rest b.1 in
      let read = slots_read page 63 refl bytes len c.0 in
      let tail : List ℕ = replicate 240 0 in
      let ended : drop 16384 page ≡ [] = drop_all 16384 page (omega (arith, len)) in
      let end_holds : drop 16144 page ≡ tail = zeros_then 240 16144 page (omega (arith, len)) c.1 ∙ ap (λ (l : List ℕ). tail ++ l) ended ∙ append-nil tail in
      let front : drop 1 page ≡ replicate 15 0 ++ drop 16 page = zeros_then 15 1 page (omega (arith, len)) b.0 in
      let kind : get_or page 0 0 ≡ 2 = eqb-true (get_or page 0 0) 2 a.0 in
      let whole : page ≡ 2 ∷ drop 1 page = drop_more page 0 0 (omega (arith, len)) ∙ ap (λ (b : ℕ). b ∷ drop 1 page) kind in
      let slots_hold : drop 16 page ≡ flat_map leaf_bytes (leaves_in page) ++ tail = read.1 ∙ ap (λ (l : List ℕ). flat_map leaf_bytes (leaves_in page) ++ l) end_holds in
      (read.0, whole ∙ ap (λ (l : List ℕ). 2 ∷ l) (front ∙ ap (λ (l : List ℕ). replicate 15 0 ++ l) slots_hold))

  page_again : (leaves : List (List LeafRow)) → AreLeaves leaves → page ≡ leaf_page leaves → (first_bad (leaf_fields page) ≡ None) × (leaves_in page ≡ leaves)
  unfolding leaf_page
  page_again leaves are same =
      let zeros : List Field = zero_fields 1 15 page in
      let slots : List Field = leaf_slots_fields page in
      let rest : List Field = zero_fields 16144 240 page in
      let tail : List ℕ = replicate 240 0 in
      let bytes : List ℕ = flat_map leaf_bytes leaves in
      let front : drop 1 page ≡ replicate 15 0 ++ (bytes ++ tail) = ap (drop 1) same in
      let slots_hold : drop 16 page ≡ bytes ++ tail = behind 1 15 page (replicate 15 0) (bytes ++ tail) front refl in
      let again = slots_again page 63 refl leaves tail are slots_hold in
      let kind : get_or page 0 0 ≡ 2 = ap (λ (l : List ℕ). get_or l 0 0) same in
      let front_lawful : first_bad zeros ≡ None = zeros_are 15 1 page (bytes ++ tail) front in
      let end_lawful : first_bad rest ≡ None = zeros_are 240 16144 page [] (again.2 ∙ sym (append-nil tail)) in (
        ap first_bad fields_are ∙ then_lawful (0, kind_test) (zeros ++ (slots ++ rest)) (eq-eqb (get_or page 0 0) 2 kind) ∙ append_lawful zeros (slots ++ rest) front_lawful ∙ append_lawful slots rest again.0 ∙ end_lawful,
        again.1,
      )

  -- a page is read as leaves exactly where it is their written form
  pub leaves_from : (leaves : List (List LeafRow)) → AreBytes page → length page ≡ 16384 → leaves_of page ≡ Ok leaves → AreLeaves leaves × (page ≡ leaf_page leaves)
  leaves_from leaves bytes len is =
      let parts = said_ok (first_bad (leaf_fields page)) (leaves_in page) leaves (sym leaves_said ∙ is) in
      subst (λ (l : List (List LeafRow)). AreLeaves l × (page ≡ leaf_page l)) parts.1 (page_read bytes len parts.0)

  pub leaves_again : (leaves : List (List LeafRow)) → AreLeaves leaves → page ≡ leaf_page leaves → leaves_of page ≡ Ok leaves
  leaves_again leaves are same =
      let all = page_again leaves are same in
      said_with None (sym all.0) ∙ ap (λ (l : List (List LeafRow)). Ok l) all.1
