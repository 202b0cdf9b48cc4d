-- A page with an inner node has one spelling, and what reading it gives.
use Rattle.std.proofs.Common.{◌≡◌, ◌⊎◌, inl, inr, ℕ, ◌+◌, ◌-◌, ◌≤◌, Bool, true, false, ◌||◌, leb, eqb, List, [], ◌∷◌, ◌++◌, length, map, get_or, drop, replicate, Option, Some, None, Ok, refl, sym, ap, subst, ◌∙◌, arith}
use Rattle.std.specs.List.{flat_map, range_with_len}
use Rattle.std.specs.Option.{option_or}
use Rattle.std.proofs.lemmas.Bool.{leb-true, eqb-true, eq-eqb, ne_eqb, and_parts}
use Rattle.std.proofs.lemmas.List.{append-nil, drop_all, drop_more}
use Rattle.std.proofs.lemmas.List.FromFn.{length-map-range_with_len}
use Rattle.vec_record.specs.Limits.{is_between, width_of}
use Rattle.vec_record.specs.Vectors.{AreBytes, IsWidth}
use Rattle.page_gate.specs.Gate.{number_4}
use Rattle.mtree_node.specs.Preorder.{InnerRow}
use Rattle.page_layout.specs.Fields.{Field, word, zero_fields, first_bad, unless_bad}
use Rattle.page_layout.specs.Heads.{Values}
use Rattle.page_layout.specs.Inner.{inner_row_at, is_inner_fill, inner_row_fields, inner_rows_fields, inner_node_fields, inner_fields, inner_row_in, inner_rows_in, inner_of, IsInnerRow, AreInner, inner_row_bytes, inner_page}
use Rattle.page_layout.proofs.Places.{behind, number_is, word_then, first_lawful, then_lawful, then_bad, append_lawful, zeros_then, zeros_are, said_ok}
use Rattle.page_layout.proofs.Runs.{both_lawful, first_or, three_or, run_read, run_again, run_behind}
use Rattle.page_layout.proofs.InnerReads.{rows_fit, row_read, row_again, row_long}

-- ---- the number of entries

or_cases : (x y : Bool) → (x || y) ≡ true → (x ≡ true) ⊎ (y ≡ true)
or_cases true y is = inl refl
or_cases false y is = inr is

pub fill_few : (n : ℕ) → is_inner_fill n ≡ true → n ≤ 30
fill_few n is =
    elim (or_cases (eqb n 0) (is_between 2 30 n) is) [
      | inl free ↦ omega (arith, eqb-true n 0 free)
      | inr some ↦ leb-true n 30 (and_parts (leb 2 n) (leb n 30) some).1
    ]

-- ---- the node

module _ (v : Values) (page : List ℕ) where
  abbrev node_with : ℕ → List Field
  node_with n =
      (4, is_inner_fill n) ∷ (zero_fields 8 8 page ++ (inner_rows_fields v page n ++ zero_fields (inner_row_at (width_of v.metric v.dim) n) (16384 - inner_row_at (width_of v.metric v.dim) n) page))

  node_are : inner_node_fields v page ≡ node_with (number_4 4 page)
  unfolding inner_node_fields
  node_are = refl

  pub fill_bad : (n : ℕ) → n ≡ number_4 4 page → is_inner_fill n ≡ false → first_bad (inner_node_fields v page) ≡ Some 4
  fill_bad n is bad =
      let width : ℕ = width_of v.metric v.dim in
      ap first_bad (node_are ∙ ap node_with (sym is)) ∙ then_bad (4, is_inner_fill n) (zero_fields 8 8 page ++ (inner_rows_fields v page n ++ zero_fields (inner_row_at width n) (16384 - inner_row_at width n) page)) bad

  pub node_said : (n end : ℕ) (a b c : Option ℕ) → n ≡ number_4 4 page → is_inner_fill n ≡ true → end ≡ inner_row_at (width_of v.metric v.dim) n
      → a ≡ first_bad (zero_fields 8 8 page) → b ≡ first_bad (inner_rows_fields v page n) → c ≡ first_bad (zero_fields end (16384 - end) page)
      → option_or (option_or a b) c ≡ first_bad (inner_node_fields v page)
  node_said n end a b c fill good end_is a_is b_is c_is =
      let width : ℕ = width_of v.metric v.dim in
      let zeros : List Field = zero_fields 8 8 page in
      let rows : List Field = inner_rows_fields v page n in
      let rest : List Field = zero_fields (inner_row_at width n) (16384 - inner_row_at width n) page in
      let c_same : c ≡ first_bad rest = c_is ∙ ap (λ (k : ℕ). first_bad (zero_fields k (16384 - k) page)) end_is in
      ap (λ (o : Option ℕ). option_or (option_or o b) c) a_is ∙ ap (λ (o : Option ℕ). option_or (option_or (first_bad zeros) o) c) b_is ∙ ap (option_or (option_or (first_bad zeros) (first_bad rows))) c_same
      ∙ sym (three_or zeros rows rest) ∙ sym (then_lawful (4, is_inner_fill n) (zeros ++ (rows ++ rest)) good) ∙ ap (λ (k : ℕ). first_bad (node_with k)) fill ∙ ap first_bad (sym node_are)

  -- the parts of a node whose fields are lawful
  record IsSoundNode : Type 0 where
    fill_is : is_inner_fill (number_4 4 page) ≡ true
    zeros_are : first_bad (zero_fields 8 8 page) ≡ None
    rows_are : first_bad (inner_rows_fields v page (number_4 4 page)) ≡ None
    rest_are : first_bad (zero_fields (inner_row_at (width_of v.metric v.dim) (number_4 4 page)) (16384 - inner_row_at (width_of v.metric v.dim) (number_4 4 page)) page) ≡ None

  node_parts : first_bad (inner_node_fields v page) ≡ None → IsSoundNode
  node_parts is =
      let n : ℕ = number_4 4 page in
      let width : ℕ = width_of v.metric v.dim in
      let zeros : List Field = zero_fields 8 8 page in
      let rows : List Field = inner_rows_fields v page n in
      let rest : List Field = zero_fields (inner_row_at width n) (16384 - inner_row_at width n) page in
      let a = first_lawful (4, is_inner_fill n) (zeros ++ (rows ++ rest)) (ap first_bad (sym node_are) ∙ is) in
      let b = both_lawful zeros (rows ++ rest) a.1 in
      let c = both_lawful rows rest b.1 in
      record { fill_is = a.0; zeros_are = b.0; rows_are = c.0; rest_are = c.1 }

  -- a node's bytes, from the number of its entries on
  abbrev node_bytes : List InnerRow → List ℕ
  node_bytes rows = word (length rows) ++ (replicate 8 0 ++ (flat_map inner_row_bytes rows ++ replicate (16384 - inner_row_at (width_of v.metric v.dim) (length rows)) 0))

  module _ (wide : IsWidth (width_of v.metric v.dim)) where
    node_read : AreBytes page → length page ≡ 16384 → first_bad (inner_node_fields v page) ≡ None
        → AreInner v (inner_rows_in (width_of v.metric v.dim) page) × (drop 4 page ≡ node_bytes (inner_rows_in (width_of v.metric v.dim) page))
    node_read bytes len is =
        let width : ℕ = width_of v.metric v.dim in
        let n : ℕ = number_4 4 page in
        let rows : List InnerRow = inner_rows_in width page in
        let entries : List ℕ = flat_map inner_row_bytes rows in
        let parts = node_parts is in
        let few : n ≤ 30 = fill_few n parts.fill_is in
        let fits : inner_row_at width n ≤ 16384 = rows_fit width n wide few in
        let all : 0 + n ≡ n = omega arith in
        let first : inner_row_at width 0 ≡ 16 = omega arith in
        let read = run_read InnerRow page 16 (12 + width) (inner_row_in width page) (inner_row_fields v page) inner_row_bytes (IsInnerRow v) (λ at le lawful. row_read v page at bytes le lawful) n 0 (omega (arith, fits, len)) parts.rows_are in
        let many : length rows ≡ n = length-map-range_with_len (λ k. inner_row_in width page (inner_row_at width k)) 0 n in
        let end_is : inner_row_at width n + (16384 - inner_row_at width n) ≡ 16384 = omega (arith, fits) in
        let tail : ℕ → List ℕ = λ k. replicate (16384 - inner_row_at width k) 0 in
        let ended : drop (inner_row_at width n + (16384 - inner_row_at width n)) page ≡ [] = drop_all (inner_row_at width n + (16384 - inner_row_at width n)) page (omega (arith, end_is, len)) in
        let end_holds : drop (inner_row_at width n) page ≡ tail n = zeros_then (16384 - inner_row_at width n) (inner_row_at width n) page (omega (arith, end_is, len)) parts.rest_are ∙ ap (λ (l : List ℕ). tail n ++ l) ended ∙ append-nil (tail n) in
        let rows_hold : drop 16 page ≡ entries ++ tail n = ap (λ (k : ℕ). drop k page) (sym first) ∙ read.1 ∙ ap (λ (k : ℕ). entries ++ drop (inner_row_at width k) page) all ∙ ap (λ (l : List ℕ). entries ++ l) end_holds in
        let front : drop 8 page ≡ replicate 8 0 ++ drop 16 page = zeros_then 8 8 page (omega (arith, len)) parts.zeros_are in
        let whole : ℕ → List ℕ = λ k. word k ++ (replicate 8 0 ++ (entries ++ tail k)) in (
          record { fill = ap is_inner_fill many ∙ parts.fill_is; each = read.0 },
          word_then 4 page bytes (omega (arith, len)) ∙ ap (λ (l : List ℕ). word n ++ l) (front ∙ ap (λ (l : List ℕ). replicate 8 0 ++ l) rows_hold) ∙ ap whole (sym many),
        )

    node_again : (rows : List InnerRow) → AreInner v rows → drop 4 page ≡ node_bytes rows → (first_bad (inner_node_fields v page) ≡ None) × (inner_rows_in (width_of v.metric v.dim) page ≡ rows)
    node_again rows are holds =
        let width : ℕ = width_of v.metric v.dim in
        let n : ℕ = length rows in
        let entries : List ℕ = flat_map inner_row_bytes rows in
        let tail : List ℕ = replicate (16384 - inner_row_at width n) 0 in
        let few : n ≤ 30 = fill_few n are.fill in
        let first : 16 ≡ inner_row_at width 0 = omega arith in
        let fill : number_4 4 page ≡ n = number_is 4 n page (replicate 8 0 ++ (entries ++ tail)) (omega (arith, few)) holds in
        let zeros_hold : drop 8 page ≡ replicate 8 0 ++ (entries ++ tail) = behind 4 4 page (word n) (replicate 8 0 ++ (entries ++ tail)) holds refl in
        let rows_hold : drop 16 page ≡ entries ++ tail = behind 8 8 page (replicate 8 0) (entries ++ tail) zeros_hold refl in
        let again = run_again InnerRow page 16 (12 + width) (inner_row_in width page) (inner_row_fields v page) inner_row_bytes (IsInnerRow v) (row_long v) (λ at row rest is here. row_again v page at wide row rest is here) tail rows 0 are.each (ap (λ (k : ℕ). drop k page) (sym first) ∙ rows_hold) in
        let end_holds : drop (inner_row_at width n) page ≡ tail = run_behind InnerRow page 16 (12 + width) (inner_row_in width page) (inner_row_fields v page) inner_row_bytes (IsInnerRow v) (row_long v) tail rows are.each rows_hold in
        let zeros : List Field = zero_fields 8 8 page in
        let middle : List Field = inner_rows_fields v page n in
        let rest : List Field = zero_fields (inner_row_at width n) (16384 - inner_row_at width n) page in (
          ap first_bad (node_are ∙ ap node_with fill) ∙ then_lawful (4, is_inner_fill n) (zeros ++ (middle ++ rest)) are.fill ∙ append_lawful zeros (middle ++ rest) (zeros_are 8 8 page (entries ++ tail) zeros_hold)
              ∙ append_lawful middle rest again.0 ∙ zeros_are (16384 - inner_row_at width n) (inner_row_at width n) page [] (end_holds ∙ sym (append-nil tail)),
          ap (λ (k : ℕ). map (λ i. inner_row_in width page (inner_row_at width i)) (range_with_len 0 k)) fill ∙ again.1,
        )

  pub node_few : first_bad (inner_node_fields v page) ≡ None → number_4 4 page ≤ 30
  node_few is = fill_few (number_4 4 page) (node_parts is).fill_is

  -- ---- the whole page

  abbrev kind_test : Bool
  kind_test = eqb (get_or page 0 0) 3

  fields_are : inner_fields v page ≡ (0, kind_test) ∷ (zero_fields 1 3 page ++ inner_node_fields v page)
  unfolding inner_fields
  fields_are = refl

  pub kind_bad : (get_or page 0 0 ≡ 3 → ⊥) → first_bad (inner_fields v page) ≡ Some 0
  kind_bad other = ap first_bad fields_are ∙ then_bad (0, kind_test) (zero_fields 1 3 page ++ inner_node_fields v page) (ne_eqb (get_or page 0 0) 3 other)

  pub fields_said : (a b : Option ℕ) → get_or page 0 0 ≡ 3 → a ≡ first_bad (zero_fields 1 3 page) → b ≡ first_bad (inner_node_fields v page) → option_or a b ≡ first_bad (inner_fields v page)
  fields_said a b kind a_is b_is =
      let zeros : List Field = zero_fields 1 3 page in
      let node : List Field = inner_node_fields v page in
      ap (λ (o : Option ℕ). option_or o b) a_is ∙ ap (option_or (first_bad zeros)) b_is ∙ sym (first_or zeros node) ∙ sym (ap first_bad fields_are ∙ then_lawful (0, kind_test) (zeros ++ node) (eq-eqb (get_or page 0 0) 3 kind))

  inner_said : inner_of v page ≡ unless_bad (first_bad (inner_fields v page)) (inner_rows_in (width_of v.metric v.dim) page)
  unfolding inner_of
  inner_said = refl

  pub said_with : (bad : Option ℕ) → bad ≡ first_bad (inner_fields v page) → inner_of v page ≡ unless_bad bad (inner_rows_in (width_of v.metric v.dim) page)
  said_with bad is = inner_said ∙ ap (λ (o : Option ℕ). unless_bad o (inner_rows_in (width_of v.metric v.dim) page)) (sym is)

  page_parts : first_bad (inner_fields v page) ≡ None → (kind_test ≡ true) × (first_bad (zero_fields 1 3 page) ≡ None) × (first_bad (inner_node_fields v page) ≡ None)
  page_parts is =
      let a = first_lawful (0, kind_test) (zero_fields 1 3 page ++ inner_node_fields v page) (ap first_bad (sym fields_are) ∙ is) in
      let b = both_lawful (zero_fields 1 3 page) (inner_node_fields v page) a.1 in
      (a.0, b.0, b.1)

  pub node_lawful : first_bad (inner_fields v page) ≡ None → first_bad (inner_node_fields v page) ≡ None
  node_lawful is = (page_parts is).2

  module _ (wide : IsWidth (width_of v.metric v.dim)) where
    page_read : AreBytes page → length page ≡ 16384 → first_bad (inner_fields v page) ≡ None
        → AreInner v (inner_rows_in (width_of v.metric v.dim) page) × (page ≡ inner_page (width_of v.metric v.dim) (inner_rows_in (width_of v.metric v.dim) page))
    unfolding inner_page
    page_read bytes len is =
        let parts = page_parts is in
        let node = node_read wide bytes len parts.2 in
        let front : drop 1 page ≡ replicate 3 0 ++ drop 4 page = zeros_then 3 1 page (omega (arith, len)) parts.1 in
        let kind : get_or page 0 0 ≡ 3 = eqb-true (get_or page 0 0) 3 parts.0 in
        let whole : page ≡ 3 ∷ drop 1 page = drop_more page 0 0 (omega (arith, len)) ∙ ap (λ (b : ℕ). b ∷ drop 1 page) kind in
        (node.0, whole ∙ ap (λ (l : List ℕ). 3 ∷ l) (front ∙ ap (λ (l : List ℕ). replicate 3 0 ++ l) node.1))

    page_again : (rows : List InnerRow) → AreInner v rows → page ≡ inner_page (width_of v.metric v.dim) rows → (first_bad (inner_fields v page) ≡ None) × (inner_rows_in (width_of v.metric v.dim) page ≡ rows)
    unfolding inner_page
    page_again rows are same =
        let front : drop 1 page ≡ replicate 3 0 ++ node_bytes rows = ap (drop 1) same in
        let holds : drop 4 page ≡ node_bytes rows = ap (drop 4) same in
        let again = node_again wide rows are holds in
        let kind : get_or page 0 0 ≡ 3 = ap (λ (l : List ℕ). get_or l 0 0) same in
        let zeros : List Field = zero_fields 1 3 page in
        let node : List Field = inner_node_fields v page in
        (ap first_bad fields_are ∙ then_lawful (0, kind_test) (zeros ++ node) (eq-eqb (get_or page 0 0) 3 kind) ∙ append_lawful zeros node (zeros_are 3 1 page (node_bytes rows) front) ∙ again.0, again.1)

    -- a page is read as entries exactly where it is their written form
    pub inner_from : (rows : List InnerRow) → AreBytes page → length page ≡ 16384 → inner_of v page ≡ Ok rows → AreInner v rows × (page ≡ inner_page (width_of v.metric v.dim) rows)
    inner_from rows bytes len is =
        let parts = said_ok (first_bad (inner_fields v page)) (inner_rows_in (width_of v.metric v.dim) page) rows (sym inner_said ∙ is) in
        subst (λ (l : List InnerRow). AreInner v l × (page ≡ inner_page (width_of v.metric v.dim) l)) parts.1 (page_read bytes len parts.0)

    pub inner_again : (rows : List InnerRow) → AreInner v rows → page ≡ inner_page (width_of v.metric v.dim) rows → inner_of v page ≡ Ok rows
    inner_again rows are same =
        let all = page_again rows are same in
        said_with None (sym all.0) ∙ ap (λ (l : List InnerRow). Ok l) all.1
