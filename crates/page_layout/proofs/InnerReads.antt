-- An entry of an inner node has one spelling.
use Rattle.std.proofs.Common.{◌≡◌, ℕ, ◌+◌, ◌-◌, ◌<◌, ◌≤◌, Bool, true, not, leb, eqb, List, [], ◌∷◌, ◌++◌, length, map, take, drop, None, refl, sym, ap, ◌∙◌, arith}
use Rattle.std.specs.List.{range_with_len}
use Rattle.std.proofs.lemmas.Bool.{not-true, not_from_false, leb-true, le-leb, eqb-false, ne_eqb, and_parts}
use Rattle.std.proofs.lemmas.List.FromFn.{map-range_with_len_more}
use Rattle.std.proofs.Math.Nat.{mul-le-mul_left}
use Rattle.vec_record.specs.declared.kind.MetricKind.{MetricKind}
use Rattle.vec_record.specs.declared.kind.MetricKind.TheVariants.{L1, Max, Hamming}
use Rattle.vec_record.specs.Distance.{greatest_of}
use Rattle.vec_record.specs.Limits.{is_between, are_within, greatest_dim, width_of}
use Rattle.vec_record.specs.Spelled.{is_spelled}
use Rattle.vec_record.specs.Vectors.{AreBytes, IsWidth}
use Rattle.vec_record.proofs.Greatest.{greatest_small}
use Rattle.page_gate.specs.Gate.{part, number_4}
use Rattle.mtree_node.specs.Preorder.{InnerRow}
use Rattle.page_layout.specs.Fields.{Field, word, first_bad}
use Rattle.page_layout.specs.Heads.{Values}
use Rattle.page_layout.specs.Inner.{inner_row_at, inner_row_fields, inner_row_in, IsInnerRow, inner_row_bytes}
use Rattle.page_layout.proofs.Places.{bytes-part, length-part, part_then, part_is, behind, number_small, word_then, number_is, first_lawful}

-- the width of lawful parameters
dim_within : (m : MetricKind) (dim eps minpts cap : ℕ) → are_within m dim eps minpts cap ≡ true → (1 ≤ dim) × (dim ≤ greatest_dim m)
dim_within m dim eps minpts cap is =
    let parts = and_parts (is_between 1 (greatest_dim m) dim) _ is in
    let both = and_parts (leb 1 dim) (leb dim (greatest_dim m)) parts.0 in
    (leb-true _ _ both.0, leb-true _ _ both.1)

pub lawful_width : (m : MetricKind) (dim eps minpts cap : ℕ) → are_within m dim eps minpts cap ≡ true → IsWidth (width_of m dim)
lawful_width L1 dim eps minpts cap is = let b = dim_within L1 dim eps minpts cap is in record { some = omega (arith, b.0); small = omega (arith, b.1) }
lawful_width Max dim eps minpts cap is = let b = dim_within Max dim eps minpts cap is in record { some = omega (arith, b.0); small = omega (arith, b.1) }
lawful_width Hamming dim eps minpts cap is = let b = dim_within Hamming dim eps minpts cap is in record { some = omega (arith, b.0); small = omega (arith, b.1) }

-- thirty entries fit into a page
pub rows_fit : (width n : ℕ) → IsWidth width → n ≤ 30 → inner_row_at width n ≤ 16384
rows_fit width n wide few = omega (arith, mul-le-mul_left (12 + width) few, wide.small)

pub row_fits : (width k n : ℕ) → IsWidth width → k < n → n ≤ 30 → inner_row_at width k + (12 + width) ≤ 16384
row_fits width k n wide lt few =
    let le : k + 1 ≤ 30 = omega (arith, lt, few) in
    omega (arith, mul-le-mul_left (12 + width) le, wide.small)

abbrev pub row_with : ℕ → ℕ → Bool → Bool → Bool → List Field
row_with at width child radius spelled = (at, child) ∷ (at + 8, radius) ∷ (at + 11 + width, spelled) ∷ []

record AreSound (child radius spelled : Bool) : Type 0 where
  first : child ≡ true
  second : radius ≡ true
  third : spelled ≡ true

row_parts : (at width : ℕ) (child radius spelled : Bool) → first_bad (row_with at width child radius spelled) ≡ None → AreSound child radius spelled
row_parts at width child radius spelled lawful =
    let a = first_lawful (at, child) ((at + 8, radius) ∷ (at + 11 + width, spelled) ∷ []) lawful in
    let b = first_lawful (at + 8, radius) ((at + 11 + width, spelled) ∷ []) a.1 in
    let c = first_lawful (at + 11 + width, spelled) [] b.1 in
    record { first = a.0; second = b.0; third = c.0 }

row_from : (at width : ℕ) (child radius spelled : Bool) → child ≡ true → radius ≡ true → spelled ≡ true → first_bad (row_with at width child radius spelled) ≡ None
row_from at width child radius spelled a b c = rw (a, b, c) refl

abbrev pub entry : ℕ → ℕ → ℕ → List ℕ → InnerRow
entry child parent radius object = (child, parent, radius, object)

module _ (v : Values) (page : List ℕ) (at : ℕ) where
  pub row_read : AreBytes page → at + (12 + width_of v.metric v.dim) ≤ length page → first_bad (inner_row_fields v page at) ≡ None
      → IsInnerRow v (inner_row_in (width_of v.metric v.dim) page at)
      × (drop at page ≡ inner_row_bytes (inner_row_in (width_of v.metric v.dim) page at) ++ drop (at + (12 + width_of v.metric v.dim)) page)
  row_read bytes le lawful =
      let width : ℕ = width_of v.metric v.dim in
      let all = row_parts at width (not (eqb (number_4 at page) 0)) (leb (number_4 (at + 8) page) (greatest_of v.metric width)) (is_spelled v.metric v.dim (part (at + 12) width page)) lawful in
      let on : (k next : ℕ) (rest : List ℕ) → next ≡ k + 4 → k + 4 ≤ at + 12 → drop next page ≡ rest → drop k page ≡ word (number_4 k page) ++ rest =
      λ k next rest is within more. word_then k page bytes (omega (arith, le, within)) ∙ ap (λ (n : ℕ). word (number_4 k page) ++ drop n page) (sym is) ∙ ap (λ (l : List ℕ). word (number_4 k page) ++ l) more in
      let end_is : at + 12 + width ≡ at + (12 + width) = omega arith in
      let object : drop (at + 12) page ≡ part (at + 12) width page ++ drop (at + (12 + width)) page = part_then (at + 12) width page ∙ ap (λ (k : ℕ). part (at + 12) width page ++ drop k page) end_is in
      let radius = on (at + 8) (at + 12) _ (omega arith) (omega arith) object in
      let parent = on (at + 4) (at + 8) _ (omega arith) (omega arith) radius in (
        record {
          child = eqb-false (number_4 at page) 0 (not-true (eqb (number_4 at page) 0) all.first);
          small = number_small at page bytes;
          parent = number_small (at + 4) page bytes;
          radius = leb-true (number_4 (at + 8) page) (greatest_of v.metric width) all.second;
          object = record { len = length-part (at + 12) width page (omega (arith, le)); bytes = bytes-part (at + 12) width page bytes };
          spelled = all.third;
        },
        on at (at + 4) _ refl (omega arith) parent,
      )

  pub row_again : IsWidth (width_of v.metric v.dim) → (row : InnerRow) (rest : List ℕ) → IsInnerRow v row → drop at page ≡ inner_row_bytes row ++ rest
      → (first_bad (inner_row_fields v page at) ≡ None) × (inner_row_in (width_of v.metric v.dim) page at ≡ row)
  row_again wide row rest is holds =
      let width : ℕ = width_of v.metric v.dim in
      let greatest : ℕ = greatest_of v.metric width in
      let on : (k next n : ℕ) (more : List ℕ) → k + 4 ≡ next → drop k page ≡ word n ++ more → drop next page ≡ more = λ k next n more is_next here. ap (λ (m : ℕ). drop m page) (sym is_next) ∙ behind k 4 page (word n) more here refl in
      let parent_here : drop (at + 4) page ≡ word row.1 ++ (word row.2 ++ (row.3 ++ rest)) = on at (at + 4) row.0 _ refl holds in
      let radius_here : drop (at + 8) page ≡ word row.2 ++ (row.3 ++ rest) = on (at + 4) (at + 8) row.1 _ (omega arith) parent_here in
      let object_here : drop (at + 12) page ≡ row.3 ++ rest = on (at + 8) (at + 12) row.2 _ (omega arith) radius_here in
      let child : number_4 at page ≡ row.0 = number_is at row.0 page _ is.small holds in
      let parent : number_4 (at + 4) page ≡ row.1 = number_is (at + 4) row.1 page _ is.parent parent_here in
      let radius : number_4 (at + 8) page ≡ row.2 = number_is (at + 8) row.2 page _ (omega (arith, is.radius, greatest_small v.metric width wide)) radius_here in
      let object : part (at + 12) width page ≡ row.3 = part_is (at + 12) width page row.3 rest object_here is.object.len in (
        row_from at width (not (eqb (number_4 at page) 0)) (leb (number_4 (at + 8) page) greatest) (is_spelled v.metric v.dim (part (at + 12) width page))
            (not_from_false (eqb (number_4 at page) 0) (ne_eqb (number_4 at page) 0 (λ zero_is. is.child (sym child ∙ zero_is))))
            (ap (λ (n : ℕ). leb n greatest) radius ∙ le-leb row.2 greatest is.radius) (ap (is_spelled v.metric v.dim) object ∙ is.spelled),
        ap (λ (n : ℕ). entry n (number_4 (at + 4) page) (number_4 (at + 8) page) (part (at + 12) width page)) child ∙ ap (λ (n : ℕ). entry row.0 n (number_4 (at + 8) page) (part (at + 12) width page)) parent
            ∙ ap (λ (n : ℕ). entry row.0 row.1 n (part (at + 12) width page)) radius ∙ ap (entry row.0 row.1 row.2) object,
      )

  -- the steps of reading
  pub object_is : (n : ℕ) → n ≡ width_of v.metric v.dim → take (at + 12 + n - (at + 12)) (drop (at + 12) page) ≡ part (at + 12) (width_of v.metric v.dim) page
  unfolding part
  object_is n is =
      let same : at + 12 + n - (at + 12) ≡ width_of v.metric v.dim = omega (arith, is) in
      ap (λ (k : ℕ). take k (drop (at + 12) page)) same

  pub fields_are : (width child radius greatest : ℕ) (object : List ℕ) (spelled : Bool) → width ≡ width_of v.metric v.dim → child ≡ number_4 at page → radius ≡ number_4 (at + 8) page → greatest ≡ greatest_of v.metric width
      → object ≡ part (at + 12) (width_of v.metric v.dim) page → spelled ≡ is_spelled v.metric v.dim object → row_with at width (not (eqb child 0)) (leb radius greatest) spelled ≡ inner_row_fields v page at
  fields_are width child radius greatest object spelled width_is child_is radius_is greatest_is object_is spelled_is =
      let test : spelled ≡ is_spelled v.metric v.dim (part (at + 12) (width_of v.metric v.dim) page) = spelled_is ∙ ap (is_spelled v.metric v.dim) object_is in
      let most : greatest ≡ greatest_of v.metric (width_of v.metric v.dim) = greatest_is ∙ ap (greatest_of v.metric) width_is in
      rw (test, most, width_is, child_is, radius_is) refl

  pub row_is : (child parent radius : ℕ) (object : List ℕ) → child ≡ number_4 at page → parent ≡ number_4 (at + 4) page → radius ≡ number_4 (at + 8) page → object ≡ part (at + 12) (width_of v.metric v.dim) page
      → entry child parent radius object ≡ inner_row_in (width_of v.metric v.dim) page at
  row_is child parent radius object child_is parent_is radius_is object_is = rw (child_is, parent_is, radius_is, object_is) refl

pub row_long : (v : Values) (row : InnerRow) → IsInnerRow v row → length (inner_row_bytes row) ≡ 12 + width_of v.metric v.dim
row_long v row is = omega (arith, is.object.len)

-- the entries one by one
abbrev pub rows_from : ℕ → List ℕ → ℕ → List InnerRow
rows_from width page n = map (λ i. inner_row_in width page (inner_row_at width i)) (range_with_len 0 n)

pub rows_next : (width : ℕ) (page : List ℕ) (k : ℕ) (rows new : List InnerRow) (row : InnerRow) → rows ≡ rows_from width page k → row ≡ inner_row_in width page (inner_row_at width k) → new ≡ rows ++ row ∷ []
    → new ≡ rows_from width page (k + 1)
rows_next width page k rows new row so_far is new_is =
    let last : InnerRow = inner_row_in width page (inner_row_at width k) in
    new_is ∙ ap (λ (r : InnerRow). rows ++ r ∷ []) is ∙ ap (λ (l : List InnerRow). l ++ last ∷ []) so_far ∙ sym (map-range_with_len_more (λ i. inner_row_in width page (inner_row_at width i)) 0 k k (omega arith))
