-- Writes of an inner node into its page.
use Rattle.std.proofs.Common.{◌≡◌, ℕ, zero, suc, ◌+◌, ◌-◌, ◌*◌, ◌<◌, ◌≤◌, List, [], ◌∷◌, ◌++◌, length, get_or, take, drop, set, replicate, refl, sym, ap, subst, ◌∙◌, append_assoc, arith}
use Rattle.std.specs.List.{AllByRecursion, flat_map}
use Rattle.std.proofs.lemmas.List.{append-nil, take_at, drop_at, take_more, length-take-le, drop-drop, drop-replicate, replicate-append-replicate}
use Rattle.std.proofs.lemmas.List.Concat.{flat_map-append}
use Rattle.vec_record.specs.Limits.{width_of}
use Rattle.mtree_node.specs.Preorder.{InnerRow}
use Rattle.page_layout.specs.Fields.{word}
use Rattle.page_layout.specs.Heads.{Values}
use Rattle.page_layout.specs.Inner.{inner_row_at, IsInnerRow, inner_row_bytes, inner_page}
use Rattle.page_layout.proofs.Places.{put_more}
use Rattle.page_layout.proofs.Runs.{length-run}
use Rattle.page_layout.proofs.InnerReads.{row_long}

-- ---- an entry

-- the two writes of an entry
pub row_put : (at : ℕ) (old mid new bytes : List ℕ) (row : InnerRow) → at ≤ length old → bytes ≡ row.3
    → mid ≡ take at old ++ flat_map word (row.0 ∷ row.1 ∷ row.2 ∷ []) ++ drop (at + 12) old
    → new ≡ take (at + 12) mid ++ bytes ++ drop (at + 12 + length bytes) mid
    → new ≡ take at old ++ inner_row_bytes row ++ drop (at + 12 + length row.3) old
row_put at old mid new bytes row le bytes_are mid_is new_is =
    let words : List ℕ = flat_map word (row.0 ∷ row.1 ∷ row.2 ∷ []) in
    new_is ∙ ap (λ (b : List ℕ). take (at + 12) mid ++ b ++ drop (at + 12 + length b) mid) bytes_are ∙ ap (λ (l : List ℕ). take (at + 12) l ++ row.3 ++ drop (at + 12 + length row.3) l) mid_is
    ∙ put_more at (at + 12) (length row.3) old words row.3 refl le

-- ---- the entries

module _ (v : Values) (rows : List InnerRow) (each : AllByRecursion (IsInnerRow v) rows) where
  each-take : (n : ℕ) (l : List InnerRow) → AllByRecursion (IsInnerRow v) l → AllByRecursion (IsInnerRow v) (take n l)
  each-take zero l is = tt
  each-take (suc n) [] is = tt
  each-take (suc n) (row ∷ l) is = (is.0, each-take n l is.1)

  each-get : (k : ℕ) (d : InnerRow) (l : List InnerRow) → AllByRecursion (IsInnerRow v) l → k < length l → IsInnerRow v (get_or l k d)
  each-get k d [] is lt = absurd (omega (arith, lt))
  each-get zero d (row ∷ l) is lt = is.0
  each-get (suc k) d (row ∷ l) is lt = each-get k d l is.1 (omega (arith, lt))

  module _ (k : ℕ) (lt : k < length rows) (row : InnerRow) (is : row ≡ get_or rows k row) where
    pub row_lawful : IsInnerRow v row
    row_lawful = subst (IsInnerRow v) (sym is) (each-get k row rows each lt)

    rows_more : flat_map inner_row_bytes (take (k + 1) rows) ≡ flat_map inner_row_bytes (take k rows) ++ inner_row_bytes row
    rows_more =
        ap (flat_map inner_row_bytes) (take_more rows k row lt) ∙ flat_map-append inner_row_bytes (take k rows) (get_or rows k row ∷ []) ∙ ap (λ (r : InnerRow). flat_map inner_row_bytes (take k rows) ++ (inner_row_bytes r ++ [])) (sym is)
        ∙ ap (λ (l : List ℕ). flat_map inner_row_bytes (take k rows) ++ l) (append-nil (inner_row_bytes row))

    pub rows_put : (width : ℕ) (old out new : List ℕ) → width ≡ width_of v.metric v.dim → length old ≡ 16384
        → out ≡ take 16 old ++ flat_map inner_row_bytes (take k rows) ++ drop (inner_row_at (width_of v.metric v.dim) k) old
        → new ≡ take (inner_row_at width k) out ++ inner_row_bytes row ++ drop (inner_row_at width k + 12 + length row.3) out
        → new ≡ take 16 old ++ flat_map inner_row_bytes (take (k + 1) rows) ++ drop (inner_row_at (width_of v.metric v.dim) (k + 1)) old
    rows_put width old out new width_is len out_is new_is =
        let wide : ℕ = width_of v.metric v.dim in
        let done : List ℕ = flat_map inner_row_bytes (take k rows) in
        let here : ℕ = inner_row_at wide k in
        let many : length done ≡ (12 + wide) * k = length-run inner_row_bytes (IsInnerRow v) (12 + wide) (row_long v) (take k rows) (each-take k rows each) ∙ ap (λ (n : ℕ). (12 + wide) * n) (length-take-le k rows (omega (arith, lt))) in
        let start : here ≡ 16 + length done = omega (arith, many) in
        let at_is : inner_row_at width k ≡ here = ap (λ (n : ℕ). inner_row_at n k) width_is in
        let long : length row.3 ≡ wide = row_lawful.object.len in
        let next : here + (12 + wide) ≡ inner_row_at wide (k + 1) = omega arith in
        let end_is : inner_row_at width k + 12 + length row.3 ≡ here + (12 + wide) = omega (arith, at_is, long) in
        new_is ∙ ap (λ (n : ℕ). take n out ++ inner_row_bytes row ++ drop (inner_row_at width k + 12 + length row.3) out) at_is ∙ ap (λ (n : ℕ). take here out ++ inner_row_bytes row ++ drop n out) end_is
        ∙ ap (λ (l : List ℕ). take here l ++ inner_row_bytes row ++ drop (here + (12 + wide)) l) out_is ∙ put_more 16 here (12 + wide) old done (inner_row_bytes row) start (omega (arith, len))
        ∙ ap (λ (l : List ℕ). take 16 old ++ l ++ drop (here + (12 + wide)) old) (sym rows_more) ∙ ap (λ (n : ℕ). take 16 old ++ flat_map inner_row_bytes (take (k + 1) rows) ++ drop n old) next

-- ---- the page

abbrev front : ℕ → List ℕ
front n = (3 ∷ replicate 3 0) ++ (word n ++ replicate 8 0)

begun : (m n : ℕ) (blank set_kind mid : List ℕ) → blank ≡ replicate 16 0 ++ replicate m 0 → set_kind ≡ set blank 0 3 → mid ≡ take 4 set_kind ++ flat_map word (n ∷ []) ++ drop 8 set_kind → mid ≡ front n ++ replicate m 0
begun m n blank set_kind mid blank_is kind_is mid_is =
    mid_is ∙ ap (λ (l : List ℕ). take 4 l ++ flat_map word (n ∷ []) ++ drop 8 l) (kind_is ∙ ap (λ (l : List ℕ). set l 0 3) blank_is)

-- entries written over zeros, behind what stands before them
over_zeros : (lead entries : List ℕ) (m x : ℕ) → length lead ≡ 16 → take 16 (lead ++ replicate m 0) ++ entries ++ drop (16 + x) (lead ++ replicate m 0) ≡ lead ++ (entries ++ replicate (m - x) 0)
over_zeros lead entries m x len =
    let tail : List ℕ = replicate m 0 in
    let rest : drop (16 + x) (lead ++ tail) ≡ replicate (m - x) 0 = sym (drop-drop x 16 (lead ++ tail)) ∙ ap (drop x) (drop_at lead tail 16 len) ∙ drop-replicate x m 0 in
    ap (λ (l : List ℕ). l ++ entries ++ drop (16 + x) (lead ++ tail)) (take_at lead tail 16 len) ∙ ap (λ (l : List ℕ). lead ++ entries ++ l) rest ∙ append_assoc lead entries (replicate (m - x) 0)

written_with : (m total width : ℕ) (rows : List InnerRow) (blank set_kind mid new : List ℕ) → 16 + m ≡ total → total ≡ 16384 → blank ≡ replicate total 0 → set_kind ≡ set blank 0 3
    → mid ≡ take 4 set_kind ++ flat_map word (length rows ∷ []) ++ drop 8 set_kind
    → new ≡ take 16 mid ++ flat_map inner_row_bytes rows ++ drop (inner_row_at width (length rows)) mid → new ≡ inner_page width rows
unfolding inner_page
written_with m total width rows blank set_kind mid new sizes all blank_is kind_is mid_is new_is =
    let n : ℕ = length rows in
    let entries : List ℕ = flat_map inner_row_bytes rows in
    let split : blank ≡ replicate 16 0 ++ replicate m 0 = blank_is ∙ ap (λ (k : ℕ). replicate k 0) (sym sizes) ∙ sym (replicate-append-replicate 16 m 0) in
    let left : m - (12 + width) * n ≡ 16384 - inner_row_at width n = omega (arith, sizes, all) in
    let over : new ≡ front n ++ (entries ++ replicate (m - (12 + width) * n) 0) =
    new_is ∙ ap (λ (l : List ℕ). take 16 l ++ entries ++ drop (inner_row_at width n) l) (begun m n blank set_kind mid split kind_is mid_is) ∙ over_zeros (front n) entries m ((12 + width) * n) refl in
    over ∙ ap (λ (k : ℕ). front n ++ (entries ++ replicate k 0)) left

pub inner_written : (width : ℕ) (rows : List InnerRow) (blank set_kind mid new : List ℕ) → blank ≡ replicate 16384 0 → set_kind ≡ set blank 0 3
    → mid ≡ take 4 set_kind ++ flat_map word (length rows ∷ []) ++ drop 8 set_kind
    → new ≡ take 16 mid ++ flat_map inner_row_bytes rows ++ drop (inner_row_at width (length rows)) mid → new ≡ inner_page width rows
inner_written width rows blank set_kind mid new blank_is kind_is mid_is new_is = written_with 16368 16384 width rows blank set_kind mid new refl refl blank_is kind_is mid_is new_is
