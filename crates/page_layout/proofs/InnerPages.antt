-- An inner node is written as a page, and such a page has one spelling.
use Rattle.std.proofs.Common.{◌≡◌, ℕ, ◌+◌, ◌-◌, ◌*◌, ◌≤◌, List, [], ◌∷◌, ◌++◌, length, replicate, arith}
use Rattle.std.specs.List.{AllByRecursion, flat_map}
use Rattle.std.proofs.lemmas.List.{length-append, length-replicate}
use Rattle.vec_record.specs.Limits.{width_of}
use Rattle.vec_record.specs.Vectors.{AreBytes}
use Rattle.mtree_node.specs.Preorder.{InnerRow}
use Rattle.page_layout.specs.Fields.{word}
use Rattle.page_layout.specs.Heads.{Values}
use Rattle.page_layout.specs.Inner.{inner_row_at, IsInnerRow, inner_row_bytes, inner_page}
use Rattle.page_layout.specs.Laws.{InnerHaveOneSpelling, InnerArePages}
use Rattle.page_layout.proofs.Runs.{length-run, bytes-append, bytes-zeros, bytes-word}
use Rattle.page_layout.proofs.InnerReads.{lawful_width, rows_fit, row_long}
use Rattle.page_layout.proofs.InnerLaws.{fill_few, inner_from, inner_again}

bytes-rows : (v : Values) (rows : List InnerRow) → AllByRecursion (IsInnerRow v) rows → AreBytes (flat_map inner_row_bytes rows)
bytes-rows v [] each = tt
bytes-rows v (row ∷ rows) each =
    bytes-append (inner_row_bytes row) (flat_map inner_row_bytes rows)
    (bytes-append (word row.0) (word row.1 ++ (word row.2 ++ row.3)) (bytes-word row.0) (bytes-append (word row.1) (word row.2 ++ row.3) (bytes-word row.1) (bytes-append (word row.2) row.3 (bytes-word row.2) each.0.object.bytes))) (bytes-rows v rows each.1)

pub inner_pages : InnerArePages
unfolding inner_page
inner_pages = λ v rows within are.
    let width : ℕ = width_of v.metric v.dim in
    let n : ℕ = length rows in
    let entries : List ℕ = flat_map inner_row_bytes rows in
    let rest : ℕ = 16384 - inner_row_at width n in
    let tail : List ℕ = replicate rest 0 in
    let fits : inner_row_at width n ≤ 16384 = rows_fit width n (lawful_width v.metric v.dim v.eps v.minpts v.cap within) (fill_few n are.fill) in
    let many : length entries ≡ (12 + width) * n = length-run inner_row_bytes (IsInnerRow v) (12 + width) (row_long v) rows are.each in
    record {
      len = omega (arith, length-append entries tail, length-replicate {A = ℕ} rest 0, many, fits);
      bytes = bytes-append (3 ∷ replicate 3 0) (word n ++ (replicate 8 0 ++ (entries ++ tail))) (omega arith, bytes-zeros 3)
          (bytes-append (word n) (replicate 8 0 ++ (entries ++ tail)) (bytes-word n) (bytes-append (replicate 8 0) (entries ++ tail) (bytes-zeros 8) (bytes-append entries tail (bytes-rows v rows are.each) (bytes-zeros rest))));
    }

pub inner_spelled : InnerHaveOneSpelling
inner_spelled = λ v page rows within is. (
  λ said. inner_from v page (lawful_width v.metric v.dim v.eps v.minpts v.cap within) rows is.bytes is.len said,
  λ both. inner_again v page (lawful_width v.metric v.dim v.eps v.minpts v.cap within) rows both.0 both.1,
)
