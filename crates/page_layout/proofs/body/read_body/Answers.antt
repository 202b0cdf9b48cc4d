use Rattle.std.proofs.Common.{◌≡◌, ℕ, List, get_or, ap, sym, ◌∙◌, arith}
use Rattle.std.proofs.lemmas.Result.{err_from_is_err_and}
use Rattle.page_layout.specs.declared.body.Body.TheVariants.{Slots, Leaves, Inner}
use Rattle.page_layout.specs.Heads.{Values, values_of}
use Rattle.page_layout.specs.Slots.{rows_of_page}
use Rattle.page_layout.specs.Leaves.{leaves_of}
use Rattle.page_layout.specs.Inner.{inner_of}
use Rattle.page_layout.proofs.BodyLaws.{kind_why, kind_ok, body_slots, body_leaves, body_inner, body_none}
use Rattle.page_layout.proofs.body.read_body.Goals as goal

-- the first byte of a page, seen as a slice
kind_is : (bytes page : List ℕ) (k : ℕ) → bytes ≡ page → get_or bytes 0 0 ≡ k → get_or page 0 0 ≡ k
kind_is bytes page k same is = ap (λ (l : List ℕ). get_or l 0 0) (sym same) ∙ is

pub returns-in_err-read_rows-in-1-clause-body : goal.returns-in_err-read_rows-in-1-clause-body
returns-in_err-read_rows-in-1-clause-body c =
    let v : Values = values_of c.args.params.now in
    let page : List ℕ = c.args.page.now in
    let kind : get_or page 0 0 ≡ 1 = kind_is c.as_slice-bytes.result.now page 1 c.as_slice-bytes.ensures.same c.in-1.is in
    let p = err_from_is_err_and c.from_residual.result c.from_residual.ensures.1 in
    rw (p.1, p.2) (kind_why Slots v page (rows_of_page v page) (body_slots v page kind) c.in_err-read_rows-in-1.field-0.0 (rw c.as_slice-bytes.ensures.same at c.in_err-read_rows-in-1.ensures.rows))

pub returns-in_ok-read_rows-in-1-clause-body : goal.returns-in_ok-read_rows-in-1-clause-body
returns-in_ok-read_rows-in-1-clause-body c =
    let v : Values = values_of c.args.params.now in
    let page : List ℕ = c.args.page.now in
    let kind : get_or page 0 0 ≡ 1 = kind_is c.as_slice-bytes.result.now page 1 c.as_slice-bytes.ensures.same c.in-1.is in
    kind_ok Slots v page (rows_of_page v page) (body_slots v page kind) c.in_ok-read_rows-in-1.field-0 (rw c.as_slice-bytes.ensures.same at c.in_ok-read_rows-in-1.ensures.rows)

pub returns-in_err-read_leaves-in-2-clause-body : goal.returns-in_err-read_leaves-in-2-clause-body
returns-in_err-read_leaves-in-2-clause-body c =
    let v : Values = values_of c.args.params.now in
    let page : List ℕ = c.args.page.now in
    let kind : get_or page 0 0 ≡ 2 = kind_is c.as_slice-bytes.result.now page 2 c.as_slice-bytes.ensures.same c.in-2.is in
    let p = err_from_is_err_and c.from_residual-in_err-read_leaves-in-2.result c.from_residual-in_err-read_leaves-in-2.ensures.1 in
    rw (p.1, p.2) (kind_why Leaves v page (leaves_of page) (body_leaves v page kind) c.in_err-read_leaves-in-2.field-0.0 c.in_err-read_leaves-in-2.ensures.leaves)

pub returns-in_ok-read_leaves-in-2-clause-body : goal.returns-in_ok-read_leaves-in-2-clause-body
returns-in_ok-read_leaves-in-2-clause-body c =
    let v : Values = values_of c.args.params.now in
    let page : List ℕ = c.args.page.now in
    let kind : get_or page 0 0 ≡ 2 = kind_is c.as_slice-bytes.result.now page 2 c.as_slice-bytes.ensures.same c.in-2.is in
    kind_ok Leaves v page (leaves_of page) (body_leaves v page kind) c.in_ok-read_leaves-in-2.field-0 c.in_ok-read_leaves-in-2.ensures.leaves

pub returns-in_err-read_inner-in-3-clause-body : goal.returns-in_err-read_inner-in-3-clause-body
returns-in_err-read_inner-in-3-clause-body c =
    let v : Values = values_of c.args.params.now in
    let page : List ℕ = c.args.page.now in
    let kind : get_or page 0 0 ≡ 3 = kind_is c.as_slice-bytes.result.now page 3 c.as_slice-bytes.ensures.same c.in-3.is in
    let p = err_from_is_err_and c.from_residual-in_err-read_inner-in-3.result c.from_residual-in_err-read_inner-in-3.ensures.1 in
    rw (p.1, p.2) (kind_why Inner v page (inner_of v page) (body_inner v page kind) c.in_err-read_inner-in-3.field-0.0 c.in_err-read_inner-in-3.ensures.rows)

pub returns-in_ok-read_inner-in-3-clause-body : goal.returns-in_ok-read_inner-in-3-clause-body
returns-in_ok-read_inner-in-3-clause-body c =
    let v : Values = values_of c.args.params.now in
    let page : List ℕ = c.args.page.now in
    let kind : get_or page 0 0 ≡ 3 = kind_is c.as_slice-bytes.result.now page 3 c.as_slice-bytes.ensures.same c.in-3.is in
    kind_ok Inner v page (inner_of v page) (body_inner v page kind) c.in_ok-read_inner-in-3.field-0 c.in_ok-read_inner-in-3.ensures.rows

pub returns-in_default-clause-body : goal.returns-in_default-clause-body
returns-in_default-clause-body c =
    let other = λ (k : ℕ) (is : get_or c.args.page.now 0 0 ≡ k). kind_is c.args.page.now c.as_slice-bytes.result.now k (sym c.as_slice-bytes.ensures.same) is in
    let not_one : get_or c.args.page.now 0 0 ≡ 1 → ⊥ = λ is. let kind : get_or c.as_slice-bytes.result.now 0 0 ≡ 1 = other 1 is in omega (arith, kind) in
    let not_two : get_or c.args.page.now 0 0 ≡ 2 → ⊥ = λ is. let kind : get_or c.as_slice-bytes.result.now 0 0 ≡ 2 = other 2 is in omega (arith, kind) in
    let not_three : get_or c.args.page.now 0 0 ≡ 3 → ⊥ = λ is. let kind : get_or c.as_slice-bytes.result.now 0 0 ≡ 3 = other 3 is in omega (arith, kind) in
    body_none (values_of c.args.params.now) c.args.page.now not_one not_two not_three
