-- A body page of any kind has one spelling, and what reading it gives.
use Rattle.std.proofs.Common.{◌≡◌, inl, inr, ℕ, eqb, cond, Bool, false, List, get_or, Result, Ok, Err, refl, sym, ap, subst, ◌∙◌}
use Rattle.std.specs.Prelude.{IsTrue}
use Rattle.std.proofs.lemmas.Bool.{cases_eq, ne_eqb}
use Rattle.vec_record.specs.Limits.{are_within, width_of}
use Rattle.mtree_node.specs.Preorder.{LeafRow, InnerRow}
use Rattle.page_layout.specs.declared.fault.LayoutFault.{LayoutFault}
use Rattle.page_layout.specs.declared.fault.LayoutFault.TheVariants.{Foreign, Damaged, Memory}
use Rattle.page_layout.specs.declared.body.Body.{Body}
use Rattle.page_layout.specs.declared.body.Body.TheVariants.{Slots, Leaves, Inner}
use Rattle.page_layout.specs.Fields.{IsWhy}
use Rattle.page_layout.specs.Heads.{Values}
use Rattle.page_layout.specs.Slots.{Rows, rows_of_page, record_page}
use Rattle.page_layout.specs.Leaves.{leaves_of, leaf_page}
use Rattle.page_layout.specs.Inner.{inner_of, inner_page}
use Rattle.page_layout.specs.Bodies.{as_body, body_of, IsBody, body_bytes}
use Rattle.page_layout.specs.Laws.{IsPage, BodiesHaveOneSpelling}
use Rattle.page_layout.proofs.RowLaws.{record_from, record_again}
use Rattle.page_layout.proofs.LeafPages.{leaves_spelled}
use Rattle.page_layout.proofs.InnerPages.{inner_spelled}

-- ---- a body by its kind

module _ {A : Type 0} (body : A → Body) where
  as_why : (said : Result A LayoutFault) (e : LayoutFault) → IsWhy said e → IsWhy (as_body body said) e
  as_why said Memory why = tt
  as_why said Foreign why = why
  as_why said (Damaged offset) why = ap (as_body body) why

  as_ok : (P : Body → Type 0) (said : Result A LayoutFault) (b : Body) → as_body body said ≡ Ok b → ((value : A) → said ≡ Ok value → P (body value)) → P b
  as_ok P (Ok value) b is each = subst P (cc) (each value refl)
  as_ok P (Err fault) b is each = absurd cc

  module _ (v : Values) (page : List ℕ) (said : Result A LayoutFault) (kind : body_of v page ≡ as_body body said) where
    pub kind_why : (e : LayoutFault) → IsWhy said e → IsWhy (body_of v page) e
    kind_why e why = subst (λ (r : Result Body LayoutFault). IsWhy r e) (sym kind) (as_why said e why)

    pub kind_ok : (value : A) → said ≡ Ok value → body_of v page ≡ Ok (body value)
    kind_ok value is = kind ∙ ap (as_body body) is

    kind_from : (P : Body → Type 0) (b : Body) → body_of v page ≡ Ok b → ((value : A) → said ≡ Ok value → P (body value)) → P b
    kind_from P b is each = as_ok P said b (sym kind ∙ is) each

module _ (v : Values) (page : List ℕ) where
  abbrev by_tests : Bool → Bool → Bool → Result Body LayoutFault
  by_tests one two three =
      cond one (as_body Slots (rows_of_page v page)) (cond two (as_body Leaves (leaves_of page)) (cond three (as_body Inner (inner_of v page)) (Err (Damaged 0))))

  abbrev by_kind : ℕ → Result Body LayoutFault
  by_kind kind = by_tests (eqb kind 1) (eqb kind 2) (eqb kind 3)

  body_is : body_of v page ≡ by_kind (get_or page 0 0)
  unfolding body_of
  body_is = refl

  pub body_slots : get_or page 0 0 ≡ 1 → body_of v page ≡ as_body Slots (rows_of_page v page)
  body_slots kind = body_is ∙ ap by_kind kind

  pub body_leaves : get_or page 0 0 ≡ 2 → body_of v page ≡ as_body Leaves (leaves_of page)
  body_leaves kind = body_is ∙ ap by_kind kind

  pub body_inner : get_or page 0 0 ≡ 3 → body_of v page ≡ as_body Inner (inner_of v page)
  body_inner kind = body_is ∙ ap by_kind kind

  pub body_none : (get_or page 0 0 ≡ 1 → ⊥) → (get_or page 0 0 ≡ 2 → ⊥) → (get_or page 0 0 ≡ 3 → ⊥) → body_of v page ≡ Err (Damaged 0)
  body_none one two three =
      let kind : ℕ = get_or page 0 0 in
      body_is ∙ ap (λ (b : Bool). by_tests b (eqb kind 2) (eqb kind 3)) (ne_eqb kind 1 one) ∙ ap (λ (b : Bool). by_tests false b (eqb kind 3)) (ne_eqb kind 2 two) ∙ ap (by_tests false false) (ne_eqb kind 3 three)

-- ---- a body has one spelling

record_kind : (width : ℕ) (rows : Rows) → get_or (record_page width rows) 0 0 ≡ 1
unfolding record_page
record_kind width rows = refl

leaf_kind : (leaves : List (List LeafRow)) → get_or (leaf_page leaves) 0 0 ≡ 2
unfolding leaf_page
leaf_kind leaves = refl

inner_kind : (width : ℕ) (rows : List InnerRow) → get_or (inner_page width rows) 0 0 ≡ 3
unfolding inner_page
inner_kind width rows = refl

none_said : (said : Result Body LayoutFault) (b : Body) → said ≡ Err (Damaged 0) → said ≡ Ok b → ⊥
none_said said b bad ok = absurd cc

module _ (v : Values) (within : IsTrue (are_within v.metric v.dim v.eps v.minpts v.cap)) (page : List ℕ) (is : IsPage page) where
  abbrev IsSpelled : Body → Type 0
  IsSpelled b = IsBody v b × (page ≡ body_bytes v b)

  spelled : (b : Body) → body_of v page ≡ Ok b → IsSpelled b
  spelled b said =
      elim (cases_eq (get_or page 0 0) 1) [
        | inl kind ↦ kind_from Slots v page (rows_of_page v page) (body_slots v page kind) IsSpelled b said (λ rows ok. record_from v page rows is.bytes is.len ok)
        | inr one ↦ elim (cases_eq (get_or page 0 0) 2) [
          | inl kind ↦ kind_from Leaves v page (leaves_of page) (body_leaves v page kind) IsSpelled b said (λ leaves ok. (leaves_spelled page leaves is).0 ok)
          | inr two ↦ elim (cases_eq (get_or page 0 0) 3) [
            | inl kind ↦ kind_from Inner v page (inner_of v page) (body_inner v page kind) IsSpelled b said (λ rows ok. (inner_spelled v page rows within is).0 ok)
            | inr three ↦ absurd (none_said (body_of v page) b (body_none v page one two three) said)
          ]
        ]
      ]

  -- the first byte of a page that is this one
  kind_of : (other : List ℕ) (k : ℕ) → page ≡ other → get_or other 0 0 ≡ k → get_or page 0 0 ≡ k
  kind_of other k same is_kind = ap (λ (l : List ℕ). get_or l 0 0) same ∙ is_kind

  again : (b : Body) → IsSpelled b → body_of v page ≡ Ok b
  again (Slots rows) (are, same) = kind_ok Slots v page (rows_of_page v page) (body_slots v page (kind_of _ 1 same (record_kind (width_of v.metric v.dim) rows))) rows (record_again v page rows are same)
  again (Leaves leaves) (are, same) = kind_ok Leaves v page (leaves_of page) (body_leaves v page (kind_of _ 2 same (leaf_kind leaves))) leaves ((leaves_spelled page leaves is).1 (are, same))
  again (Inner rows) (are, same) = kind_ok Inner v page (inner_of v page) (body_inner v page (kind_of _ 3 same (inner_kind (width_of v.metric v.dim) rows))) rows ((inner_spelled v page rows within is).1 (are, same))

pub bodies_spelled : BodiesHaveOneSpelling
bodies_spelled = λ v page body within is. (λ said. spelled v within page is body said, λ both. again v within page is body both)
