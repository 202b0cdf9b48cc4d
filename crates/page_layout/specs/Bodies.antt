-- Body pages of any kind: what a page says by its first byte, and its written form.
use Rattle.std.specs.Prelude.{ℕ, ◌==◌, if◌then◌else◌, List, get_or, Result, Ok, Err}
use Rattle.vec_record.specs.Limits.{width_of}
use Rattle.page_layout.specs.declared.fault.LayoutFault.{LayoutFault}
use Rattle.page_layout.specs.declared.fault.LayoutFault.TheVariants.{Damaged}
use Rattle.page_layout.specs.declared.body.Body.{Body}
use Rattle.page_layout.specs.declared.body.Body.TheVariants.{Slots, Leaves, Inner}
use Rattle.page_layout.specs.Heads.{Values}
use Rattle.page_layout.specs.Slots.{AreRows, rows_of_page, record_page}
use Rattle.page_layout.specs.Leaves.{AreLeaves, leaves_of, leaf_page}
use Rattle.page_layout.specs.Inner.{AreInner, inner_of, inner_page}

-- what was read of a page of one kind, as a body
abbrev pub as_body : {A : Type 0} → (A → Body) → Result A LayoutFault → Result Body LayoutFault
as_body body (Ok value) = Ok (body value)
as_body body (Err fault) = Err fault

-- what a page says as a body page: by its first byte the slots of records, the slots of leaves or an inner node, and
-- damaged at that byte where it is no kind
unfoldable pub body_of : Values → List ℕ → Result Body LayoutFault
body_of v page =
    if get_or page 0 0 == 1 then as_body Slots (rows_of_page v page)
    else if get_or page 0 0 == 2 then as_body Leaves (leaves_of page)
    else if get_or page 0 0 == 3 then as_body Inner (inner_of v page)
    else Err (Damaged 0)

-- what a body page may say
abbrev pub IsBody : Values → Body → Type 0
IsBody v (Slots rows) = AreRows v rows
IsBody v (Leaves leaves) = AreLeaves leaves
IsBody v (Inner rows) = AreInner v rows

-- its written form, 16,384 bytes
abbrev pub body_bytes : Values → Body → List ℕ
body_bytes v (Slots rows) = record_page (width_of v.metric v.dim) rows
body_bytes v (Leaves leaves) = leaf_page leaves
body_bytes v (Inner rows) = inner_page (width_of v.metric v.dim) rows
