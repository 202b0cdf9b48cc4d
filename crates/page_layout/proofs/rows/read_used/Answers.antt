use Rattle.std.proofs.Common.{◌≡◌, ◌+◌, ◌-◌, ℕ, List, leb, take, drop, Option, Some, None, Ok, ap, ◌∙◌}
use Rattle.vec_record.specs.Limits.{width_of}
use Rattle.page_layout.specs.declared.slot.Slot.{Slot}
use Rattle.page_layout.specs.Fields.{Field}
use Rattle.page_layout.specs.Heads.{Values, values_of}
use Rattle.page_layout.proofs.SlotReads.{used_with, used_fields, used_said, used_are, used_in_is, sliced}
use Rattle.page_layout.proofs.rows.read_used.Goals as goal

pub returns-in-Some : goal.returns-in-Some
returns-in-Some c =
    let v : Values = values_of c.args.params.now in
    let page : List ℕ = c.args.page.now in
    let at : ℕ = c.args.at in
    let width : ℕ = c.width-width.result in
    let fields : List Field = used_with at width (leb 1 c.word_at-count.result) c.is_anchor.result c.is_label.result c.is_spelled.result in
    let are : fields ≡ used_fields v page at =
    used_are v page at width c.word_at-number.result c.word_at-count.result c.word_at-anchor.result c.word_at-label.result (take (at + 16 + width - (at + 16)) (drop (at + 16) page)) c.is_anchor.result c.is_label.result c.is_spelled.result
    c.width-width.ensures.value c.word_at-number.ensures c.word_at-count.ensures c.word_at-anchor.ensures c.word_at-label.ensures (sliced v page at width c.width-width.ensures.value) c.is_anchor.ensures c.is_label.ensures c.is_spelled.ensures in
    used_said v page at (Some c.in-Some.offset) fields c.requires.used are c.in-Some.ensures

pub returns : goal.returns
returns c =
    let v : Values = values_of c.args.params.now in
    let page : List ℕ = c.args.page.now in
    let at : ℕ = c.args.at in
    let width : ℕ = c.width-width.result in
    let fields : List Field = used_with at width (leb 1 c.word_at-count.result) c.is_anchor.result c.is_label.result c.is_spelled.result in
    let are : fields ≡ used_fields v page at =
    used_are v page at width c.word_at-number.result c.word_at-count.result c.word_at-anchor.result c.word_at-label.result (take (at + 16 + width - (at + 16)) (drop (at + 16) page)) c.is_anchor.result c.is_label.result c.is_spelled.result
    c.width-width.ensures.value c.word_at-number.ensures c.word_at-count.ensures c.word_at-anchor.ensures c.word_at-label.ensures (sliced v page at width c.width-width.ensures.value) c.is_anchor.ensures c.is_label.ensures c.is_spelled.ensures in
    used_said v page at None fields c.requires.used are c.in_default.ensures
    ∙ ap (λ (row : Option Slot). Ok row) (used_in_is (width_of v.metric v.dim) page at c.requires.used c.word_at-number.result c.word_at-count.result c.word_at-anchor.result c.word_at-label.result c.in_ok-from_slice.field-0
    c.word_at-number.ensures c.word_at-count.ensures c.word_at-anchor.ensures c.word_at-label.ensures (c.in_ok-from_slice.ensures ∙ sliced v page at width c.width-width.ensures.value))
