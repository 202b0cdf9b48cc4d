use Rattle.std.proofs.Common.{◌∙◌, ℕ, None, ap, arith}
use Rattle.vec_record.specs.Limits.{width_of}
use Rattle.page_layout.specs.Heads.{Values, values_of}
use Rattle.page_layout.specs.Slots.{Rows, slots_in_page, IsRow, record_page}
use Rattle.page_layout.proofs.Begun.{begun, begun_count, begun_each, begun_free, begun_more}
use Rattle.page_layout.proofs.rows.write_rows.Goals as goal

pub loop-place-preserved : goal.loop-place-preserved
loop-place-preserved c =
    let v : Values = values_of c.args.params.now in
    let n : ℕ = slots_in_page (width_of v.metric v.dim) in
    let rows : Rows = c.args.rows.now in
    let k : ℕ = c.loop-place.place in
    c.write_row.ensures (begun None n rows k)
    (record { count = begun_count None n rows c.requires.rows.count k (omega arith); each = begun_each None n rows c.requires.rows.count k (IsRow v) tt c.requires.rows.each })
    (begun_free None n rows c.requires.rows.count k (omega arith)) c.loop-place.invariant
    ∙ ap (record_page (width_of v.metric v.dim)) (begun_more None n rows c.requires.rows.count k (omega arith) c.index-rows-place.result c.index-rows-place.is)
