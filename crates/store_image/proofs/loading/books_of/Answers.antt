use Rattle.std.proofs.Common.{ap, sym, ◌∙◌}
use Rattle.page_layout.specs.Heads.{values_of}
use Rattle.stored_lines.specs.Lines.{first_loose}
use Rattle.store_image.specs.inside.Reads.{tied_at, ties}
use Rattle.store_image.proofs.LoadReading.{fails_is}
use Rattle.store_image.proofs.loading.books_of.Goals as goal

pub returns-in-Err-Loose-clause-err : goal.returns-in-Err-Loose-clause-err
returns-in-Err-Loose-clause-err c =
    let v = values_of c.args.params.now in
    let parts = c.args.parts.now in
    let first = rw c.in-Err-Loose.field-0-is at c.in-Err-Loose.ensures.fault in
    fails_is c.loose_fault.result (ties v parts.kinds.items parts.numbers.items parts.lines.items)
    (ap (tied_at v parts.kinds.items parts.numbers.items) (ap (first_loose v.minpts) (sym c.deref.ensures.value) ∙ first) ∙ sym c.loose_fault.ensures)
