use Rattle.std.proofs.Common.{List, Some, None, Ok, ap, sym, ◌∙◌, arith}
use Rattle.vec_record.specs.Limits.{width_of}
use Rattle.vec_record.specs.Vectors.{IsWidth}
use Rattle.mtree_node.specs.Preorder.{InnerRow}
use Rattle.page_layout.specs.Heads.{values_of}
use Rattle.page_layout.proofs.Places.{bytes_by_index}
use Rattle.page_layout.proofs.InnerReads.{lawful_width}
use Rattle.page_layout.proofs.InnerLaws.{said_with, node_lawful, node_few, inner_from}
use Rattle.page_layout.proofs.inner.read_page.Goals as goal

pub returns-in-Some-clause-rows : goal.returns-in-Some-clause-rows
returns-in-Some-clause-rows c = said_with (values_of c.args.params.now) c.args.page.now (Some c.in-Some.offset) c.in-Some.ensures

pub read_rows-requires-clause-few : goal.read_rows-requires-clause-few
read_rows-requires-clause-few c = node_few (values_of c.args.params.now) c.args.page.now (node_lawful (values_of c.args.params.now) c.args.page.now (sym c.in_default.ensures))

pub returns-clause-rows : goal.returns-clause-rows
returns-clause-rows c = said_with (values_of c.args.params.now) c.args.page.now None c.in_default.ensures ∙ ap (λ (l : List InnerRow). Ok l) (sym c.in_ok-read_rows.ensures)

pub returns-clause-lawful : goal.returns-clause-lawful
returns-clause-lawful c =
    let p = c.args.params.now in
    let wide : IsWidth (width_of p.metric p.dim) = lawful_width p.metric p.dim p.eps p.minpts p.cap p.limits in
    (inner_from (values_of p) c.args.page.now wide c.in_ok-read_rows.field-0 (bytes_by_index c.args.page.now (λ i. omega (arith, c.type_inv.page i))) c.requires (returns-clause-rows c)).0
