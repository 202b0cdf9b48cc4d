use Rattle.std.proofs.Common.{List, Some, None, Ok, ap, sym, ◌∙◌, arith}
use Rattle.mtree_node.specs.Preorder.{LeafRow}
use Rattle.page_layout.proofs.Places.{bytes_by_index}
use Rattle.page_layout.proofs.LeafLaws.{said_with, slots_lawful, leaves_from}
use Rattle.page_layout.proofs.leaves.read_page.Goals as goal

pub returns-in-Some-clause-leaves : goal.returns-in-Some-clause-leaves
returns-in-Some-clause-leaves c = said_with c.args.page.now (Some c.in-Some.offset) c.in-Some.ensures

pub read_slots-requires-clause-lawful : goal.read_slots-requires-clause-lawful
read_slots-requires-clause-lawful c = slots_lawful c.args.page.now (sym c.in_default.ensures)

pub returns-clause-leaves : goal.returns-clause-leaves
returns-clause-leaves c = said_with c.args.page.now None c.in_default.ensures ∙ ap (λ (l : List (List LeafRow)). Ok l) (sym c.in_ok-read_slots.ensures)

pub returns-clause-lawful : goal.returns-clause-lawful
returns-clause-lawful c = (leaves_from c.args.page.now c.in_ok-read_slots.field-0 (bytes_by_index c.args.page.now (λ i. omega (arith, c.type_inv.page i))) c.requires (returns-clause-leaves c)).0
