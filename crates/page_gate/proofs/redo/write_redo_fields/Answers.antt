use Rattle.page_gate.proofs.Items.{fields_put}
use Rattle.page_gate.proofs.redo.write_redo_fields.Goals as goal

pub returns-clause-told : goal.returns-clause-told
returns-clause-told g c = λ told. fields_put c.args.start c.args.count (c.in_ok-write_number_8.ensures.told told) (c.write_number_4.ensures.told told)
