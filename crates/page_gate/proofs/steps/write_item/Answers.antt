use Rattle.page_gate.proofs.Items.{item_put}
use Rattle.page_gate.proofs.steps.write_item.Goals as goal

pub returns-clause-told : goal.returns-clause-told
returns-clause-told g c = λ told. item_put c.args.at c.from.result c.args.page c.from.ensures c.args.image.now (c.in_ok-write_number_8.ensures.told told) (c.write_image.ensures.told told)
