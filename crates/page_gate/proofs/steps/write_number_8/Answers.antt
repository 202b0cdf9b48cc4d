use Rattle.page_gate.proofs.Items.{number_8_put}
use Rattle.page_gate.proofs.steps.write_number_8.Goals as goal

pub returns-clause-told : goal.returns-clause-told
returns-clause-told g c = λ told. number_8_put c.args.at c.args.number c.to_le_bytes.result c.to_le_bytes.ensures c.ranges.number.fits (g.met.T.Site.is_now c.args.site.now told) (c.write_at.ensures.told told)
