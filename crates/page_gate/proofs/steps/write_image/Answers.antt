use Rattle.page_gate.proofs.Items.{image_put}
use Rattle.page_gate.proofs.steps.write_image.Goals as goal

pub returns-clause-told : goal.returns-clause-told
returns-clause-told g c = λ told. image_put c.args.at c.args.image.now c.requires.page (g.met.T.Site.is_now c.args.site.now told) (c.write_at.ensures.told told)
