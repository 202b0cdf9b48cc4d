use Rattle.page_gate.proofs.Births.{zeros_put}
use Rattle.page_gate.proofs.new_store.write_zeros.Goals as goal

pub returns-clause-told : goal.returns-clause-told
returns-clause-told g c = λ told. zeros_put c.args.at c.args.zeros.now c.requires.long c.requires.zero (g.met.T.Site.is_now c.args.site.now told) (c.write_at.ensures.told told)
