use Rattle.std.proofs.Common.{arith}
use Rattle.page_gate.proofs.Births.{clear_nothing, clear_written}
use Rattle.page_gate.proofs.new_store.clear_gate.Goals as goal

pub returns-then-len-gt1-clause-told : goal.returns-then-len-gt1-clause-told
returns-then-len-gt1-clause-told g c = λ told. clear_nothing (g.T.Site.state c.args.site.now) (g.met.T.Site.is_now c.args.site.now told) (c.requires.unborn told) (omega (arith, c.requires.len told))

pub returns-clause-told : goal.returns-clause-told
returns-clause-told g c = λ told. clear_written (g.T.Site.state c.args.site.now) (g.met.T.Site.is_now c.args.site.now told) (c.requires.unborn told) (omega (arith, c.requires.len told)) (c.write_at.ensures.told told)
