use Rattle.page_gate.proofs.Births.{bears, bears_laid}
use Rattle.page_gate.proofs.new_store.birth.Goals as goal

pub returns-clause-told : goal.returns-clause-told
returns-clause-told g c = λ told. bears c.args.first.now c.requires.count (g.T.Site.state c.args.site.now) (c.in_ok-close_birth.ensures.told told) (c.in_ok-close_birth.ensures.only told) (c.in_ok-lay_pages.ensures.told told) (c.open_birth.ensures.told told)

pub returns-in_err-lay_pages-clause-told : goal.returns-in_err-lay_pages-clause-told
returns-in_err-lay_pages-clause-told g c = λ told. bears_laid c.args.first.now c.requires.count (g.T.Site.state c.args.site.now) c.from_residual-in_err-lay_pages.result c.from_residual-in_err-lay_pages.ensures.0 (c.in_ok-close_birth.ensures.told told) (c.in_ok-close_birth.ensures.only told) (c.lay_pages.ensures.told told)
