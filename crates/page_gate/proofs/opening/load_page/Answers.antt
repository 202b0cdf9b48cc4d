use Rattle.page_gate.proofs.Reading.{part_read}
use Rattle.page_gate.proofs.opening.load_page.Goals as goal

pub returns-in-Ok-fill_from-clause-told : goal.returns-in-Ok-fill_from-clause-told
returns-in-Ok-fill_from-clause-told g c = λ told. record {
  stays = c.fill_from.ensures.told told;
  page = part_read c.args.at 16384 c.fill_from.new.self (g.T.Site.state c.args.site.now).content c.fill_from.ensures.length (c.in-Ok-fill_from.ensures.read told) (c.requires told);
}
