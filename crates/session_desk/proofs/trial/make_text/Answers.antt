use Rattle.session_desk.proofs.Trials.{said_whole}
use Rattle.session_desk.proofs.trial.make_text.Goals as goal

pub returns-clause-text : goal.returns-clause-text
returns-clause-text g c =
    let drawn = c.in_ok-apply_drawn.ensures in
    said_whole c.args.trial.seed c.args.trial.count c.apply_drawn.new.warehouse _ _ c.new-text.result c.text_of.new.out c.counts_text.new.out c.summary.result c.in_ok-feed.ensures drawn.unsaved.values drawn.rows drawn.told c.new-text.ensures
    c.in_ok-text_of.ensures.text (c.summary.ensures drawn.unsaved.clustered) c.in_ok-counts_text.ensures.ok
