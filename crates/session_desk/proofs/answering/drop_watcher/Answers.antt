use Rattle.event_feed.specs.Meanings.{meanings}
use Rattle.session_desk.proofs.Telling.{drops-nothing}
use Rattle.session_desk.proofs.answering.drop_watcher.Goals as goal

pub returns-then-not-drop_one-clause-slots : goal.returns-then-not-drop_one-clause-slots
returns-then-not-drop_one-clause-slots g c =
    drops-nothing c.args.slot (meanings g.W.Watcher.says_after c.args.feed.now.slots.items) (meanings g.W.Watcher.says_after c.drop_one.new.self.slots.items) c.drop_one.result c.if-not-drop_one.true c.drop_one.ensures.full c.drop_one.ensures.slots
