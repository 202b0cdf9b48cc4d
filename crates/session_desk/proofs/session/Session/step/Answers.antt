use Rattle.std.proofs.Common.{List, ℕ, ◌++◌, ap, ◌∙◌}
use Rattle.site_disk.proofs.Moments.{joins_on}
use Rattle.event_feed.specs.Meanings.{meanings}
use Rattle.session_desk.specs.Talks.{desk_at, answer_on}
use Rattle.session_desk.proofs.Replies.{answered-quietly, replies}
use Rattle.session_desk.proofs.session.Session.step.Goals as goal

pub returns-in-Ok-clause-moments : goal.returns-in-Ok-clause-moments
returns-in-Ok-clause-moments g c = λ t stand q given.
    let d = desk_at c.args.self.now.warehouse (meanings g.W.Watcher.says_after c.args.self.now.feed.slots.items) in
    let done = c.in_ok-refused.ensures.answered stand q given in
    replies c.loads_are_stores.ensures d c.answer.new.self.warehouse (meanings g.W.Watcher.says_after c.answer.new.self.feed.slots.items) q c.as_slice.result.now
    (g.T.Site.state c.args.site.now) (g.T.Site.state c.answer.new.site) (g.T.Site.state c.say.new.self)
    (c.answer.ensures.moments t stand q given) (c.answer.ensures.said t) c.in_ok-refused.ensures.serving (c.in_ok-refused.ensures.clustered stand) (c.in_ok-refused.ensures.ready t) done.desk
    (c.as_slice.ensures ∙ done.given.text ∙ ap (λ (l : List ℕ). l ++ (answer_on d q).text) c.new-text.ensures) (c.say.ensures.told t)

pub returns-clause-moments : goal.returns-clause-moments
returns-clause-moments g c = λ t stand q given.
    let d = desk_at c.args.self.now.warehouse (meanings g.W.Watcher.says_after c.args.self.now.feed.slots.items) in
    let done = c.in_ok-refused.ensures.answered stand q given in
    replies c.loads_are_stores.ensures d c.answer.new.self.warehouse (meanings g.W.Watcher.says_after c.answer.new.self.feed.slots.items) q c.as_slice.result.now
    (g.T.Site.state c.args.site.now) (g.T.Site.state c.answer.new.site) (g.T.Site.state c.say.new.self)
    (c.answer.ensures.moments t stand q given) (c.answer.ensures.said t) c.in_ok-refused.ensures.serving (c.in_ok-refused.ensures.clustered stand) (c.in_ok-refused.ensures.ready t) done.desk
    (c.as_slice.ensures ∙ done.given.text ∙ ap (λ (l : List ℕ). l ++ (answer_on d q).text) c.new-text.ensures) (c.say.ensures.told t)

pub returns-in-Ok-clause-joins : goal.returns-in-Ok-clause-joins
returns-in-Ok-clause-joins g c = λ t. joins_on (g.T.Site.state c.args.site.now) (g.T.Site.state c.answer.new.site) (g.T.Site.state c.say.new.self) (c.answer.ensures.joins t) (c.say.ensures.told t).joins

pub returns-clause-joins : goal.returns-clause-joins
returns-clause-joins g c = λ t. joins_on (g.T.Site.state c.args.site.now) (g.T.Site.state c.answer.new.site) (g.T.Site.state c.say.new.self) (c.answer.ensures.joins t) (c.say.ensures.told t).joins

pub returns-in_err-refused-clause-moments : goal.returns-in_err-refused-clause-moments
returns-in_err-refused-clause-moments g c = λ t stand q given.
    let d = desk_at c.args.self.now.warehouse (meanings g.W.Watcher.says_after c.args.self.now.feed.slots.items) in
    answered-quietly d q (g.T.Site.state c.args.site.now) (g.T.Site.state c.answer.new.site) (c.answer.ensures.moments t stand q given)
