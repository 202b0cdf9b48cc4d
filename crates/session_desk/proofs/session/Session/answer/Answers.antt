use Rattle.std.proofs.Common.{◌∙◌, Bool, ap, sym}
use Rattle.std.specs.Prelude.{IfOk}
use Rattle.event_feed.specs.Meanings.{meanings}
use Rattle.session_desk.specs.Session.{Request}
use Rattle.session_desk.specs.Talks.{desk_at, Answering, IsAnswered}
use Rattle.session_desk.specs.declared.requests.Asked.TheVariants as asked
use Rattle.session_desk.proofs.Replies.{quiet-answer, of-batch}
use Rattle.session_desk.proofs.session.Session.answer.Goals as goal

pub returns-in-Batch-clause-answered : goal.returns-in-Batch-clause-answered
returns-in-Batch-clause-answered g c = λ stand q given.
    let d = desk_at c.args.self.now.warehouse (meanings g.W.Watcher.says_after c.args.self.now.feed.slots.items) in
    let next = desk_at c.answer_batch.new.self.warehouse (meanings g.W.Watcher.says_after c.answer_batch.new.self.feed.slots.items) in
    let P : Request → Type 0 = λ r. IfOk c.answer_batch.result (λ refused. IsAnswered d r refused next c.args.out.now c.answer_batch.new.out) in
    of-batch c.args.asked c.as_slice.result.now q P (c.in-Batch.is ∙ ap asked.Batch (sym c.as_slice.ensures)) given (λ lines each. c.answer_batch.ensures.answered stand lines each)

pub returns-in-Batch-clause-moments : goal.returns-in-Batch-clause-moments
returns-in-Batch-clause-moments g c = λ t stand q given.
    let d = desk_at c.args.self.now.warehouse (meanings g.W.Watcher.says_after c.args.self.now.feed.slots.items) in
    let P : Request → Type 0 = λ r. Answering {A = Bool} d r c.answer_batch.result (g.T.Site.state c.args.site.now) (g.T.Site.state c.answer_batch.new.site) in
    of-batch c.args.asked c.as_slice.result.now q P (c.in-Batch.is ∙ ap asked.Batch (sym c.as_slice.ensures)) given (λ lines each. c.answer_batch.ensures.moments t stand lines each)

pub returns-in_ok-refuse-in-LongBatch-clause-moments : goal.returns-in_ok-refuse-in-LongBatch-clause-moments
returns-in_ok-refuse-in-LongBatch-clause-moments g c = λ t stand q given. quiet-answer c.loads_are_stores.ensures c.args.self.now.warehouse _ q _ (g.T.Site.state c.args.site.now) (g.met.T.Site.is_now c.args.site.now t) c.requires.serving stand (c.requires.ready t)

pub returns-in_err-refuse-in-LongBatch-clause-moments : goal.returns-in_err-refuse-in-LongBatch-clause-moments
returns-in_err-refuse-in-LongBatch-clause-moments g c = λ t stand q given. quiet-answer c.loads_are_stores.ensures c.args.self.now.warehouse _ q _ (g.T.Site.state c.args.site.now) (g.met.T.Site.is_now c.args.site.now t) c.requires.serving stand (c.requires.ready t)

pub returns-in_ok-refuse-in-Cut-clause-moments : goal.returns-in_ok-refuse-in-Cut-clause-moments
returns-in_ok-refuse-in-Cut-clause-moments g c = λ t stand q given. quiet-answer c.loads_are_stores.ensures c.args.self.now.warehouse _ q _ (g.T.Site.state c.args.site.now) (g.met.T.Site.is_now c.args.site.now t) c.requires.serving stand (c.requires.ready t)

pub returns-in_err-refuse-in-Cut-clause-moments : goal.returns-in_err-refuse-in-Cut-clause-moments
returns-in_err-refuse-in-Cut-clause-moments g c = λ t stand q given. quiet-answer c.loads_are_stores.ensures c.args.self.now.warehouse _ q _ (g.T.Site.state c.args.site.now) (g.met.T.Site.is_now c.args.site.now t) c.requires.serving stand (c.requires.ready t)

pub returns-in_ok-answer_line-in-Line-clause-moments : goal.returns-in_ok-answer_line-in-Line-clause-moments
returns-in_ok-answer_line-in-Line-clause-moments g c = λ t stand q given. quiet-answer c.loads_are_stores.ensures c.args.self.now.warehouse _ q _ (g.T.Site.state c.args.site.now) (g.met.T.Site.is_now c.args.site.now t) c.requires.serving stand (c.requires.ready t)

pub returns-in_err-answer_line-in-Line-clause-moments : goal.returns-in_err-answer_line-in-Line-clause-moments
returns-in_err-answer_line-in-Line-clause-moments g c = λ t stand q given. quiet-answer c.loads_are_stores.ensures c.args.self.now.warehouse _ q _ (g.T.Site.state c.args.site.now) (g.met.T.Site.is_now c.args.site.now t) c.requires.serving stand (c.requires.ready t)
