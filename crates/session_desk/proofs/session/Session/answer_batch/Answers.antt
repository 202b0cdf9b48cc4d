use Rattle.std.proofs.Common.{ap, sym, subst}
use Rattle.event_feed.specs.declared.feed.WatcherSlots.{WatcherSlots}
use Rattle.event_feed.specs.Meanings.{meanings}
use Rattle.warehouse_core.specs.States.{State, IsClustered}
use Rattle.session_desk.specs.Talks.{IsServing, desk_at}
use Rattle.session_desk.proofs.Replies.{accepted-batch, refused-batch}
use Rattle.session_desk.proofs.session.Session.answer_batch.Goals as goal

pub returns-in-Ok-clause-answered : goal.returns-in-Ok-clause-answered
returns-in-Ok-clause-answered g c = λ stand lines given.
    let slots = meanings g.W.Watcher.says_after c.args.self.now.feed.slots.items in
    let slots' = meanings g.W.Watcher.says_after c.apply.new.feed.slots.items in
    accepted-batch c.args.self.now.warehouse c.apply.new.self slots slots' lines c.args.body.now c.args.out.now c.apply.new.out stand given c.in-Ok.ensures.ok (c.in-Ok.ensures.told stand)

pub returns-in_ok-refuse-in-Err-clause-serving : goal.returns-in_ok-refuse-in-Err-clause-serving
returns-in_ok-refuse-in-Err-clause-serving g c =
    let P : State → Type 0 = λ w. IsServing w in
    subst P (sym (c.in-Err.ensures.warehouse c.in_ok-number-in-Err.ensures.0)) c.requires.serving

pub returns-in_ok-refuse-in-Err-clause-clustered : goal.returns-in_ok-refuse-in-Err-clause-clustered
returns-in_ok-refuse-in-Err-clause-clustered g c = λ stand.
    let P : State → Type 0 = λ w. IsClustered w in
    subst P (sym (c.in-Err.ensures.warehouse c.in_ok-number-in-Err.ensures.0)) stand

pub returns-in_ok-refuse-in-Err-clause-answered : goal.returns-in_ok-refuse-in-Err-clause-answered
returns-in_ok-refuse-in-Err-clause-answered g c = λ stand lines given.
    let w = c.args.self.now.warehouse in
    let slots = meanings g.W.Watcher.says_after c.args.self.now.feed.slots.items in
    let judged = c.in_ok-number-in-Err.ensures in
    refused-batch w c.apply.new.self slots (meanings g.W.Watcher.says_after c.apply.new.feed.slots.items) lines c.args.body.now c.in-Err.refusal c.in_ok-number-in-Err.number c.in_ok-number-in-Err.place
    c.in_ok-refuse-in-Err.field-0 c.args.out.now c.apply.new.out c.refuse.new.out given (c.in-Err.ensures.refused judged.0) (judged.1 (desk_at w slots)) (c.in-Err.ensures.warehouse judged.0)
    (ap (λ (f : WatcherSlots g.row.W.Denot). meanings g.W.Watcher.says_after f.slots.items) c.in-Err.ensures.untold) c.in-Err.ensures.text c.in_ok-refuse-in-Err.ensures
