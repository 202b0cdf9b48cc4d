use Rattle.std.proofs.Common.{◌≤◌, ◌+◌, arith, subst}
use Rattle.site_disk.proofs.Moments.{joins_start}
use Rattle.event_feed.specs.Meanings.{Slots}
use Rattle.session_desk.specs.Headline.{Serves, IsComplete}
use Rattle.session_desk.specs.Costs.{session_work}
use Rattle.session_desk.proofs.Serving.{serves-nothing, untouched-still}
use Rattle.session_desk.proofs.serve.serve.Goals as goal

pub returns-in-Ok-clause-serves : goal.returns-in-Ok-clause-serves
returns-in-Ok-clause-serves g c = λ s t due.
    let P : Slots → Type 0 = λ x. Serves x (g.S.Source.left c.args.source.now) (g.S.Source.left c.serve_slots.new.source) c.serve_slots.result (g.T.Site.state c.args.site.now) (g.T.Site.state c.serve_slots.new.site) in
    subst P c.in-Ok.ensures (c.serve_slots.ensures.serves s t due)

pub returns-in-Ok-clause-complete : goal.returns-in-Ok-clause-complete
returns-in-Ok-clause-complete g c = λ s t due no_source no_site.
    let P : Slots → Type 0 = λ x. IsComplete x (g.S.Source.left c.args.source.now) c.serve_slots.result (g.T.Site.state c.args.site.now) in
    subst P c.in-Ok.ensures (c.serve_slots.ensures.complete s t due no_source no_site)

pub returns-in-Err-clause-serves : goal.returns-in-Err-clause-serves
returns-in-Err-clause-serves g c = λ s t due. serves-nothing c.same_openings_are_alike.ensures _ _ _ (g.T.Site.state c.args.site.now) (g.met.T.Site.is_now c.args.site.now t)

pub returns-in-Err-clause-unopened : goal.returns-in-Err-clause-unopened
returns-in-Err-clause-unopened g c = λ t.
    let safe = untouched-still (g.T.Site.state c.args.site.now) (g.met.T.Site.is_now c.args.site.now t) in
    record { untouched = λ shut. safe; unbegun = λ broken. safe }

pub returns-in-Err-clause-joins : goal.returns-in-Err-clause-joins
returns-in-Err-clause-joins g c = λ t. joins_start (g.T.Site.state c.args.site.now) (g.met.T.Site.is_now c.args.site.now t)

pub returns-in-Ok-clause-work : goal.returns-in-Ok-clause-work
returns-in-Ok-clause-work g c = λ s t sound.
    let P : Slots → Type 0 = λ x. c.serve_slots.new.steps ≤ c.args.steps.now + session_work (g.T.Site.state c.args.site.now).content x (g.S.Source.left c.args.source.now) in
    subst P c.in-Ok.ensures (c.serve_slots.ensures.work s t sound)

pub returns-in-Err-clause-work : goal.returns-in-Err-clause-work
returns-in-Err-clause-work g c = λ s t sound. omega arith
