use Rattle.std.proofs.Common.{arith, ⊎_elim, sym, subst}
use Rattle.site_disk.specs.State.{Safe}
use Rattle.site_disk.specs.Causes.{Rose}
use Rattle.site_disk.proofs.Moments.{joins_on}
use Rattle.event_feed.specs.Meanings.{meanings}
use Rattle.session_desk.specs.Courses.{session}
use Rattle.session_desk.specs.Headline.{IsMoment, IsSettled}
use Rattle.session_desk.specs.Opened.{state_of, refusal_course}
use Rattle.session_desk.specs.Session.{requests_of}
use Rattle.session_desk.proofs.Serving.{works-are, opening-moments, serves-moments, serves-all, serves-whole, serves-kept, serves-settled, completes, refuses-all, refuses-moments, opening-settled, outside, not-site, rose-later, rose-before, no-fault, never-source, never-ended, never-unopened, untouched-moments}
use Rattle.session_desk.proofs.serve.serve_slots.Goals as goal

pub returns-in-Ok-clause-serves : goal.returns-in-Ok-clause-serves
returns-in-Ok-clause-serves g c = λ s t due.
    let told = c.in-Ok.ensures.told t in
    let as_is = told.store (due told.opens) in
    let stand = as_is.clustered in
    let talked = c.converse_by_metric.ensures in
    let w = state_of c.in-Ok.warehouse in
    let start = g.T.Site.state c.args.site.now in
    let opened = g.T.Site.state c.begin.new.site in
    let end = g.T.Site.state c.converse_by_metric.new.site in
    let input = g.S.Source.left c.args.source.now in
    record {
      answers = λ fine.
          serves-all w (meanings g.W.Watcher.says_after c.args.feed.slots.items) start opened end input c.converse_by_metric.result as_is.store told.said (talked.answers s t stand fine);
      whole = λ fault.
          serves-whole w (meanings g.W.Watcher.says_after c.args.feed.slots.items) start opened end input (g.S.Source.left c.converse_by_metric.new.source) as_is.store told.said
          (talked.whole s t stand fault);
      crash =
          serves-moments c.same_openings_are_alike.ensures w (meanings g.W.Watcher.says_after c.args.feed.slots.items) start opened end input as_is.store told.safe told.said
          (talked.moments s t stand);
      end = λ ended.
          serves-kept w (meanings g.W.Watcher.says_after c.args.feed.slots.items) start opened end input as_is.store (talked.end s t stand (no-fault c.converse_by_metric.result ended));
      settled = λ sound fault.
          serves-settled w (meanings g.W.Watcher.says_after c.args.feed.slots.items) start opened end input as_is.store told.said (talked.settled s t stand fault);
    }

pub returns-in-Ok-clause-complete : goal.returns-in-Ok-clause-complete
returns-in-Ok-clause-complete g c = λ s t due no_source no_site.
    let start = g.T.Site.faults c.args.site.now in
    let opened = g.T.Site.faults c.begin.new.site in
    let end = g.T.Site.faults c.converse_by_metric.new.site in
    completes c.converse_by_metric.result (session (g.T.Site.state c.args.site.now).content (meanings g.W.Watcher.says_after c.args.feed.slots.items) (g.S.Source.left c.args.source.now)).status
    (Rose (g.S.Source.faults c.args.source.now) (g.S.Source.faults c.converse_by_metric.new.source)) (Rose start end)
    (λ fine. ((returns-in-Ok-clause-serves g c s t due).answers fine).status)
    (λ site. rose-later start opened end c.begin.ensures.cause.later (c.converse_by_metric.ensures.site site))
    c.converse_by_metric.ensures.source no_source no_site

pub returns-in-Ok-clause-unopened : goal.returns-in-Ok-clause-unopened
returns-in-Ok-clause-unopened g c = λ t. record {
  untouched = λ shut. absurd (shut (c.in-Ok.ensures.told t).opens);
  unbegun = λ broken. never-unopened c.converse_by_metric.result c.converse_by_metric.ensures.status broken;
}

pub returns-in-Err-clause-serves : goal.returns-in-Err-clause-serves
returns-in-Err-clause-serves g c = λ s t due.
    let told = c.in-Err.ensures.told t in
    let said = c.say_fault.ensures in
    let alike = c.same_openings_are_alike.ensures in
    let start = g.T.Site.state c.args.site.now in
    let opened = g.T.Site.state c.begin.new.site in
    let end = g.T.Site.state c.say_fault.new.site in
    let input = g.S.Source.left c.args.source.now in
    let fault = c.in-Err.fault in
    let result = c.say_fault.result in
    record {
      answers = λ fine.
          let status = said.status fine in
          refuses-all fault (meanings g.W.Watcher.says_after c.args.feed.slots.items) start opened end input result (told.store status.0) told.said (said.said t fine) status.1;
      whole = λ source. never-source result said.answers source;
      crash = ⊎_elim
          (λ out.
          let P : g.row.T.Denot → Type 0 = λ x. Safe start (g.T.Site.state x) (IsMoment (meanings g.W.Watcher.says_after c.args.feed.slots.items) input start) in
          subst P (sym (said.still out)) (opening-moments alike (meanings g.W.Watcher.says_after c.args.feed.slots.items) start opened input told.safe))
          (λ inside.
          refuses-moments alike fault (meanings g.W.Watcher.says_after c.args.feed.slots.items) start opened end input (told.store inside) told.safe told.said
          (told.holds (not-site fault inside)) (said.moments t))
          (outside fault);
      end = λ ended. never-ended result said.answers ended;
      settled = λ sound ended.
          let memory = ⊎_elim (λ source. never-source result said.answers source) (λ m. m) ended in
          let P : g.row.T.Denot → Type 0 = λ x. IsSettled (meanings g.W.Watcher.says_after c.args.feed.slots.items) input start (g.T.Site.state x) in
          subst P (sym (said.quiet memory)) (opening-settled alike (meanings g.W.Watcher.says_after c.args.feed.slots.items) start opened input sound told.safe told.said);
    }

pub returns-in-Err-clause-complete : goal.returns-in-Err-clause-complete
returns-in-Err-clause-complete g c = λ s t due no_source no_site.
    let start = g.T.Site.faults c.args.site.now in
    let opened = g.T.Site.faults c.begin.new.site in
    let end = g.T.Site.faults c.say_fault.new.site in
    completes c.say_fault.result (session (g.T.Site.state c.args.site.now).content (meanings g.W.Watcher.says_after c.args.feed.slots.items) (g.S.Source.left c.args.source.now)).status
    (Rose (g.S.Source.faults c.args.source.now) (g.S.Source.faults c.args.source.now)) (Rose start end)
    (λ fine. ((returns-in-Err-clause-serves g c s t due).answers fine).status)
    (λ site. ⊎_elim
    (λ fault. rose-before start opened end (c.in-Err.ensures.cause.failed fault) c.say_fault.ensures.later)
    (λ rose. rose-later start opened end c.begin.ensures.cause.later rose)
    (c.say_fault.ensures.fault site))
    (λ source. never-source c.say_fault.result c.say_fault.ensures.answers source) no_source no_site

pub returns-in-Err-clause-unopened : goal.returns-in-Err-clause-unopened
returns-in-Err-clause-unopened g c = λ t.
    let told = c.in-Err.ensures.told t in
    let safe =
    untouched-moments (g.T.Site.state c.args.site.now) (g.T.Site.state c.begin.new.site) (g.T.Site.state c.say_fault.new.site)
    (refusal_course c.in-Err.fault).ending told.safe (c.say_fault.ensures.moments t) in
    record { untouched = λ shut. safe; unbegun = λ broken. safe }

pub returns-in-Ok-clause-joins : goal.returns-in-Ok-clause-joins
returns-in-Ok-clause-joins g c = λ t. joins_on (g.T.Site.state c.args.site.now) (g.T.Site.state c.begin.new.site) (g.T.Site.state c.converse_by_metric.new.site) (c.begin.ensures.told t).safe.joins (c.converse_by_metric.ensures.joins t)

pub returns-in-Err-clause-joins : goal.returns-in-Err-clause-joins
returns-in-Err-clause-joins g c = λ t. joins_on (g.T.Site.state c.args.site.now) (g.T.Site.state c.begin.new.site) (g.T.Site.state c.say_fault.new.site) (c.begin.ensures.told t).safe.joins (c.say_fault.ensures.moments t).joins

pub returns-in-Ok-clause-work : goal.returns-in-Ok-clause-work
returns-in-Ok-clause-work g c = λ s t sound.
    let told = c.in-Ok.ensures.told t in
    let as_is = told.store sound.due in
    let watchers = meanings g.W.Watcher.says_after c.args.feed.slots.items in
    let same = works-are (state_of c.in-Ok.warehouse) watchers (g.T.Site.state c.args.site.now).content (requests_of (g.S.Source.left c.args.source.now)) as_is.store in
    let first = c.begin.ensures.work t sound in
    let more = c.converse_by_metric.ensures.work s as_is.clustered in
    omega (arith, same, first, more)

pub returns-in-Err-clause-work : goal.returns-in-Err-clause-work
returns-in-Err-clause-work g c = λ s t sound. let first = c.begin.ensures.work t sound in omega (arith, first)
