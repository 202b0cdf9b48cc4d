use Rattle.std.proofs.Common.{rules, arith, ◌≡◌, ◌+◌, ◌≤◌, ⊎_elim, Bool, false, [], ◌∷◌, ◌++◌, Err, refl, sym, ap, subst, ◌∙◌}
use Rattle.std.specs.Prelude.{◌||◌}
use Rattle.site_disk.specs.State.{Safe}
use Rattle.site_disk.proofs.Moments.{joins_start, joins_on}
use Rattle.session_desk.specs.declared.status.Status.TheVariants as status
use Rattle.event_feed.specs.Meanings.{meanings}
use Rattle.session_desk.specs.Lines.{Reading}
use Rattle.session_desk.specs.Asking.{asks, rest_of}
use Rattle.session_desk.specs.Session.{requests_of}
use Rattle.session_desk.specs.Talks.{works_on, desk_at, IsRead, IsGoing, IsTalk, IsCutOff, IsEven}
use Rattle.session_desk.proofs.Replies.{rest-store}
use Rattle.session_desk.proofs.Turns.{pays-first, pays-on, pays-last, begins-reading, begins-going, reads-on, goes-on, turn-failed, ends-fine, ends-too-long, too-long-moments, all-kept, even-out, cut-off, taken, some-asked, none-asked, too-much, broken-off, is-too-much, more-on, holds-on, too-long-only}
use Rattle.session_desk.proofs.converse.converse.Goals as goal
use Rattle.session_desk.proofs.converse.converse.Goals.{then-refused, else-refused}

pub returns-in_default-clause-moments : goal.returns-in_default-clause-moments
returns-in_default-clause-moments g c = λ s t stand.
    let start = begins-going c.loads_are_stores.ensures g.T.Site.tells c.args.session.now.warehouse (meanings g.W.Watcher.says_after c.args.session.now.feed.slots.items) (g.S.Source.left c.args.source.now) (g.T.Site.state c.args.site.now) (λ u. g.met.T.Site.is_now c.args.site.now u) c.requires.serving stand c.requires.ready in
    (start.told t).safe

pub returns-in_default-clause-settled : goal.returns-in_default-clause-settled
returns-in_default-clause-settled g c = λ s t stand ended.
    let stores = c.loads_are_stores.ensures in
    let w = c.args.session.now.warehouse in
    let slots = meanings g.W.Watcher.says_after c.args.session.now.feed.slots.items in
    let a = g.T.Site.state c.args.site.now in
    let start = begins-going stores g.T.Site.tells w slots (g.S.Source.left c.args.source.now) a (λ u. g.met.T.Site.is_now c.args.site.now u) c.requires.serving stand c.requires.ready in
    even-out g.T.Site.tells (desk_at w slots) (desk_at w slots) (g.S.Source.left c.args.source.now) a a a false _ (g.S.Source.left c.args.source.now) t start refl (λ i left. rest-store stores w a c.requires.serving stand (c.requires.ready t) i left)

pub turns-init : goal.turns-init
turns-init g c = record {
  reads = λ s.
      let input = g.S.Source.left c.args.source.now in
      let P : Reading → Type 0 = λ r. IsRead input [] r input in
      ([], subst P (sym c.in-Ok.ensures) (begins-reading input));
  going = λ s stand.
      let w = c.args.session.now.warehouse in
      let slots = meanings g.W.Watcher.says_after c.args.session.now.feed.slots.items in
      let input = g.S.Source.left c.args.source.now in
      let a = g.T.Site.state c.args.site.now in
      let P : Reading → Type 0 = λ r. IsGoing g.T.Site.tells (desk_at w slots) input a false (desk_at w slots) r input a in
      subst P (sym c.in-Ok.ensures) (begins-going c.loads_are_stores.ensures g.T.Site.tells w slots input a (λ u. g.met.T.Site.is_now c.args.site.now u) c.requires.serving stand c.requires.ready);
  paid = λ s stand.
      let d = desk_at c.args.session.now.warehouse (meanings g.W.Watcher.says_after c.args.session.now.feed.slots.items) in
      let input = g.S.Source.left c.args.source.now in
      let P : Reading → Type 0 = λ r. c.args.steps.now + works_on d (asks r.room (rest_of r input)) ≤ c.args.steps.now + works_on d (requests_of input) in
      subst P (sym c.in-Ok.ensures) (pays-first d input c.args.steps.now);
  serving = c.requires.serving;
  clustered = λ stand. stand;
  ready = c.requires.ready;
  joins = λ t. joins_start (g.T.Site.state c.args.site.now) (g.met.T.Site.is_now c.args.site.now t);
  begins = search rules;
  whole = search rules;
  room = search rules;
  source_later = search rules;
  site_later = search rules;
}

pub turns-preserved : goal.turns-preserved
turns-preserved g c = record {
  reads = λ s.
      let input = g.S.Source.left c.args.source.now in
      let left = g.S.Source.left c.turns.source in
      let left' = g.S.Source.left c.next_request.new.source in
      let reads = c.turns.invariant.reads s in
      let source = reads.1.same_source in
      let asked = some-asked c.in-Ok-Some.field-0 c.in-Ok-Some.asked c.turns.reader c.next_request.new.reader left left' c.in-Ok-Some.field-0-is (c.in-Ok-Some.ensures.told s source) in (
        reads.0 ++ asked.0 ∷ [],
        reads-on input reads.0 c.turns.reader c.next_request.new.reader left left' asked.0 reads.1 asked.2 (c.next_request.ensures.same_source s source) c.next_request.ensures.ended,
      );
  going = λ s stand.
      let d = desk_at c.args.session.now.warehouse (meanings g.W.Watcher.says_after c.args.session.now.feed.slots.items) in
      let next = desk_at c.turns.session.warehouse (meanings g.W.Watcher.says_after c.turns.session.feed.slots.items) in
      let last = desk_at c.step.new.self.warehouse (meanings g.W.Watcher.says_after c.step.new.self.feed.slots.items) in
      let input = g.S.Source.left c.args.source.now in
      let a = g.T.Site.state c.args.site.now in
      let b = g.T.Site.state c.turns.site in
      let e = g.T.Site.state c.step.new.site in
      let left = g.S.Source.left c.turns.source in
      let left' = g.S.Source.left c.next_request.new.source in
      let going = c.turns.invariant.going s stand in
      let source = going.read.same_source in
      let asked = some-asked c.in-Ok-Some.field-0 c.in-Ok-Some.asked c.turns.reader c.next_request.new.reader left left' c.in-Ok-Some.field-0-is (c.in-Ok-Some.ensures.told s source) in
      let q = asked.0 in
      let both : c.if-refused.refused ≡ (c.turns.refused || c.in-Ok-step.refuses) =
      elim c.if-refused.branch [
        | then-refused w' ↦ w'.refused-is ∙ w'.if-refused.true ∙ sym (ap (λ (x : Bool). x || c.in-Ok-step.refuses) w'.if-refused.true)
        | else-refused w' ↦ w'.refused-is ∙ sym (ap (λ (x : Bool). x || c.in-Ok-step.refuses) w'.if-refused.false)
      ] in
      let P : Bool → Type 0 = λ x. IsGoing g.T.Site.tells d input a x last c.next_request.new.reader left' e in
      subst P (sym both)
      (goes-on g.T.Site.tells d next last input a b e c.turns.refused c.in-Ok-step.refuses c.turns.reader c.next_request.new.reader left left' q going asked.2
      (c.next_request.ensures.same_source s source) c.next_request.ensures.ended (c.in-Ok-step.ensures.desk (c.turns.invariant.clustered stand) q asked.1) (c.in-Ok-step.ensures.refused (c.turns.invariant.clustered stand) q asked.1)
      (λ t. (c.step.ensures.moments t (c.turns.invariant.clustered stand) q asked.1, c.in-Ok-step.ensures.said t (c.turns.invariant.clustered stand) q asked.1)));
  paid = λ s stand.
      let here = c.turns.invariant.clustered stand in
      let d = desk_at c.turns.session.warehouse (meanings g.W.Watcher.says_after c.turns.session.feed.slots.items) in
      let last = desk_at c.step.new.self.warehouse (meanings g.W.Watcher.says_after c.step.new.self.feed.slots.items) in
      let left = g.S.Source.left c.turns.source in
      let left' = g.S.Source.left c.next_request.new.source in
      let reads = c.turns.invariant.reads s in
      let next = some-asked c.in-Ok-Some.field-0 c.in-Ok-Some.asked c.turns.reader c.next_request.new.reader left left' c.in-Ok-Some.field-0-is (c.in-Ok-Some.ensures.told s reads.1.same_source) in
      pays-on d next.0 (asks c.turns.reader.room (rest_of c.turns.reader left)) (asks c.next_request.new.reader.room (rest_of c.next_request.new.reader left')) c.turns.steps c.step.new.steps _ next.2.asked
      (c.step.ensures.work here next.0 next.1) (c.turns.invariant.paid s stand) last (c.in-Ok-step.ensures.desk here next.0 next.1);
  serving = search rules;
  clustered = λ stand. c.in-Ok-step.ensures.clustered (c.turns.invariant.clustered stand);
  ready = search rules;
  joins = λ t. joins_on (g.T.Site.state c.args.site.now) (g.T.Site.state c.turns.site) (g.T.Site.state c.step.new.site) (c.turns.invariant.joins t) (c.step.ensures.joins t);
  begins = λ t. more-on (g.T.Site.state c.args.site.now).said (g.T.Site.state c.turns.site).said (g.T.Site.state c.step.new.site).said (c.turns.invariant.begins t) (c.step.ensures.begins t);
  whole = search rules;
  room = search rules;
  source_later = search rules;
  site_later = search rules;
}

pub returns-in-Err-step-clause-moments : goal.returns-in-Err-step-clause-moments
returns-in-Err-step-clause-moments g c = λ s t stand.
    let left = g.S.Source.left c.turns.source in
    let left' = g.S.Source.left c.next_request.new.source in
    let going = c.turns.invariant.going s stand in
    let next = some-asked c.in-Ok-Some.field-0 c.in-Ok-Some.asked c.turns.reader c.next_request.new.reader left left' c.in-Ok-Some.field-0-is (c.in-Ok-Some.ensures.told s going.read.same_source) in
    turn-failed g.T.Site.tells (desk_at c.args.session.now.warehouse (meanings g.W.Watcher.says_after c.args.session.now.feed.slots.items)) (desk_at c.turns.session.warehouse (meanings g.W.Watcher.says_after c.turns.session.feed.slots.items)) (g.S.Source.left c.args.source.now) (g.T.Site.state c.args.site.now) (g.T.Site.state c.turns.site) (g.T.Site.state c.step.new.site) c.turns.refused
    c.turns.reader c.next_request.new.reader left left' next.0 t going next.2 (c.step.ensures.moments t (c.turns.invariant.clustered stand) next.0 next.1)

pub returns-in-Err-step-clause-settled : goal.returns-in-Err-step-clause-settled
returns-in-Err-step-clause-settled g c = λ s t stand ended.
    let left = g.S.Source.left c.turns.source in
    let left' = g.S.Source.left c.next_request.new.source in
    let going = c.turns.invariant.going s stand in
    let next = some-asked c.in-Ok-Some.field-0 c.in-Ok-Some.asked c.turns.reader c.next_request.new.reader left left' c.in-Ok-Some.field-0-is (c.in-Ok-Some.ensures.told s going.read.same_source) in
    let memory : c.in-Err-step.status ≡ status.Memory =
    ⊎_elim (λ source. ⊎_elim (λ site. absurd (cc (source, site))) (λ m. m) c.in-Err-step.ensures.status) (λ m. m) ended in
    let was = c.in-Err-step.is ∙ ap Err memory in
    even-out g.T.Site.tells (desk_at c.args.session.now.warehouse (meanings g.W.Watcher.says_after c.args.session.now.feed.slots.items)) (desk_at c.turns.session.warehouse (meanings g.W.Watcher.says_after c.turns.session.feed.slots.items)) (g.S.Source.left c.args.source.now) (g.T.Site.state c.args.site.now) (g.T.Site.state c.turns.site) (g.T.Site.state c.step.new.site) c.turns.refused
    c.turns.reader left t going (c.step.ensures.unsaid t was) (c.step.ensures.unsaved t (c.turns.invariant.clustered stand) next.0 next.1 was)

pub returns-in-Err-step-clause-begins : goal.returns-in-Err-step-clause-begins
returns-in-Err-step-clause-begins g c = λ t. more-on (g.T.Site.state c.args.site.now).said (g.T.Site.state c.turns.site).said (g.T.Site.state c.step.new.site).said (c.turns.invariant.begins t) (c.step.ensures.begins t)

pub returns-in-Err-step-clause-taken : goal.returns-in-Err-step-clause-taken
returns-in-Err-step-clause-taken g c = λ s.
    let reads = c.turns.invariant.reads s in
    taken (g.S.Source.left c.args.source.now) reads.0 c.turns.reader (g.S.Source.left c.turns.source) (g.S.Source.left c.next_request.new.source) reads.1 (c.next_request.ensures.taken s reads.1.same_source)

pub returns-in-Ok-None-clause-answers : goal.returns-in-Ok-None-clause-answers
returns-in-Ok-None-clause-answers g c = λ s t stand fine.
    let left = g.S.Source.left c.turns.source in
    let left' = g.S.Source.left c.next_request.new.source in
    let going = c.turns.invariant.going s stand in
    let none = none-asked c.in-Ok-None.field-0 c.turns.reader c.next_request.new.reader left left' c.in-Ok-None.field-0-is (c.in-Ok-None.ensures.told s going.read.same_source) in
    ends-fine g.T.Site.tells (desk_at c.args.session.now.warehouse (meanings g.W.Watcher.says_after c.args.session.now.feed.slots.items)) (desk_at c.turns.session.warehouse (meanings g.W.Watcher.says_after c.turns.session.feed.slots.items)) (g.S.Source.left c.args.source.now) (g.T.Site.state c.args.site.now) (g.T.Site.state c.turns.site) c.turns.refused c.turns.reader left c.end_of.result t going none.0 none.1 c.end_of.ensures

pub returns-in-Ok-None-clause-end : goal.returns-in-Ok-None-clause-end
returns-in-Ok-None-clause-end g c = λ s t stand fine.
    let left = g.S.Source.left c.turns.source in
    let left' = g.S.Source.left c.next_request.new.source in
    let going = c.turns.invariant.going s stand in
    let none = none-asked c.in-Ok-None.field-0 c.turns.reader c.next_request.new.reader left left' c.in-Ok-None.field-0-is (c.in-Ok-None.ensures.told s going.read.same_source) in
    all-kept c.loads_are_stores.ensures g.T.Site.tells (desk_at c.args.session.now.warehouse (meanings g.W.Watcher.says_after c.args.session.now.feed.slots.items)) c.turns.session.warehouse (meanings g.W.Watcher.says_after c.turns.session.feed.slots.items) (g.S.Source.left c.args.source.now) (g.T.Site.state c.args.site.now) (g.T.Site.state c.turns.site) c.turns.refused c.turns.reader left going none.0
    c.turns.invariant.serving (c.turns.invariant.clustered stand) (g.T.Site.state c.turns.site) (g.met.T.Site.is_now c.turns.site t) (c.turns.invariant.ready t)

pub returns-in-Ok-None-clause-taken : goal.returns-in-Ok-None-clause-taken
returns-in-Ok-None-clause-taken g c = λ s.
    let reads = c.turns.invariant.reads s in
    taken (g.S.Source.left c.args.source.now) reads.0 c.turns.reader (g.S.Source.left c.turns.source) (g.S.Source.left c.next_request.new.source) reads.1 (c.next_request.ensures.taken s reads.1.same_source)

pub returns-in-Err-clause-answers : goal.returns-in-Err-clause-answers
returns-in-Err-clause-answers g c = λ s t stand fine.
    let left = g.S.Source.left c.turns.source in
    let left' = g.S.Source.left c.next_request.new.source in
    let going = c.turns.invariant.going s stand in
    let ended = too-long-only c.break_off.result c.break_off.ensures.status fine in
    let much = too-much c.in-Err.fault c.turns.reader c.next_request.new.reader left left' (c.break_off.ensures.too_long ended) (c.in-Err.ensures.told s going.read.same_source) in
    ends-too-long g.T.Site.tells (desk_at c.args.session.now.warehouse (meanings g.W.Watcher.says_after c.args.session.now.feed.slots.items)) (desk_at c.turns.session.warehouse (meanings g.W.Watcher.says_after c.turns.session.feed.slots.items)) (g.S.Source.left c.args.source.now) (g.T.Site.state c.args.site.now) (g.T.Site.state c.turns.site) (g.T.Site.state c.break_off.new.site) c.turns.refused
    c.turns.reader left c.break_off.result t going much.0 much.1 ended (c.break_off.ensures.said t ended)

pub returns-in-Err-clause-whole : goal.returns-in-Err-clause-whole
returns-in-Err-clause-whole g c = λ s t stand source.
    let left = g.S.Source.left c.turns.source in
    let left' = g.S.Source.left c.next_request.new.source in
    let going = c.turns.invariant.going s stand in
    let fault = c.break_off.ensures.source source in
    let still = c.break_off.ensures.still (λ e. absurd (cc (fault, e))) in
    let broken = broken-off c.in-Err.fault c.turns.reader c.next_request.new.reader left left' fault (c.in-Err.ensures.told s going.read.same_source) in
    let P : g.row.T.Denot → Type 0 = λ x. IsCutOff (desk_at c.args.session.now.warehouse (meanings g.W.Watcher.says_after c.args.session.now.feed.slots.items)) (g.S.Source.left c.args.source.now) left' (g.T.Site.state c.args.site.now) (g.T.Site.state x) in
    subst P (sym still)
    (cut-off g.T.Site.tells (desk_at c.args.session.now.warehouse (meanings g.W.Watcher.says_after c.args.session.now.feed.slots.items)) (desk_at c.turns.session.warehouse (meanings g.W.Watcher.says_after c.turns.session.feed.slots.items)) (g.S.Source.left c.args.source.now) (g.T.Site.state c.args.site.now) (g.T.Site.state c.turns.site) c.turns.refused c.turns.reader left left' t going broken)

pub returns-in-Err-clause-moments : goal.returns-in-Err-clause-moments
returns-in-Err-clause-moments g c = λ s t stand.
    let left = g.S.Source.left c.turns.source in
    let left' = g.S.Source.left c.next_request.new.source in
    let going = c.turns.invariant.going s stand in
    let input = g.S.Source.left c.args.source.now in
    let a = g.T.Site.state c.args.site.now in
    ⊎_elim
    (λ fault.
    let much = too-much c.in-Err.fault c.turns.reader c.next_request.new.reader left left' fault (c.in-Err.ensures.told s going.read.same_source) in
    too-long-moments c.loads_are_stores.ensures g.T.Site.tells (desk_at c.args.session.now.warehouse (meanings g.W.Watcher.says_after c.args.session.now.feed.slots.items)) c.turns.session.warehouse (meanings g.W.Watcher.says_after c.turns.session.feed.slots.items) input a (g.T.Site.state c.turns.site) (g.T.Site.state c.break_off.new.site) c.turns.refused
    c.turns.reader left t going much.0 much.1 c.turns.invariant.serving (c.turns.invariant.clustered stand) (c.turns.invariant.ready t) (c.break_off.ensures.moments t))
    (λ other.
    let P : g.row.T.Denot → Type 0 = λ x. Safe a (g.T.Site.state x) (IsTalk (desk_at c.args.session.now.warehouse (meanings g.W.Watcher.says_after c.args.session.now.feed.slots.items)) input a) in
    subst P (sym (c.break_off.ensures.still other)) (going.told t).safe)
    (is-too-much c.in-Err.fault)

pub returns-in-Err-clause-end : goal.returns-in-Err-clause-end
returns-in-Err-clause-end g c = λ s t stand fine.
    let left = g.S.Source.left c.turns.source in
    let left' = g.S.Source.left c.next_request.new.source in
    let going = c.turns.invariant.going s stand in
    let ended = too-long-only c.break_off.result c.break_off.ensures.status fine in
    let much = too-much c.in-Err.fault c.turns.reader c.next_request.new.reader left left' (c.break_off.ensures.too_long ended) (c.in-Err.ensures.told s going.read.same_source) in
    let b = g.T.Site.state c.turns.site in
    let d = g.T.Site.state c.break_off.new.site in
    all-kept c.loads_are_stores.ensures g.T.Site.tells (desk_at c.args.session.now.warehouse (meanings g.W.Watcher.says_after c.args.session.now.feed.slots.items)) c.turns.session.warehouse (meanings g.W.Watcher.says_after c.turns.session.feed.slots.items) (g.S.Source.left c.args.source.now) (g.T.Site.state c.args.site.now) b c.turns.refused c.turns.reader left going much.0
    c.turns.invariant.serving (c.turns.invariant.clustered stand) d (g.met.T.Site.is_now c.break_off.new.site t) (holds-on c.turns.session.warehouse.pages b d (c.turns.invariant.ready t) (c.break_off.ensures.alone t))

pub returns-in-Err-clause-settled : goal.returns-in-Err-clause-settled
returns-in-Err-clause-settled g c = λ s t stand ended.
    let left = g.S.Source.left c.turns.source in
    let going = c.turns.invariant.going s stand in
    let input = g.S.Source.left c.args.source.now in
    let a = g.T.Site.state c.args.site.now in
    let b = g.T.Site.state c.turns.site in
    let still = c.break_off.ensures.still (λ e. ⊎_elim
    (λ source. let fault = c.break_off.ensures.source source in absurd (cc (fault, e)))
    (λ memory. let fault = c.break_off.ensures.memory memory in absurd (cc (fault, e)))
    ended) in
    let P : g.row.T.Denot → Type 0 = λ x. IsEven (desk_at c.args.session.now.warehouse (meanings g.W.Watcher.says_after c.args.session.now.feed.slots.items)) input a (g.T.Site.state x) in
    subst P (sym still)
    (even-out g.T.Site.tells (desk_at c.args.session.now.warehouse (meanings g.W.Watcher.says_after c.args.session.now.feed.slots.items)) (desk_at c.turns.session.warehouse (meanings g.W.Watcher.says_after c.turns.session.feed.slots.items)) input a b b c.turns.refused c.turns.reader left t going refl
    (λ i left'. rest-store c.loads_are_stores.ensures c.turns.session.warehouse b c.turns.invariant.serving (c.turns.invariant.clustered stand) (c.turns.invariant.ready t) i left'))

pub returns-in-Err-clause-begins : goal.returns-in-Err-clause-begins
returns-in-Err-clause-begins g c = λ t. more-on (g.T.Site.state c.args.site.now).said (g.T.Site.state c.turns.site).said (g.T.Site.state c.break_off.new.site).said (c.turns.invariant.begins t) (c.break_off.ensures.begins t)

pub returns-in-Err-clause-taken : goal.returns-in-Err-clause-taken
returns-in-Err-clause-taken g c = λ s.
    let reads = c.turns.invariant.reads s in
    taken (g.S.Source.left c.args.source.now) reads.0 c.turns.reader (g.S.Source.left c.turns.source) (g.S.Source.left c.next_request.new.source) reads.1 (c.next_request.ensures.taken s reads.1.same_source)

pub returns-in-Err-step-clause-joins : goal.returns-in-Err-step-clause-joins
returns-in-Err-step-clause-joins g c = λ t. joins_on (g.T.Site.state c.args.site.now) (g.T.Site.state c.turns.site) (g.T.Site.state c.step.new.site) (c.turns.invariant.joins t) (c.step.ensures.joins t)

pub returns-in-Err-clause-joins : goal.returns-in-Err-clause-joins
returns-in-Err-clause-joins g c = λ t. joins_on (g.T.Site.state c.args.site.now) (g.T.Site.state c.turns.site) (g.T.Site.state c.break_off.new.site) (c.turns.invariant.joins t) (c.break_off.ensures.alone t).joins

pub returns-in_default-clause-joins : goal.returns-in_default-clause-joins
returns-in_default-clause-joins g c = λ t. joins_start (g.T.Site.state c.args.site.now) (g.met.T.Site.is_now c.args.site.now t)

pub returns-in-Err-step-clause-work : goal.returns-in-Err-step-clause-work
returns-in-Err-step-clause-work g c = λ s stand.
    let here = c.turns.invariant.clustered stand in
    let d = desk_at c.turns.session.warehouse (meanings g.W.Watcher.says_after c.turns.session.feed.slots.items) in
    let left = g.S.Source.left c.turns.source in
    let left' = g.S.Source.left c.next_request.new.source in
    let reads = c.turns.invariant.reads s in
    let next = some-asked c.in-Ok-Some.field-0 c.in-Ok-Some.asked c.turns.reader c.next_request.new.reader left left' c.in-Ok-Some.field-0-is (c.in-Ok-Some.ensures.told s reads.1.same_source) in
    pays-last d next.0 (asks c.turns.reader.room (rest_of c.turns.reader left)) (asks c.next_request.new.reader.room (rest_of c.next_request.new.reader left')) c.turns.steps c.step.new.steps _ next.2.asked
    (c.step.ensures.work here next.0 next.1) (c.turns.invariant.paid s stand)

pub returns-in-Ok-None-clause-work : goal.returns-in-Ok-None-clause-work
returns-in-Ok-None-clause-work g c = λ s stand. let paid = c.turns.invariant.paid s stand in omega (arith, paid)

pub returns-in-Err-clause-work : goal.returns-in-Err-clause-work
returns-in-Err-clause-work g c = λ s stand. let paid = c.turns.invariant.paid s stand in omega (arith, paid)

pub returns-in_default-clause-work : goal.returns-in_default-clause-work
returns-in_default-clause-work g c = λ s stand. omega arith
