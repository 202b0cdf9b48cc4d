use Rattle.std.proofs.Common.{◌≡◌, ◌+◌, drop, sym, ap, subst, ◌∙◌, arith}
use Rattle.std.specs.FinMap as map
use Rattle.vec_record.specs.Held.{Held}
use Rattle.kept_clusters.specs.Kept.{Kept, no_records, Stand}
use Rattle.kept_clusters.specs.inside.Moving.{AreMoving}
use Rattle.kept_clusters.proofs.Moving.{start, may_add, step, all_moved, from_place, few_numbers}
use Rattle.kept_clusters.proofs.building.build.Goals as goal

pub loop-number-init : goal.loop-number-init
loop-number-init g c =
    let all = c.args.records in
    let none : c.new.result ≡ no_records all.width = c.new.ensures ∙ ap no_records c.width-width.ensures.value in
    let numbers : c.deref-number-items.result.now ≡ map.keys all.vectors = c.deref-number-items.ensures.value ∙ c.into_vec-numbers.ensures ∙ c.in_ok-numbers.ensures.numbers in
    let P : Held → Type 0 = λ h. AreMoving all all h 0 c.deref-number-items.result.now in
    let Q : Held → Type 0 = λ h. Stand g.M.Metric.dist h c.new-2.result in
    record {
      moving = subst P (sym none) (subst (AreMoving all all (no_records all.width) 0) (sym numbers) (start all));
      stands = subst Q (sym c.new.ensures) c.new-2.ensures.stands;
      eps = ap (λ (k : Kept). k.eps) c.new-2.ensures.nothing;
      minpts = ap (λ (k : Kept). k.counts.minpts) c.new-2.ensures.nothing;
    }

pub take_over-requires-clause-apart : goal.take_over-requires-clause-apart
take_over-requires-clause-apart g c = λ there.
    may_add (from_place c.args.records c.loop-number.records c.loop-number.built.records c.loop-number.number-index c.deref-number-items.result.now c.loop-number-test.true c.loop-number.invariant.moving) there

pub take_over-requires-clause-room : goal.take_over-requires-clause-room
take_over-requires-clause-room g c =
    let numbers : c.deref-number-items.result.now ≡ map.keys c.args.records.vectors = c.deref-number-items.ensures.value ∙ c.into_vec-numbers.ensures ∙ c.in_ok-numbers.ensures.numbers in
    let many = few_numbers c.args.records c.deref-number-items.result.now numbers in
    omega (arith, many, c.loop-number.invariant.moving.few, c.loop-number-test.true, c.requires)

pub loop-number-preserved : goal.loop-number-preserved
loop-number-preserved g c =
    let all = c.args.records in
    let done = c.in_ok-take_over.ensures in
    let numbers = c.deref-number-items.result.now in
    let i = c.loop-number.number-index in
    let before = from_place all c.loop-number.records c.loop-number.built.records i numbers c.loop-number-test.true c.loop-number.invariant.moving in
    let P : Held → Type 0 = λ h. AreMoving all h c.take_over.new.self.records (i + 1) (drop (i + 1) numbers) in
    record {
      moving = subst P (sym c.take_over.ensures.others) (step before c.take_over.new.self.records done.own);
      stands = done.stands;
      eps = done.setting.eps ∙ c.loop-number.invariant.eps;
      minpts = done.setting.minpts ∙ c.loop-number.invariant.minpts;
    }

pub returns-clause-records : goal.returns-clause-records
returns-clause-records g c =
    all_moved c.args.records c.loop-number.records c.loop-number.built.records c.loop-number.number-index c.deref-number-items.result.now c.loop-number-test.false c.loop-number.invariant.moving
