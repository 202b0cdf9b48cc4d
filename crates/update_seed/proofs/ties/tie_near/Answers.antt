use Rattle.std.proofs.Common.{sym, ap, ◌∙◌, is_some}
use Rattle.std.proofs.lemmas.Result.{on_ok_weaker}
use Rattle.update_seed.proofs.Nearby.{by_label, by_itself, offered_one, un_named, is_named}
use Rattle.update_seed.proofs.ties.tie_near.Goals as goal

pub returns-in-Some-clause-ties : goal.returns-in-Some-clause-ties
returns-in-Some-clause-ties c =
    on_ok_weaker c.tie.result
    (by_label c.args.labels.now c.args.ties.now c.tie.new.ties c.in-Some.ensures.least c.args.core c.args.near c.in-Some.label (sym c.in-Some.ensures.value))
    c.tie.ensures

pub returns-then-is_some-clause-ties : goal.returns-then-is_some-clause-ties
returns-then-is_some-clause-ties c =
    let there = is_named c.args.ties.now c.args.near c.is_some.result c.label_of-in-None.result c.label_of-in-None.ensures.value c.is_some.ensures c.if-is_some.true in
    on_ok_weaker c.tie-then-is_some.result
    (by_itself c.args.labels.now c.args.ties.now c.tie-then-is_some.new.ties c.in-None.ensures.least c.args.core c.args.near (sym c.in-None.ensures.value) there)
    c.tie-then-is_some.ensures

pub returns-else-is_some-clause-counts : goal.returns-else-is_some-clause-counts
returns-else-is_some-clause-counts c =
    offered_one c.args.labels.now c.args.ties.now c.args.core c.args.near c.args.counts.now c.offer_anchor.new.self
    (un_named c.args.labels.now c.args.ties.now c.args.near c.is_some.result (sym c.in-None.ensures.value) (c.is_some.ensures ∙ ap is_some c.label_of-in-None.ensures.value) c.if-is_some.false)
    c.offer_anchor.ensures
