use Rattle.std.proofs.Common.{ap, refl, ◌+◌}
use Rattle.batch_text.specs.After.{after_from}
use Rattle.batch_text.specs.declared.check.Standing.{Standing}
use Rattle.batch_text.proofs.Steps.{first_left, goes_on, stands_first}
use Rattle.batch_text.proofs.check.check_batch.Goals as goal

pub loop-change-init : goal.loop-change-init
loop-change-init c =
    let s : Standing = record { marks = c.new.result; count = c.len.result } in
    (refl, (c.args.records.now.vectors, stands_first c.args.records.now.vectors s c.new.ensures.empty c.len.ensures, ap (after_from 1 c.args.params.now.cap c.args.records.now.vectors) c.as_slice-change-items.ensures))

pub loop-change-preserved : goal.loop-change-preserved
loop-change-preserved c =
    let i = c.loop-change.change-index in
    let items = c.as_slice-change-items.result.now in
    let here = first_left items i c.change-item.result c.change-item.is c.loop-change-test.true in
    let (place, (now, stands, same)) = c.loop-change.invariant in
    (ap (λ n. n + 1) place, goes_on c.args.records.now.vectors now c.check_one.new.standing (c.loop-change.place + 1) i c.args.params.now.cap items c.change-item.result _ here (c.in_ok-check_one.ensures.ok now stands) same)
