use Rattle.std.proofs.Common.{◌≡◌, ◌∙◌, sym, rules, true, false}
use Rattle.std.specs.Option.{is_none}
use Rattle.batch_text.proofs.Cut.{take_bad, take_good, take_late}
use Rattle.batch_text.proofs.read.take_row.Goals as goal

pub returns-in_ok-push-in-Ok : goal.returns-in_ok-push-in-Ok
returns-in_ok-push-in-Ok c done h =
    let free : is_none c.args.batch.now.fault ≡ true = search rules in
    take_good _ _ done _ c.args.batch.now c.in-Ok.change c.push.new.self h free (sym c.in_ok-change.ensures ∙ c.in-Ok.is) c.in_ok-push-in-Ok.ensures.ok

pub returns-in-Err : goal.returns-in-Err
returns-in-Err c done h =
    let free : is_none c.args.batch.now.fault ≡ true = search rules in
    take_bad _ _ done _ c.args.batch.now c.in-Err.fault h free (sym c.in_ok-change.ensures ∙ c.in-Err.is)

pub returns-else-is_none : goal.returns-else-is_none
returns-else-is_none c done h =
    let late : is_none c.args.batch.now.fault ≡ false = search rules in
    take_late _ _ done _ c.args.batch.now h late
