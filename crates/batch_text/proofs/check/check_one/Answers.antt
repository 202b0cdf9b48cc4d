use Rattle.std.proofs.lemmas.Result.{on_ok_weaker, IfErr-weaker}
use Rattle.batch_text.proofs.check.check_one.Goals as goal

pub returns-in-Insert-clause-ok : goal.returns-in-Insert-clause-ok
returns-in-Insert-clause-ok c = rw c.in-Insert.is (on_ok_weaker c.check_insertion.result (λ goes now h. goes now c.in-Insert.field-1 h) c.check_insertion.ensures.ok)

pub returns-in-Insert-clause-err : goal.returns-in-Insert-clause-err
returns-in-Insert-clause-err c = rw c.in-Insert.is (IfErr-weaker c.check_insertion.result _ _ (λ e why now h. why now c.in-Insert.field-1 h) c.check_insertion.ensures.err)

pub returns-in-Delete-clause-ok : goal.returns-in-Delete-clause-ok
returns-in-Delete-clause-ok c = rw c.in-Delete.is c.check_deletion.ensures.ok

pub returns-in-Delete-clause-err : goal.returns-in-Delete-clause-err
returns-in-Delete-clause-err c = rw c.in-Delete.is c.check_deletion.ensures.err
