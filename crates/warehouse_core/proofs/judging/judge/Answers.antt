use Rattle.std.proofs.Common.{◌∙◌, ◌≤◌, length}
use Rattle.std.proofs.lemmas.Result.{IfOk-weaker, IfErr-weaker}
use Rattle.page_layout.specs.Heads.{values_of}
use Rattle.batch_text.specs.Records.{records_of}
use Rattle.warehouse_core.proofs.Judged.{by_records, counted_few, counted_many, too_many, used_up}
use Rattle.warehouse_core.proofs.judging.judge.Goals as goal

pub returns-then-batch-gt-MOST_RECORDS-clause-err : goal.returns-then-batch-gt-MOST_RECORDS-clause-err
returns-then-batch-gt-MOST_RECORDS-clause-err c = λ numbered.
    too_many (values_of c.args.params.now) c.args.batches c.args.records.now.vectors c.args.body.now (counted_many (length (records_of c.args.body.now)) _ c.in_ok-batch.ensures.total c.if-batch-gt-MOST_RECORDS.true)

pub returns-then-batches-eq4294967295-clause-err : goal.returns-then-batches-eq4294967295-clause-err
returns-then-batches-eq4294967295-clause-err c = λ numbered.
    used_up (values_of c.args.params.now) c.args.batches c.args.records.now.vectors c.args.body.now (counted_few (length (records_of c.args.body.now)) _ c.in_ok-batch.ensures.total c.if-batch-gt-MOST_RECORDS.false) c.if-batches-eq4294967295.true

pub returns-clause-ok : goal.returns-clause-ok
returns-clause-ok c =
    let few : length (records_of c.args.body.now) ≤ 100000 = counted_few (length (records_of c.args.body.now)) _ c.in_ok-batch.ensures.total c.if-batch-gt-MOST_RECORDS.false in
    let by = by_records (values_of c.args.params.now) c.args.batches c.args.records.now.vectors c.args.body.now _ few c.if-batches-eq4294967295.false (c.in_ok-batch.ensures.whole c.if-batch-gt-MOST_RECORDS.false) in
    IfOk-weaker c.judge_records.result _ _ (λ changes e. by ∙ e) c.judge_records.ensures.ok

pub returns-clause-err : goal.returns-clause-err
returns-clause-err c =
    let few : length (records_of c.args.body.now) ≤ 100000 = counted_few (length (records_of c.args.body.now)) _ c.in_ok-batch.ensures.total c.if-batch-gt-MOST_RECORDS.false in
    let by = by_records (values_of c.args.params.now) c.args.batches c.args.records.now.vectors c.args.body.now _ few c.if-batches-eq4294967295.false (c.in_ok-batch.ensures.whole c.if-batch-gt-MOST_RECORDS.false) in
    IfErr-weaker c.judge_records.result _ _ (λ e h numbered. by ∙ h numbered) c.judge_records.ensures.err
