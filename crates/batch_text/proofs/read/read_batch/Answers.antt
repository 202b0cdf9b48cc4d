use Rattle.std.proofs.lemmas.Result.{IfOk-weaker}
use Rattle.std.proofs.Common.{take}
use Rattle.batch_text.specs.Records.{records_of}
use Rattle.batch_text.proofs.Fitting.{told_fits, told_places, told_spelled, told_total, told_whole}
use Rattle.batch_text.proofs.read.read_batch.Goals as goal

pub returns-clause-total : goal.returns-clause-total
returns-clause-total c = IfOk-weaker c.read_rows.result _ _ (λ b e. told_total c.args.params.now.metric c.args.params.now.dim (records_of c.args.body.now) b e) c.read_rows.ensures

pub returns-clause-whole : goal.returns-clause-whole
returns-clause-whole c = IfOk-weaker c.read_rows.result _ _ (λ b e. told_whole c.args.params.now.metric c.args.params.now.dim (records_of c.args.body.now) b e) c.read_rows.ensures

pub returns-clause-fits : goal.returns-clause-fits
returns-clause-fits c = IfOk-weaker c.read_rows.result _ _ (λ b e. told_fits c.args.params.now.metric c.args.params.now.dim (take 100001 (records_of c.args.body.now)) b e) c.read_rows.ensures

pub returns-clause-spelled : goal.returns-clause-spelled
returns-clause-spelled c = IfOk-weaker c.read_rows.result _ _ (λ b e. told_spelled c.args.params.now.metric c.args.params.now.dim (take 100001 (records_of c.args.body.now)) b e) c.read_rows.ensures

pub returns-clause-places : goal.returns-clause-places
returns-clause-places c = IfOk-weaker c.read_rows.result _ _ (λ b e. told_places c.args.params.now.metric c.args.params.now.dim (take 100001 (records_of c.args.body.now)) b e) c.read_rows.ensures
