use Rattle.std.proofs.lemmas.Result.{err_from_is_err_and}
use Rattle.session_desk.proofs.Serving.{params-fail}
use Rattle.session_desk.proofs.serve.load.Goals as goal

pub returns-in_err-read_params-clause-loaded : goal.returns-in_err-read_params-clause-loaded
returns-in_err-read_params-clause-loaded g c =
    let p = err_from_is_err_and c.from_residual.result c.from_residual.ensures.1 in
    rw (p.1, p.2) (params-fail c.args.pages.list c.in_err-read_params.field-0.0 c.in_err-read_params.ensures.params)
