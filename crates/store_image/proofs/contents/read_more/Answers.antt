use Rattle.std.proofs.Common.{sym, ◌∙◌, ap, ◌+◌}
use Rattle.std.proofs.lemmas.Result.{err_from_is_err_and}
use Rattle.page_layout.specs.Heads.{values_of}
use Rattle.store_image.specs.inside.Reads.{bodies_behind}
use Rattle.store_image.proofs.LoadReading.{behind_more, behind_fails}
use Rattle.store_image.proofs.contents.read_more.Goals as goal

pub returns-in_err-body-clause-more : goal.returns-in_err-body-clause-more
returns-in_err-body-clause-more c = λ pages.
    let p = err_from_is_err_and c.from_residual.result c.from_residual.ensures.1 in
    rw (p.1, p.2) (behind_fails (values_of c.args.params.now) c.args.number c.args.page.now pages c.args.bodies.now.items _ c.in_err-body.ensures.body)

pub returns-clause-more : goal.returns-clause-more
returns-clause-more c = λ pages.
    behind_more (values_of c.args.params.now) c.args.number c.args.page.now pages c.args.bodies.now.items c.in_ok-body.body c.in_ok-body.ensures.body
    ∙ ap (bodies_behind (values_of c.args.params.now) (c.args.number + 1) pages) (sym c.in_ok-push.ensures)
