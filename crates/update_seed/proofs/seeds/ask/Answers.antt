use Rattle.std.proofs.Common.{◌∙◌, sym, ap}
use Rattle.std.proofs.lemmas.Result.{on_ok_weaker}
use Rattle.plain_dbscan.specs.Index.{near}
use Rattle.plain_dbscan.specs.Marks.{density}
use Rattle.plain_dbscan.proofs.Lawful.{index_near}
use Rattle.update_seed.proofs.seeds.ask.Goals as goal

pub returns-in-Some-clause-near : goal.returns-in-Some-clause-near
returns-in-Some-clause-near g c =
    let dist = g.M.Metric.dist in
    let rows = c.args.records.now.vectors in
    let v = c.in-Some.vector.now in
    on_ok_weaker c.range.result
    (λ e. e ∙ ap (λ m. near dist m v c.args.eps) c.requires.index.same_pairs ∙ index_near (density dist c.args.eps 1) rows c.args.number v (sym c.in-Some.ensures.value))
    c.range.ensures.found
