use Rattle.std.proofs.Common.{◌≡◌, IfOk, subst, ◌∙◌}
use Rattle.std.proofs.lemmas.Result.{IfOk-weaker}
use Rattle.plain_dbscan.specs.Cases.{Listed}
use Rattle.kept_clusters.specs.Kept.{Kept, marks_in, Stand}
use Rattle.kept_clusters.proofs.Looked.{marks_are}
use Rattle.kept_clusters.proofs.clusters.Clusters.marks.Goals as goal

pub returns : goal.returns
returns g c =
    let dist = g.M.Metric.dist in
    let records = c.args.records.now in
    let P : Kept → Type 0 = λ k. Stand dist records k → IfOk c.list_marks.result (λ (marks : Listed). marks ≡ marks_in dist k records.vectors) in
    subst P c.self.view_is (λ stands. IfOk-weaker c.list_marks.result _ _ (λ marks is. is ∙ marks_are stands) c.list_marks.ensures)
