use Rattle.std.proofs.Common.{◌≡◌, ap, subst, ◌∙◌}
use Rattle.cluster_report.specs.Counts.{summary_of}
use Rattle.kept_clusters.specs.Kept.{Kept, marks_in, Stand}
use Rattle.kept_clusters.proofs.Looked.{marks_are}
use Rattle.kept_clusters.proofs.clusters.Clusters.summary.Goals as goal

pub returns : goal.returns
returns g c =
    let dist = g.M.Metric.dist in
    let records = c.args.records.now in
    let P : Kept → Type 0 = λ k. Stand dist records k → c.count_marks.result ≡ summary_of (marks_in dist k records.vectors) in
    subst P c.self.view_is (λ stands. c.count_marks.ensures ∙ ap summary_of (marks_are stands))
