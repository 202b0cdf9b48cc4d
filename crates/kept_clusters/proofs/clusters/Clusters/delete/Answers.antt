use Rattle.std.proofs.Common.{◌≤◌, ◌+◌, subst}
use Rattle.kept_clusters.specs.Kept.{Kept, density_in, Fit, Stand}
use Rattle.kept_clusters.specs.Paid.{IsDeletionPaid}
use Rattle.kept_clusters.specs.Work.{deletion_work}
use Rattle.kept_clusters.proofs.Changing.{deletion_paid, deletion_worked}
use Rattle.kept_clusters.proofs.clusters.Clusters.delete.Goals as goal

pub returns-clause-price : goal.returns-clause-price
returns-clause-price g c =
    let dist = g.M.Metric.dist in
    let done = c.delete_change-done in
    let records = c.args.records.now in
    let kept : Kept = record { eps = c.self.inside.eps; tree = c.self.inside.index; counts = c.self.inside.counts; labels = c.self.inside.labels } in
    let P : Kept → Type 0 = λ k. Fit records k → Stand dist records k → IsDeletionPaid g.M.Metric.most (density_in dist k) k.tree records c.args.number c.args.steps.now done.new.steps in
    subst P c.self.view_is (λ fits stands. deletion_paid done.result dist g.M.Metric.most kept done.new.index records c.args.steps.now done.new.steps c.args.number fits.held
    done.ensures.index done.ensures.index_err (done.ensures.price stands) (done.ensures.price_err stands)) c.requires.fits

pub returns-clause-work : goal.returns-clause-work
returns-clause-work g c =
    let dist = g.M.Metric.dist in
    let done = c.delete_change-done in
    let records = c.args.records.now in
    let kept : Kept = record { eps = c.self.inside.eps; tree = c.self.inside.index; counts = c.self.inside.counts; labels = c.self.inside.labels } in
    let P : Kept → Type 0 = λ k. Fit records k → Stand dist records k → done.new.steps ≤ c.args.steps.now + deletion_work (density_in dist k) records c.args.number in
    subst P c.self.view_is (λ fits stands. deletion_worked done.result dist g.M.Metric.most kept done.new.index records c.args.steps.now done.new.steps c.args.number fits.held
    done.ensures.index done.ensures.index_err (done.ensures.price stands) (done.ensures.price_err stands) c.requires.there c.queries_are_cheap.ensures c.root.ensures.lawful c.root-2.ensures.lawful) c.requires.fits
