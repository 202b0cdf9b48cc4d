use Rattle.std.proofs.Common.{◌≤◌, ◌+◌, OnOk, subst}
use Rattle.plain_dbscan.specs.Marks.{density}
use Rattle.delete_case.specs.Told.{AreCasesTold}
use Rattle.kept_clusters.specs.Kept.{Kept, density_in, Fit, Stand}
use Rattle.kept_clusters.specs.Paid.{IsInsertionPaid}
use Rattle.kept_clusters.specs.Work.{insertion_work}
use Rattle.kept_clusters.proofs.Told.{inserted_cases}
use Rattle.kept_clusters.proofs.Changing.{both_ok, insertion_paid, insertion_worked}
use Rattle.kept_clusters.proofs.clusters.Clusters.insert.Goals as goal

pub returns-clause-events : goal.returns-clause-events
returns-clause-events g c =
    let dist = g.M.Metric.dist in
    let done = c.insert_change-done in
    let records = c.args.records.now in
    let P : Kept → Type 0 = λ k. Stand dist records k → OnOk done.result (AreCasesTold (density_in dist k) records.vectors done.new.records.vectors c.args.out.now done.new.out) in
    subst P c.self.view_is (λ stands. both_ok done.result
    (inserted_cases (density dist c.self.inside.eps c.self.inside.counts.minpts) records done.new.records c.args.number c.args.vector c.requires.pair.absent c.args.out.now done.new.out)
    done.ensures.records (done.ensures.told stands))

pub returns-clause-work : goal.returns-clause-work
returns-clause-work g c =
    let dist = g.M.Metric.dist in
    let done = c.insert_change-done in
    let records = c.args.records.now in
    let kept : Kept = record { eps = c.self.inside.eps; tree = c.self.inside.index; counts = c.self.inside.counts; labels = c.self.inside.labels } in
    let P : Kept → Type 0 = λ k. Fit records k → Stand dist records k → done.new.steps ≤ c.args.steps.now + insertion_work (density_in dist k) records c.args.number c.args.vector in
    subst P c.self.view_is (λ fits stands. insertion_worked done.result dist g.M.Metric.most kept done.new.index records c.args.steps.now done.new.steps c.args.number c.args.vector fits.held
    done.ensures.index done.ensures.index_err (done.ensures.price stands) (done.ensures.price_err stands) c.queries_are_cheap.ensures c.root.ensures.lawful) c.requires.fits

pub returns-clause-price : goal.returns-clause-price
returns-clause-price g c =
    let dist = g.M.Metric.dist in
    let done = c.insert_change-done in
    let records = c.args.records.now in
    let kept : Kept = record { eps = c.self.inside.eps; tree = c.self.inside.index; counts = c.self.inside.counts; labels = c.self.inside.labels } in
    let P : Kept → Type 0 = λ k. Fit records k → Stand dist records k → IsInsertionPaid g.M.Metric.most (density_in dist k) k.tree records c.args.number c.args.vector c.args.steps.now done.new.steps in
    subst P c.self.view_is (λ fits stands. insertion_paid done.result dist g.M.Metric.most kept done.new.index records c.args.steps.now done.new.steps c.args.number c.args.vector fits.held
    done.ensures.index done.ensures.index_err (done.ensures.price stands) (done.ensures.price_err stands)) c.requires.fits
