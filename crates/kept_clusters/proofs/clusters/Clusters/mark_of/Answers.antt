use Rattle.std.proofs.Common.{◌≡◌, Some, ap, subst, ◌∙◌}
use Rattle.vec_record.specs.Held.{Held}
use Rattle.kept_clusters.specs.Kept.{Kept, density_in, Stand}
use Rattle.kept_clusters.specs.Asked.{mark_due}
use Rattle.kept_clusters.proofs.Looked.{counted_there, due_there}
use Rattle.kept_clusters.proofs.clusters.Clusters.mark_of.Goals as goal

pub returns-in-Some : goal.returns-in-Some
returns-in-Some g c =
    let dist = g.M.Metric.dist in
    let P : Kept → Type 0 = λ k. (records : Held) → Stand dist records k → Some c.look_up.result ≡ mark_due (density_in dist k) records.vectors c.args.number in
    subst P c.self.view_is (λ records stands. ap (λ m. Some m) c.look_up.ensures ∙ due_there stands c.args.number (counted_there _ _ c.in-Some.ensures))
