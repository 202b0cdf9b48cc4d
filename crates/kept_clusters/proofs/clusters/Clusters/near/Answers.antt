use Rattle.std.proofs.Common.{◌≡◌, sym, ap, subst, ◌∙◌}
use Rattle.std.specs.FinMap as map
use Rattle.vec_record.specs.Held.{Rows}
use Rattle.plain_dbscan.specs.Index.{near}
use Rattle.plain_dbscan.specs.Marks.{density, near_of}
use Rattle.mtree_index.specs.Tree.{contents}
use Rattle.kept_clusters.specs.Kept.{Kept, density_in, Fit}
use Rattle.kept_clusters.proofs.Cheap.{few_steps}
use Rattle.kept_clusters.proofs.clusters.Clusters.near.Goals as goal

pub returns-in_err-range-clause-few : goal.returns-in_err-range-clause-few
returns-in_err-range-clause-few g c =
    let dist = g.M.Metric.dist in
    let rows = c.args.records.now.vectors in
    let same : contents c.self.inside.index ≡ rows = ap (λ (k : Kept). contents k.tree) c.self.view_is ∙ c.requires.held.same_pairs in
    few_steps dist g.M.Metric.most c.self.inside.index c.queries_are_cheap.ensures c.root.ensures.lawful rows same c.in-Some.vector.now c.self.inside.eps c.args.steps.now c.range.new.steps c.range.ensures.at_most

pub returns-clause-few : goal.returns-clause-few
returns-clause-few g c =
    let dist = g.M.Metric.dist in
    let rows = c.args.records.now.vectors in
    let same : contents c.self.inside.index ≡ rows = ap (λ (k : Kept). contents k.tree) c.self.view_is ∙ c.requires.held.same_pairs in
    few_steps dist g.M.Metric.most c.self.inside.index c.queries_are_cheap.ensures c.root.ensures.lawful rows same c.in-Some.vector.now c.self.inside.eps c.args.steps.now c.range.new.steps c.range.ensures.at_most

pub returns-clause-found : goal.returns-clause-found
returns-clause-found g c =
    let dist = g.M.Metric.dist in
    let rows = c.args.records.now.vectors in
    let v = c.in-Some.vector.now in
    let eps = c.self.inside.eps in
    let P : Kept → Type 0 = λ k. Fit c.args.records.now k → c.range.new.out ≡ near_of (density_in dist k) (map.entries rows) c.args.number in
    λ same. subst P c.self.view_is (λ fits. c.in_ok-range.ensures.found ∙ ap (λ (m : Rows). near dist m v eps) fits.held.same_pairs
    ∙ c.index_finds_near.ensures (density dist eps c.self.inside.counts.minpts) rows c.args.number v (sym c.in-Some.ensures.value)) c.requires
