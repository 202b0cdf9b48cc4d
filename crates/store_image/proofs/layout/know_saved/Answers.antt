use Rattle.std.proofs.Common.{◌≡◌, ◌≤◌, replicate, ap, subst, arith}
use Rattle.vec_record.specs.Distance.{greatest_of}
use Rattle.mtree_index.specs.Tree.{IsLawful}
use Rattle.store_image.proofs.PlanLayout.{zeros_vector}
use Rattle.store_image.proofs.layout.know_saved.Goals as goal

pub returns : goal.returns
returns g c =
    let s = c.args.state.now in
    let width = s.clusters.tree.width in
    let lawful : IsLawful g.M.Metric.dist g.M.Metric.most s.clusters.tree = subst (IsLawful g.M.Metric.dist g.M.Metric.most) c.index.ensures c.know_tree.ensures in
    let zeros = zeros_vector width in
    let pair = g.met.M.Metric.defined width (replicate width 0) (replicate width 0) lawful.width zeros zeros in
    let same : greatest_of s.head.params.metric width ≡ greatest_of g.M.Metric.KIND width = ap (λ k. greatest_of k width) c.requires.kind in
    let top : g.M.Metric.most width ≤ greatest_of s.head.params.metric width = omega (arith, pair.1, same) in
    record {
      head = c.know_head.ensures;
      can = c.requires.can;
      kept_is = c.requires.kept;
      lawful = lawful;
      greatest = top;
      bounded = c.requires.bounded;
    }
