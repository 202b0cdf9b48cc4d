use Rattle.std.proofs.Common.{◌≡◌, ◌↔◌, subst, None}
use Rattle.mtree_index.specs.Plain.{PlainTree}
use Rattle.mtree_index.proofs.Height.{empty_is_low}
use Rattle.mtree_index.proofs.tree.MTree.height.Goals as goal

pub returns-clause-empty : goal.returns-clause-empty
returns-clause-empty g c =
    let t : PlainTree = record { width = c.self.inside.width; height = c.self.inside.height; root = c.self.inside.root } in
    subst (λ (x : PlainTree). (t.height ≡ 0) ↔ (x.root ≡ None)) c.self.view_is (empty_is_low g.M.Metric.dist t.width (g.M.Metric.most t.width) t.height t.root c.self.invariant.root)
