use Rattle.std.proofs.Common.{◌≡◌, ℕ, List, length, None, subst, sym}
use Rattle.mtree_node.specs.declared.node.Node.{Node}
use Rattle.mtree_node.specs.Tree.{IsTree}
use Rattle.mtree_index.specs.Found.{IsShaped}
use Rattle.mtree_index.proofs.Exact.{shaped}
use Rattle.mtree_index.proofs.query_tests.cost_of.Goals as goal

shaped_there : (dist : List ℕ → List ℕ → ℕ) (w greatest h v k : ℕ) (n : Node) → IsTree dist w greatest h n → v ≡ w → k ≡ h → IsShaped v k n
shaped_there dist w greatest h v k n tree wide high =
    subst (λ (x : ℕ). IsShaped x k n) (sym wide) (subst (λ (x : ℕ). IsShaped w x n) (sym high) (shaped dist w greatest h None n tree.node))

pub cost_of_node-requires-clause-shaped : goal.cost_of_node-requires-clause-shaped
cost_of_node-requires-clause-shaped g c =
    shaped_there g.M.Metric.dist c.args.tree.now.width (g.M.Metric.most c.args.tree.now.width) c.args.tree.now.height (length c.args.centre.now) c.height-height.result c.in-Some.root.now c.in-Some.ensures.tree c.requires.width c.height-height.ensures.is
