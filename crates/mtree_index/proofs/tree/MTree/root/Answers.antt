use Rattle.std.proofs.Common.{◌≡◌, Option, Some, None, subst, sym, Bor}
use Rattle.std.specs.Prelude.{IfSome}
use Rattle.std.specs.Option.{option_copied}
use Rattle.mtree_node.specs.declared.node.Node.{Node}
use Rattle.mtree_node.specs.Tree.{IsLevel, IsLeveled}
use Rattle.mtree_index.specs.Plain.{PlainTree}
use Rattle.mtree_index.proofs.Shapes.{root_level, root_levels}
use Rattle.mtree_index.proofs.tree.MTree.root.Goals as goal

-- what holds of a node holds of what is borrowed of it
borrowed : (P : Node → Type 0) (o : Option (Bor Node)) (root : Option Node) → option_copied o ≡ root → IfSome root P → IfSome o (λ n. P n.now)
borrowed P None root is p = tt
borrowed P (Some n) root is p = subst (λ (r : Option Node). IfSome r P) (sym is) p

pub returns-clause-level : goal.returns-clause-level
returns-clause-level g c =
    let s = c.self.inside in
    borrowed IsLevel c.as_ref.result s.root c.as_ref.ensures.value (root_levels g.M.Metric.dist s.width (g.M.Metric.most s.width) s.height c.self.invariant.low s.root c.self.invariant.root)

pub returns-clause-leveled : goal.returns-clause-leveled
returns-clause-leveled g c =
    let s = c.self.inside in
    let here = borrowed (IsLeveled s.height) c.as_ref.result s.root c.as_ref.ensures.value (root_level g.M.Metric.dist s.width (g.M.Metric.most s.width) s.height s.root c.self.invariant.root) in
    subst (λ (t : PlainTree). IfSome c.as_ref.result (λ n. IsLeveled t.height n.now)) c.self.view_is here
