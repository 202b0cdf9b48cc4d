use Rattle.std.proofs.Common.{◌≡◌, Option, length, sym, ap, subst, ◌∙◌}
use Rattle.std.specs.Option.{option_map}
use Rattle.std.specs.Prelude.{IfSome}
use Rattle.mtree_node.specs.declared.node.Node.{Node}
use Rattle.mtree_node.specs.Preorder.{size, retagged}
use Rattle.mtree_index.specs.Plain.{PlainTree}
use Rattle.mtree_index.specs.Tree.{IsRoot, contents, query_cost}
use Rattle.mtree_index.proofs.Shapes.{same_records, same_cost, same_root, root_level, root_levels, root_tags}
use Rattle.mtree_index.proofs.tree.MTree.retag.Goals as goal

pub retag_root-requires-clause-leveled : goal.retag_root-requires-clause-leveled
retag_root-requires-clause-leveled g c =
    let s = c.self.inside in root_levels g.M.Metric.dist s.width (g.M.Metric.most s.width) s.height c.self.invariant.low s.root c.self.invariant.root

pub retag_root-requires-clause-tags : goal.retag_root-requires-clause-tags
retag_root-requires-clause-tags g c =
    let s = c.self.inside in
    root_tags g.M.Metric.dist s.width (g.M.Metric.most s.width) s.height c.args.tags.now s.root c.self.invariant.root
    (subst (λ (t : PlainTree). IfSome t.root (λ n. length c.args.tags.now ≡ size t.height n)) (sym c.self.view_is) c.requires.tags)

pub invariant_of-self : goal.invariant_of-self
invariant_of-self g c =
    let s = c.self.inside in
    let tagged : c.retag_root.new.root ≡ option_map (retagged c.args.tags.now s.height) s.root =
    c.retag_root.ensures.is s.height (root_level g.M.Metric.dist s.width (g.M.Metric.most s.width) s.height s.root c.self.invariant.root) in
    record {
      width = c.self.invariant.width;
      root = subst (IsRoot g.M.Metric.dist s.width (g.M.Metric.most s.width) s.height) (sym tagged) (same_root c.args.tags.now s.height g.M.Metric.dist s.width (g.M.Metric.most s.width) s.root c.self.invariant.root);
      low = c.self.invariant.low;
    }

pub returns-clause-is : goal.returns-clause-is
returns-clause-is g c =
    let s = c.self.inside in
    let tagged : c.retag_root.new.root ≡ option_map (retagged c.args.tags.now s.height) s.root =
    c.retag_root.ensures.is s.height (root_level g.M.Metric.dist s.width (g.M.Metric.most s.width) s.height s.root c.self.invariant.root) in
    let new : PlainTree → PlainTree = λ t. record { width = t.width; height = t.height; root = option_map (retagged c.args.tags.now t.height) t.root } in
    let put : Option Node → PlainTree = λ r. record { width = s.width; height = s.height; root = r } in
    ap put tagged ∙ ap new c.self.view_is

pub returns-clause-contents : goal.returns-clause-contents
returns-clause-contents g c =
    let s = c.self.inside in
    let tagged : c.retag_root.new.root ≡ option_map (retagged c.args.tags.now s.height) s.root =
    c.retag_root.ensures.is s.height (root_level g.M.Metric.dist s.width (g.M.Metric.most s.width) s.height s.root c.self.invariant.root) in
    let put : Option Node → PlainTree = λ r. record { width = s.width; height = s.height; root = r } in
    ap (λ r. contents (put r)) tagged ∙ (same_records c.args.tags.now s.height s.root ∙ ap contents c.self.view_is)

pub returns-clause-cost : goal.returns-clause-cost
returns-clause-cost g c =
    let s = c.self.inside in
    let tagged : c.retag_root.new.root ≡ option_map (retagged c.args.tags.now s.height) s.root =
    c.retag_root.ensures.is s.height (root_level g.M.Metric.dist s.width (g.M.Metric.most s.width) s.height s.root c.self.invariant.root) in
    let put : Option Node → PlainTree = λ r. record { width = s.width; height = s.height; root = r } in
    λ centre radius. ap (λ r. query_cost g.M.Metric.dist (put r) centre radius) tagged
    ∙ (same_cost c.args.tags.now s.height g.M.Metric.dist centre radius s.root ∙ ap (λ (t : PlainTree). query_cost g.M.Metric.dist t centre radius) c.self.view_is)
