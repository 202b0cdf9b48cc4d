use Rattle.std.proofs.Common.{◌≡◌, Option, length, Some, sym, ap, subst, ◌∙◌, Bor}
use Rattle.std.specs.Prelude.{IfSome}
use Rattle.std.specs.Option.{option_copied}
use Rattle.mtree_node.specs.declared.node.Node.{Node}
use Rattle.mtree_node.specs.Tree.{IsLevel, IsLeveled}
use Rattle.mtree_node.specs.Preorder.{size}
use Rattle.mtree_index.proofs.shape_tests.shapes_of.Goals as goal

pub flatten-requires : goal.flatten-requires
flatten-requires g c = record { leveled = subst (λ (o : Option (Bor Node)). IfSome o (λ m. IsLevel m.now)) c.in-Some.is c.root.ensures.level }

pub returns : goal.returns
returns g c =
    let t = c.args.tree.now in
    let n = c.in-Some.root.now in
    let leveled : IsLeveled t.height n = subst (λ (o : Option (Bor Node)). IfSome o (λ m. IsLeveled t.height m.now)) c.in-Some.is c.root.ensures.leveled in
    let root : t.root ≡ Some n = sym c.root.ensures.is ∙ ap option_copied c.in-Some.is in
    subst (λ (o : Option Node). IfSome o (λ m. length c.in_ok-shapes.shapes ≡ size t.height m)) (sym root) (c.in_ok-shapes.ensures.count t.height leveled)
