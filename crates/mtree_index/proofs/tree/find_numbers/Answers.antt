use Rattle.std.proofs.Common.{◌≡◌, ◌++◌, List, ℕ, length, Option, Some, None, ap, subst, sym, ◌∙◌, refl, arith}
use Rattle.std.specs.Option.{option_copied}
use Rattle.std.proofs.lemmas.Result.{on_ok_weaker}
use Rattle.vec_record.specs.Vectors.{IsVector}
use Rattle.mtree_node.specs.declared.node.Node.{Node}
use Rattle.mtree_node.specs.Tree.{IsTree}
use Rattle.mtree_index.specs.Found.{numbers_within, found}
use Rattle.mtree_index.specs.Tree.{IsRoot, leaves_of}
use Rattle.mtree_index.proofs.Exact.{shaped, exact}
use Rattle.vec_record.proofs.Greatest.{greatest_small}
use Rattle.mtree_index.proofs.Parted.{Lawful}
use Rattle.mtree_index.proofs.tree.find_numbers.Goals as goal

pub search-requires-clause-shaped : goal.search-requires-clause-shaped
search-requires-clause-shaped g c =
    let w = length c.args.centre.now in
    let most = g.M.Metric.most w in
    let there : option_copied c.args.root ≡ Some c.in-Some.root.now = ap option_copied c.in-Some.is in
    let tree : IsTree g.M.Metric.dist w most c.args.height c.in-Some.root.now = subst (IsRoot g.M.Metric.dist w most c.args.height) there c.requires.root in
    shaped g.M.Metric.dist w most c.args.height None c.in-Some.root.now tree.node

pub returns-in-Some-clause-found : goal.returns-in-Some-clause-found
returns-in-Some-clause-found g c =
    let w = length c.args.centre.now in
    let dist = g.M.Metric.dist in
    let most = g.M.Metric.most w in
    let q = c.args.centre.now in
    let qv : IsVector w q = record { len = refl; bytes = c.requires.centre } in
    let law = g.met.M.Metric in
    let width = c.requires.width in
    let laws : Lawful dist w most = record {
      triangle = λ a b x y z t. law.triangle w a b x width y z t;
      bound = λ a b y z. law.bound w a b width y z;
      small = let top = (law.defined w q q width qv qv).1 in omega (arith, top, greatest_small g.M.Metric.KIND w width);
    } in
    let there : option_copied c.args.root ≡ Some c.in-Some.root.now = ap option_copied c.in-Some.is in
    let tree : IsTree dist w most c.args.height c.in-Some.root.now = subst (IsRoot dist w most c.args.height) there c.requires.root in
    let all : List ℕ = found dist q c.args.radius c.args.height None c.in-Some.root.now in
    let start : c.args.out.now.items ++ all ≡ all = ap (λ (xs : List ℕ). xs ++ all) c.requires.empty in
    let near = exact dist w most laws (λ u v x y. law.symmetry w u v width x y) q qv c.args.radius c.args.height None None c.in-Some.root.now tt tree.node in
    on_ok_weaker c.search.result (λ found. found ∙ (start ∙ (near ∙ ap (λ (o : Option Node). numbers_within dist q c.args.radius (leaves_of c.args.height o)) (sym there)))) c.search.ensures.found
