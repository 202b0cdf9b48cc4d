use Rattle.std.proofs.Common.{[], ◌∷◌, sym, subst, arith}
use Rattle.mtree_node.specs.Tree.{IsLeveled}
use Rattle.mtree_node.proofs.Tags.{retagged_leveled}
use Rattle.mtree_node.proofs.shape_tests.a_tree_is_flattened_and_takes_new_tags.Goals as goal

pub flatten-requires-2 : goal.flatten-requires-2
flatten-requires-2 g c =
    let leveled = c.in_ok-root.ensures.leveled in
    let kept = retagged_leveled (11 ∷ 12 ∷ 13 ∷ 14 ∷ 15 ∷ 16 ∷ []) 3 0 c.in_ok-root.root leveled in
    record { leveled = (3, omega arith, subst (IsLeveled 3) (sym (c.retag.ensures.is 3 leveled)) kept) }
