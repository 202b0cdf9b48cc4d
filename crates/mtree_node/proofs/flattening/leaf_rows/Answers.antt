use Rattle.std.proofs.Common.{◌<◌, List, ℕ, length, map, ap, slice_index, add-one, arith, refl}
use Rattle.mtree_node.specs.declared.node.LeafEntry.{LeafEntry}
use Rattle.mtree_node.specs.Preorder.{leaf_row}
use Rattle.mtree_node.proofs.Columns.{next_entry, one_more}
use Rattle.mtree_node.proofs.flattening.leaf_rows.Goals as goal

pub loop-at-preserved : goal.loop-at-preserved
loop-at-preserved c =
    let at = c.loop-at.at in
    let all = c.args.entries.now in
    let few : at < length all = omega (arith, c.loop-at-test.true, c.len-at-end.ensures) in
    let next = ap (map leaf_row) (next_entry all at _ _ _ few (ap (λ (xs : List ℕ). slice_index xs at) c.numbers.ensures) (ap (λ (xs : List ℕ). slice_index xs at) c.parents.ensures) refl) in
    rw add-one (one_more c.loop-at.rows c.push.new.self _ _ _ _ c.loop-at.invariant next c.in_ok-push.ensures.ok)
