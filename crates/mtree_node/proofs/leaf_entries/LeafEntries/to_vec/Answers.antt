use Rattle.std.proofs.Common.{◌≡◌, ◌<◌, ◌∙◌, ℕ, List, [], ◌∷◌, ◌++◌, length, ap, sym, subst, slice_index, slice_index_or, add-one, arith}
use Rattle.mtree_node.specs.declared.node.LeafEntry.{LeafEntry}
use Rattle.mtree_node.specs.Lists.{vectors_of}
use Rattle.mtree_node.proofs.Columns.{next_entry, one_more}
use Rattle.mtree_node.proofs.leaf_entries.LeafEntries.to_vec.Goals as goal

pub loop-at-preserved : goal.loop-at-preserved
loop-at-preserved c =
    let at = c.loop-at.at in
    let all = c.args.self.now in
    let few : at < length all = omega (arith, c.loop-at-test.true, c.len-at-end.ensures) in
    let row : c.row.result.now ≡ slice_index_or (vectors_of all) at [] = c.row.ensures.value ∙ ap (λ (vs : List (List ℕ)). slice_index_or vs at []) c.rows.ensures.rows in
    let next = next_entry all at _ _ c.in_ok-from_slice.field-0 few (ap (λ (xs : List ℕ). slice_index xs at) c.numbers.ensures) (ap (λ (xs : List ℕ). slice_index xs at) c.parents.ensures) (c.in_ok-from_slice.ensures ∙ row) in
    rw add-one (one_more c.loop-at.entries.items c.push.new.self.items _ _ _ _ c.loop-at.invariant next c.in_ok-push.ensures.items)
