use Rattle.std.proofs.Common.{◌≡◌, ◌<◌, ◌∙◌, ℕ, List, [], ◌∷◌, length, ap, sym, subst, slice_index, slice_index_or, add-one, arith}
use Rattle.vec_record.specs.Table.{row_at}
use Rattle.mtree_node.specs.declared.node.LeafEntry.{LeafEntry}
use Rattle.mtree_node.specs.Lists.{vectors_of, HaveVectorsOf}
use Rattle.mtree_node.proofs.Columns.{next_entry, one_more, width_at, have_more}
use Rattle.mtree_node.proofs.leaf_entries.LeafEntries.append.Goals as goal

pub loop-at-preserved : goal.loop-at-preserved
loop-at-preserved c =
    let at = c.loop-at.at in
    let more = c.args.more.now in
    let few : at < length more = omega (arith, c.loop-at-test.true, c.len-at-end.ensures) in
    let row : c.row-row.result.now ≡ slice_index_or (vectors_of more) at [] = c.row-row.ensures.value ∙ ap (λ (vs : List (List ℕ)). slice_index_or vs at []) c.rows.ensures.rows in
    let next = next_entry more at _ _ c.row-row.result.now few (ap (λ (xs : List ℕ). slice_index xs at) c.numbers.ensures) (ap (λ (xs : List ℕ). slice_index xs at) c.parents.ensures) row in (
      rw add-one (one_more c.loop-at.self c.push.new.self _ _ _ _ c.loop-at.invariant.0 next c.in_ok-push.ensures.ok),
      λ w before behind. subst (HaveVectorsOf w) (sym c.in_ok-push.ensures.ok) (have_more w c.loop-at.self _ (c.loop-at.invariant.1 w before behind) (ap length row ∙ width_at more w at few behind, tt)),
    )
