use Rattle.std.proofs.Common.{◌≡◌, ◌∙◌, ◌++◌, ◌∷◌, [], ap, arith, rules}
use Rattle.std.specs.Prelude.{is_ok, true}
use Rattle.vec_record.specs.Table.{Table}
use Rattle.mtree_node.proofs.Columns.{seen_rows, seen_pushed, pushed_items}
use Rattle.mtree_node.proofs.leaf_entries.LeafEntries.push.Goals as goal

pub take_width-requires-clause-rows : goal.take_width-requires-clause-rows
take_width-requires-clause-rows c = seen_rows _ _ _ _ c.self.view_is c.self.invariant.0 c.self.invariant.1 _ c.requires.vectors

pub returns-clause-ok : goal.returns-clause-ok
returns-clause-ok c =
    let numbers : c.push-2.new.self.items ≡ c.reserve.new.self.items ++ c.args.number ∷ [] = pushed_items _ _ _ _ (c.push-2.ensures.succeeds (omega (arith, c.in_ok-reserve.ensures.ok))) c.push-2.ensures.items in
    let parents : c.push-3.new.self.items ≡ c.reserve-2.new.self.items ++ c.args.parent ∷ [] = pushed_items _ _ _ _ (c.push-3.ensures.succeeds (omega (arith, c.in_ok-reserve-2.ensures.ok))) c.push-3.ensures.items in
    let rows : c.push.new.self.rows ≡ c.self.inside.rows.rows ++ c.args.vector.now ∷ [] = ap (λ (t : Table). t.rows) c.in_ok-push.ensures.ok ∙ ap (λ (t : Table). t.rows ++ c.args.vector.now ∷ []) c.take_width.ensures in
    seen_pushed _ _ _ _ c.self.view_is c.self.invariant.0 c.self.invariant.1 c.args.number c.args.parent c.args.vector.now _ _ _
    (numbers ∙ ap (λ xs. xs ++ c.args.number ∷ []) c.reserve.ensures.items) (parents ∙ ap (λ xs. xs ++ c.args.parent ∷ []) c.reserve-2.ensures.items) rows
