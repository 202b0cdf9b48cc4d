use Rattle.std.proofs.Common.{◌<◌, length, ◌∙◌, arith, length-set}
use Rattle.node_refs.specs.Laws.{referring}
use Rattle.tree_layout.proofs.Lists.{one_more}
use Rattle.tree_layout.proofs.rows.refer_rows.Goals as goal

pub loop-i-preserved : goal.loop-i-preserved
loop-i-preserved c =
    let now = c.loop-i.rows in
    let old = c.args.rows.now in
    let i = c.loop-i.i in
    let new = c.refer_row.new.row in
    let was = c.loop-i.invariant in
    let inside : i < length old = omega (arith, c.loop-i-test.true, c.len-i-end.ensures) in
    record {
      long = length-set now i new ∙ was.long;
      done = one_more (referring c.args.refs.now) now old i c.item_mut.result.now new inside was.done c.item_mut.ensures.value c.refer_row.ensures;
    }
