use Rattle.std.proofs.Common.{arith}
use Rattle.mtree_node.specs.Preorder.{LeafRow}
use Rattle.page_layout.proofs.LeafWrites.{rows_put}
use Rattle.page_layout.proofs.leaves.put_rows.Goals as goal

pub loop-k-preserved : goal.loop-k-preserved
loop-k-preserved c =
    let none : LeafRow = (0, 0) in
    rows_put c.args.at c.loop-k.k c.args.out.now c.loop-k.out c.put_words.new.out c.args.rows.now none (omega (arith, c.as_slice-page.ensures.length)) c.loop-k-test.true c.loop-k.invariant c.put_words.ensures.written
