use Rattle.page_layout.specs.Heads.{values_of}
use Rattle.page_layout.proofs.InnerWrites.{rows_put}
use Rattle.page_layout.proofs.inner.put_rows.Goals as goal

pub loop-k-preserved : goal.loop-k-preserved
loop-k-preserved c =
    rows_put (values_of c.args.params.now) c.args.rows.now c.requires.each c.loop-k.k c.loop-k-test.true c.index-rows-k.result c.index-rows-k.is c.width.result c.args.out.now c.loop-k.out c.put_row.new.out
    c.width.ensures.value c.as_slice-page.ensures.length c.loop-k.invariant c.put_row.ensures.written
