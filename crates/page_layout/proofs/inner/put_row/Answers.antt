use Rattle.std.proofs.Common.{arith}
use Rattle.page_layout.proofs.InnerWrites.{row_put}
use Rattle.page_layout.proofs.inner.put_row.Goals as goal

pub returns-clause-written : goal.returns-clause-written
returns-clause-written c =
    row_put c.args.at c.args.out.now c.put_words.new.out c.put.new.self c.as_slice.result.now c.args.row.now (omega (arith, c.put_words.ensures.page, c.requires)) c.as_slice.ensures.value c.put_words.ensures.written c.put.ensures
