use Rattle.std.proofs.Common.{arith}
use Rattle.page_layout.proofs.Places.{words_put}
use Rattle.page_layout.proofs.field.put_words.Goals as goal

pub loop-k-preserved : goal.loop-k-preserved
loop-k-preserved c =
    words_put c.args.at c.loop-k.k c.args.out.now c.args.words.now c.to_le_bytes.result c.loop-k.out c.put.new.self (omega (arith, c.as_slice-page.ensures.length)) (omega arith)
    c.to_le_bytes.ensures c.loop-k.invariant c.put.ensures
