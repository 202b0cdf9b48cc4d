use Rattle.vec_record.specs.Limits.{width_of}
use Rattle.page_layout.proofs.InnerWrites.{inner_written}
use Rattle.page_layout.proofs.inner.write_inner.Goals as goal

pub returns : goal.returns
returns c =
    inner_written (width_of c.args.params.now.metric c.args.params.now.dim) c.args.rows.now c.clear.new.self c.set.new.self c.put_words.new.out c.put_rows.new.out c.clear.ensures c.set.ensures c.put_words.ensures.written c.put_rows.ensures.written
