use Rattle.page_layout.specs.Heads.{plain}
use Rattle.page_layout.proofs.HeadLaws.{head_written}
use Rattle.page_layout.proofs.head.write_head.Goals as goal

pub returns : goal.returns
returns c = head_written (plain c.args.head.now) c.metric_number.result c.clear.new.self c.put_words.new.out c.metric_number.ensures c.clear.ensures c.put_words.ensures.written
