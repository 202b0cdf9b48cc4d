use Rattle.page_layout.proofs.LeafWrites.{leaf_put}
use Rattle.page_layout.proofs.leaves.write_leaf.Goals as goal

pub returns : goal.returns
returns c = leaf_put c.args.slot c.args.out.now c.put_words.new.out c.put_rows.new.out c.args.rows.now c.requires.slot c.requires.few c.put_words.ensures.page c.put_words.ensures.written c.put_rows.ensures.written
