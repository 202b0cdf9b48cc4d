use Rattle.mtree_index.proofs.Twice.{known_next}
use Rattle.mtree_index.proofs.split.push_known.Goals as goal

pub loop-earlier-preserved : goal.loop-earlier-preserved
loop-earlier-preserved c =
    known_next c.args.matrix.now.items c.loop-earlier.matrix.items c.push.new.self.items c.args.count c.args.at c.loop-earlier.earlier c.index.result.now c.loop-earlier-test.true c.requires.place c.requires.few c.requires.rows
    c.loop-earlier.invariant _ c.index.ensures c.in_ok-push.ensures.items
