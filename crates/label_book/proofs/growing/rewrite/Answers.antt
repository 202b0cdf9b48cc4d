use Rattle.label_book.proofs.Merged.{rewritten_more, rewritten_none, rewritten_all}
use Rattle.label_book.proofs.growing.rewrite.Goals as goal

pub loop-at-init : goal.loop-at-init
loop-at-init c = rewritten_none c.args.places.now c.args.members.now c.args.cluster c.args.from

pub loop-at-preserved : goal.loop-at-preserved
loop-at-preserved c =
    rewritten_more c.args.places.now c.loop-at.places c.replace.new.self c.args.members.now c.args.cluster c.args.from c.loop-at.at c.requires.once c.loop-at.auto.at c.loop-at-test.true c.requires.known
    c.loop-at.invariant c.replace.ensures

pub returns : goal.returns
returns c = rewritten_all c.args.places.now c.loop-at.places c.args.members.now c.args.cluster c.args.from c.loop-at.at c.loop-at-test.false c.loop-at.invariant
