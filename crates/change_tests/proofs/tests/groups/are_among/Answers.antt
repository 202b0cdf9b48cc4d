use Rattle.label_book.specs.Labels.{IsMember}
use Rattle.label_book.proofs.Checks.{member_more}
use Rattle.split_expand.specs.Remaining.{remaining}
use Rattle.change_tests.proofs.tests.groups.are_among.Goals as goal

pub loop-i-preserved : goal.loop-i-preserved
loop-i-preserved c =
    member_more (IsMember (remaining c.args.counts.now c.args.labels.now c.args.label)) c.args.seeds.now c.loop-i.i c.loop-i-test.true c.loop-i.invariant (c.is_among.ensures c.if-not-is_among.false)
