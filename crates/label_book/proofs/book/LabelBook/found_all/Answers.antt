use Rattle.label_book.proofs.Parted.{group_free, group_founded}
use Rattle.label_book.proofs.book.LabelBook.found_all.Goals as goal

pub found_one-requires-clause-free : goal.found_one-requires-clause-free
found_one-requires-clause-free c q m =
    group_free c.args.self.now c.loop-i.self c.args.groups.now c.loop-i.i c.index-groups-i.result c.loop-i.labels c.requires.one c.requires.free c.loop-i-test.true c.index-groups-i.is c.loop-i.invariant q m

pub loop-i-preserved : goal.loop-i-preserved
loop-i-preserved c =
    group_founded c.args.self.now c.loop-i.self c.found_one.new.self c.args.groups.now c.loop-i.i c.index-groups-i.result c.loop-i.labels c.found_one.new.labels c.requires.one c.loop-i-test.true c.index-groups-i.is c.loop-i.invariant
    c.in_ok-found_one.ensures
