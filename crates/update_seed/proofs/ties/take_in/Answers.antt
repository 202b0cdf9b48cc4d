use Rattle.update_seed.proofs.Tied.{tied_one}
use Rattle.update_seed.proofs.ties.take_in.Goals as goal

pub returns : goal.returns
returns c =
    tied_one c.args.ties.now c.join-3.new.self c.args.label c.args.other c.in_ok-join.field-0 c.in_ok-single.field-0 c.in_ok-single-2.field-0
    c.requires.least c.requires.label c.requires.free c.in_ok-single.ensures c.in_ok-single-2.ensures c.in_ok-join.ensures.ok c.in_ok-join.ensures.label
