use Rattle.update_seed.proofs.Tied.{tied_both}
use Rattle.update_seed.proofs.ties.join.Goals as goal

pub returns-in_ok-join : goal.returns-in_ok-join
returns-in_ok-join c =
    tied_both c.args.ties.now c.join-then-first-second-2.new.self c.args.first c.args.second c.in_ok-join.field-0 c.in_ok-pair.field-0 c.new.result
    c.requires.least c.requires.first c.requires.second c.in_ok-pair.ensures c.new.ensures c.in_ok-join.ensures.ok c.in_ok-join.ensures.label
