use Rattle.std.proofs.Common.{rules}
use Rattle.int_metric.proofs.Cuts.{first_block}
use Rattle.int_metric.proofs.sum.sum_of_one_block.Goals as goal

pub returns-in-Some-Some-clause-all : goal.returns-in-Some-Some-clause-all
returns-in-Some-Some-clause-all g c =
    let some = c.in-Some-Some in
    first_block g.row.N c.sum_of_bytes.result c.args.a.now c.args.b.now some.x.now some.y.now some.after_x.now some.after_y.now (search rules) (search rules) (search rules) (search rules) (search rules)
