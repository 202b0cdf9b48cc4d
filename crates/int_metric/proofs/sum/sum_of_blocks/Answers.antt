use Rattle.std.proofs.Common.{rules, arith}
use Rattle.std.proofs.lemmas.Grind.{common_steps}
use Rattle.int_metric.proofs.Cuts.{first_block}
use Rattle.int_metric.proofs.sum.sum_of_blocks.Goals as goal

pub loop-x-preserved : goal.loop-x-preserved
loop-x-preserved g c =
    let some = c.in-Some-Some in
    let block = first_block g.row.N c.sum_of_bytes-total.result c.loop-x.a.now c.loop-x.b.now some.x.now some.y.now some.after_x.now some.after_y.now (search rules) (search rules) (search rules) (search rules) (search rules) in
    record {
      all = omega (arith, block, c.loop-x.invariant.all);
      same = search rules;
      small = grind (arith, common_steps);
    }
