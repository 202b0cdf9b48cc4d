use Rattle.std.proofs.Common.{rules, arith}
use Rattle.std.proofs.lemmas.Grind.{common_steps}
use Rattle.vec_record.specs.Distance.{sum_apart}
use Rattle.int_metric.proofs.Above.{above}
use Rattle.int_metric.proofs.Cuts.{first_block}
use Rattle.int_metric.proofs.sum.is_sum_within.Goals as goal

pub loop-x-preserved : goal.loop-x-preserved
loop-x-preserved c =
    let some = c.in-Some-Some in
    let word = first_block 32 c.sum_of_bytes-total.result c.loop-x.a.now c.loop-x.b.now some.x.now some.y.now some.after_x.now some.after_y.now (search rules) (search rules) (search rules) (search rules) (search rules) in
    record {
      all = omega (arith, word, c.loop-x.invariant.all);
      same = search rules;
      small = grind (arith, common_steps);
    }

pub returns-then-total-radius : goal.returns-then-total-radius
returns-then-total-radius c =
    let some = c.in-Some-Some in
    let block = first_block 32 c.sum_of_bytes-total.result c.loop-x.a.now c.loop-x.b.now some.x.now some.y.now some.after_x.now some.after_y.now (search rules) (search rules) (search rules) (search rules) (search rules) in
    above (sum_apart c.args.a.now c.args.b.now) c.args.radius (omega (arith, block, c.loop-x.invariant.all, c.if-total-radius.true))
