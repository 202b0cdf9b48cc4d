use Rattle.std.proofs.Common.{rules, arith}
use Rattle.std.proofs.lemmas.Grind.{common_steps}
use Rattle.int_metric.proofs.Words.{first_word}
use Rattle.int_metric.proofs.bits.differing_bits.Goals as goal

pub loop-x-preserved : goal.loop-x-preserved
loop-x-preserved c =
    let some = c.in-Some-Some in
    let word = first_word 8 c.bits_of_word-total.result c.loop-x.a.now c.loop-x.b.now some.x.now some.y.now some.after_x.now some.after_y.now (search rules) (search rules) (search rules) (search rules) (search rules) in
    record {
      all = omega (arith, word, c.loop-x.invariant.all);
      same = search rules;
      small = grind (arith, common_steps);
    }
