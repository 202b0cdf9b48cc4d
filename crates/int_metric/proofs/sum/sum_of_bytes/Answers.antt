use Rattle.std.proofs.Common.{rules, ◌≡◌, length-append, arith}
use Rattle.std.proofs.lemmas.Int.{ints}
use Rattle.vec_record.specs.Distance.{apart}
use Rattle.int_metric.proofs.Pairs.{next_pair}
use Rattle.int_metric.proofs.sum.sum_of_bytes.Goals as goal

pub loop-x-preserved : goal.loop-x-preserved
loop-x-preserved c =
    let next = next_pair c.args.a.now c.args.b.now c.loop-x.yielded c.into_iter-x-iterator.result c.loop-x.x-iterator c.next.new.self c.next.result c.in-Some.x c.in-Some.y (search rules) (search rules) c.loop-x.yielded_by c.in-Some.is c.next.ensures.steps in
    let apart_by : c.unsigned_abs-total.result ≡ apart c.in-Some.x.now c.in-Some.y.now = omega (arith, ints) in
    let left = rw (next.0, next.1) at c.loop-x.invariant.0 in
    simp length-append (omega arith, omega arith)
