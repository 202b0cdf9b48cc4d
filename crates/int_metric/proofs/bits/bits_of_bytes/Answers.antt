use Rattle.std.proofs.Common.{rules, ◌≡◌, ℕ, ◌+◌, ◌*◌, ◌≤◌, length, length-append, drop, bit_xor, count_ones, arith}
use Rattle.vec_record.specs.Distance.{bits_apart, all_bits_apart}
use Rattle.int_metric.specs.BitLaws.{bits_by_ones, byte_small}
use Rattle.int_metric.proofs.Pairs.{next_pair}
use Rattle.int_metric.proofs.bits.bits_of_bytes.Goals as goal

one_more : (total apart ones left all k : ℕ) → total + (apart + left) ≡ all → apart ≡ ones → apart ≤ 8 → total ≤ 8 * k → ((total + ones) + left ≡ all) × (total + ones ≤ 8 * (k + 1))
one_more total apart ones left all k e f p q = (omega arith, omega arith)

pub loop-x-preserved : goal.loop-x-preserved
loop-x-preserved c =
    let next = next_pair c.args.a.now c.args.b.now c.loop-x.yielded c.into_iter-x-iterator.result c.loop-x.x-iterator c.next.new.self c.next.result c.in-Some.x c.in-Some.y (search rules) (search rules) c.loop-x.yielded_by c.in-Some.is c.next.ensures.steps in
    let x = c.in-Some.x.now in
    let y = c.in-Some.y.now in
    let k = length c.loop-x.yielded in
    simp length-append (one_more c.loop-x.total (bits_apart x y) (count_ones (bit_xor x y)) (all_bits_apart (drop (k + 1) c.args.a.now) (drop (k + 1) c.args.b.now)) _ k
    (rw (next.0, next.1) at c.loop-x.invariant.0) (bits_by_ones x y (search rules) (search rules)) (byte_small x y) c.loop-x.invariant.1)
