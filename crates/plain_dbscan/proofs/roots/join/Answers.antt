use Rattle.std.proofs.Common.{◌<◌, length, arith}
use Rattle.plain_dbscan.proofs.RootsOf.{joined_below, joined_above}
use Rattle.plain_dbscan.proofs.roots.join.Goals as goal

pub returns-then-a-b-clause-roots : goal.returns-then-a-b-clause-roots
returns-then-a-b-clause-roots c = λ roots r.
    let one = c.find_root-a in
    let two = c.find_root-b in
    let r1 = one.ensures.roots roots r in
    let r2 = two.ensures.roots roots r1 in
    let ha : one.result < length two.new.parents = omega (arith, one.ensures.below, one.ensures.lengths, two.ensures.lengths) in
    let hb : two.result < length two.new.parents = omega (arith, two.ensures.below, two.ensures.lengths) in
    joined_below two.new.parents roots c.args.i c.args.j one.result two.result two.ensures.parents r2 ha hb (one.ensures.root roots r) (two.ensures.root roots r1) (r1.own one.result (omega (arith, one.ensures.below, one.ensures.lengths)) one.ensures.own) (r2.own two.result hb two.ensures.own) c.if-a-b.true

pub returns-else-a-b-clause-roots : goal.returns-else-a-b-clause-roots
returns-else-a-b-clause-roots c = λ roots r.
    let one = c.find_root-a in
    let two = c.find_root-b in
    let r1 = one.ensures.roots roots r in
    let r2 = two.ensures.roots roots r1 in
    let ha : one.result < length two.new.parents = omega (arith, one.ensures.below, one.ensures.lengths, two.ensures.lengths) in
    let hb : two.result < length two.new.parents = omega (arith, two.ensures.below, two.ensures.lengths) in
    joined_above two.new.parents roots c.args.i c.args.j one.result two.result two.ensures.parents r2 ha hb (one.ensures.root roots r) (two.ensures.root roots r1) (r1.own one.result (omega (arith, one.ensures.below, one.ensures.lengths)) one.ensures.own) (r2.own two.result hb two.ensures.own) c.if-a-b.false
