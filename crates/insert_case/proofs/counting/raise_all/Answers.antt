use Rattle.std.proofs.Common.{sym, subst, get_or, take}
use Rattle.insert_case.specs.inside.Counting.{AreRaised}
use Rattle.update_seed.proofs.Lists.{next, not_before}
use Rattle.insert_case.proofs.Raised.{raised_more, noted_more, raised_over}
use Rattle.insert_case.proofs.counting.raise_all.Goals as goal
use Rattle.insert_case.proofs.counting.raise_all.Goals.{then-around-i+in_ok-raise, else-around-i}

pub loop-i-preserved : goal.loop-i-preserved
loop-i-preserved c =
    let xs = c.args.around.now in
    let i = c.loop-i.i in
    let b = get_or xs i 0 in
    let so = c.loop-i.invariant.counts in
    let fresh = not_before xs i c.requires.once c.loop-i-test.true in
    let end = sym (next xs i c.loop-i-test.true) in
    elim c.if-around-i.branch [
      | then-around-i+in_ok-raise w ↦
          let now = w.in_ok-raise.ensures.counts in
          rw (w.counts-is, w.cores-is) record {
            counts = subst (λ ys. AreRaised c.args.number ys c.args.counts.now w.raise.new.counts) end
                (raised_more c.args.number (take i xs) c.args.counts.now c.loop-i.counts w.raise.new.counts b so fresh w.if-around-i.true now w.raise.ensures.stays);
            cores = noted_more c.args.number (take i xs) c.args.counts.now c.loop-i.counts w.raise.new.counts b so fresh w.if-around-i.true now w.raise.ensures.stays c.loop-i.cores w.raise.new.cores c.loop-i.invariant.cores w.in_ok-raise.ensures.cores;
          }
      | else-around-i w ↦ rw (w.counts-is, w.cores-is) record {
        counts = subst (λ ys. AreRaised c.args.number ys c.args.counts.now c.loop-i.counts) end
            (raised_over c.args.number (take i xs) c.args.counts.now c.loop-i.counts c.loop-i.counts b so w.if-around-i.false);
        cores = c.loop-i.invariant.cores;
      }
    ]
