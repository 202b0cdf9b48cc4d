use Rattle.std.proofs.Common.{ℕ, List, [], sym, ap, subst, ◌∙◌, get_or, is_some}
use Rattle.update_seed.proofs.Lists.{next, whole, here_in, not_before}
use Rattle.delete_case.specs.inside.Lowering.{AreLowered}
use Rattle.delete_case.proofs.Lowered.{lowered_none, lowered_more, counted_out}
use Rattle.delete_case.proofs.counting.count_out.Goals as goal

pub loop-i-init : goal.loop-i-init
loop-i-init c = subst (AreLowered [] c.args.counts.now c.args.counts.now) (sym c.requires.empty) (lowered_none c.args.counts.now)

pub lower-requires : goal.lower-requires
lower-requires c =
    let around = c.args.around.now in
    ap is_some (c.loop-i.invariant.far _ (not_before around c.loop-i.i c.requires.once c.loop-i-test.true))
    ∙ c.requires.there _ (here_in around c.loop-i.i c.loop-i-test.true)

pub loop-i-preserved : goal.loop-i-preserved
loop-i-preserved c =
    let around = c.args.around.now in
    let old = c.args.counts.now in
    subst (λ (xs : List ℕ). AreLowered xs old c.lower.new.counts c.lower.new.lost) (sym (next around c.loop-i.i c.loop-i-test.true))
    (lowered_more _ (get_or around c.loop-i.i 0) old c.loop-i.counts c.lower.new.counts c.loop-i.lost c.lower.new.lost
    (not_before around c.loop-i.i c.requires.once c.loop-i-test.true) c.loop-i.invariant c.in_ok-lower.ensures)

pub returns : goal.returns
returns c =
    let around = c.args.around.now in
    let old = c.args.counts.now in
    counted_out c.args.number around old c.loop-i.counts c.leave.new.self c.loop-i.lost c.requires.other
    (subst (λ (xs : List ℕ). AreLowered xs old c.loop-i.counts c.loop-i.lost) (whole around c.loop-i.i c.loop-i-test.false) c.loop-i.invariant) c.leave.ensures.rest
