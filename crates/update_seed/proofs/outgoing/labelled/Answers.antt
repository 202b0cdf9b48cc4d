use Rattle.std.proofs.Common.{get_or, sym, subst}
use Rattle.label_book.specs.Labels.{IsMember}
use Rattle.update_seed.specs.inside.Split.{AreLost, IsPut}
use Rattle.update_seed.proofs.Lists.{next, whole, here_in, not_before}
use Rattle.update_seed.proofs.Leaving.{lost_start, lost_more}
use Rattle.update_seed.proofs.outgoing.labelled.Goals as goal

pub loop-i-init : goal.loop-i-init
loop-i-init c =
    lost_start c.args.labels.now c.args.gone c.put.new.list.items
    (subst (λ xs. IsPut c.args.labels.now c.args.gone xs c.put.new.list.items) c.new-list.ensures.items c.in_ok-put.ensures)

pub loop-i-preserved : goal.loop-i-preserved
loop-i-preserved c =
    let lost = c.args.lost.now in
    let i = c.loop-i.i in
    let b = get_or lost i 0 in
    let here = here_in lost i c.loop-i-test.true in
    subst (λ xs. AreLost c.args.labels.now c.args.gone xs c.put-in-loop-i.new.list.items) (sym (next lost i c.loop-i-test.true))
    (lost_more c.args.labels.now c.args.gone _ b c.loop-i.list.items c.put-in-loop-i.new.list.items c.loop-i.invariant (c.requires.there b here)
    (not_before lost i c.requires.once c.loop-i-test.true) (λ e. c.requires.other (subst (IsMember lost) e here)) c.in_ok-put-2.ensures)

pub returns : goal.returns
returns c =
    subst (λ xs. AreLost c.args.labels.now c.args.gone xs c.loop-i.list.items) (whole c.args.lost.now c.loop-i.i c.loop-i-test.false) c.loop-i.invariant
