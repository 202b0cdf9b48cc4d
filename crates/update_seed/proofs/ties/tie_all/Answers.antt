use Rattle.std.proofs.Common.{sym, subst, get_or}
use Rattle.update_seed.specs.inside.Ties.{AreTied, IsOffered}
use Rattle.update_seed.proofs.Lists.{next, whole}
use Rattle.update_seed.proofs.Tied.{same_itself, same_there}
use Rattle.update_seed.proofs.Nearby.{tied_none, tied_more, offered_none, offered_more, none_named}
use Rattle.update_seed.proofs.ties.tie_all.Goals as goal

pub loop-i-init : goal.loop-i-init
loop-i-init c = record {
  ties = tied_none c.args.labels.now c.args.ties.now c.args.core;
  counts = offered_none c.args.labels.now c.args.ties.now c.args.core _ c.args.counts.now (none_named c.args.labels.now c.args.ties.now);
}

pub tie_near-requires : goal.tie_near-requires
tie_near-requires c =
    let core = c.args.core in
    same_there c.loop-i.ties core core (c.loop-i.invariant.ties.kept core core (same_itself c.args.ties.now core c.requires))

pub loop-i-preserved : goal.loop-i-preserved
loop-i-preserved c =
    let near = c.args.near.now in
    let b = get_or near c.loop-i.i 0 in
    let end = sym (next near c.loop-i.i c.loop-i-test.true) in
    let t = c.loop-i.invariant.ties in
    record {
      ties = subst (λ xs. AreTied c.args.labels.now c.args.core xs c.args.ties.now c.tie_near.new.ties) end
          (tied_more c.args.labels.now c.args.ties.now c.loop-i.ties c.args.core _ t c.tie_near.new.ties b c.in_ok-tie_near.ensures.ties);
      counts = subst (λ xs. IsOffered c.args.labels.now c.args.ties.now c.args.core xs c.args.counts.now c.tie_near.new.counts) end
          (offered_more c.args.labels.now c.args.ties.now c.loop-i.ties c.args.core _ t c.args.counts.now c.loop-i.counts c.tie_near.new.counts b c.loop-i.invariant.counts c.in_ok-tie_near.ensures.counts);
    }

pub returns-clause-ties : goal.returns-clause-ties
returns-clause-ties c =
    subst (λ xs. AreTied c.args.labels.now c.args.core xs c.args.ties.now c.loop-i.ties) (whole c.args.near.now c.loop-i.i c.loop-i-test.false) c.loop-i.invariant.ties

pub returns-clause-counts : goal.returns-clause-counts
returns-clause-counts c =
    subst (λ xs. IsOffered c.args.labels.now c.args.ties.now c.args.core xs c.args.counts.now c.loop-i.counts) (whole c.args.near.now c.loop-i.i c.loop-i-test.false) c.loop-i.invariant.counts
