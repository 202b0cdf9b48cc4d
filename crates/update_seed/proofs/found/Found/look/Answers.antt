use Rattle.std.proofs.Common.{refl, sym, subst}
use Rattle.update_seed.specs.inside.Found.{IsLooked}
use Rattle.update_seed.proofs.Lists.{next, whole}
use Rattle.update_seed.proofs.Looking.{looked_none, looked_more}
use Rattle.update_seed.proofs.found.Found.look.Goals as goal

pub loop-i-init : goal.loop-i-init
loop-i-init c = looked_none c.args.counts.now c.args.labels.now c.args.core _ _ c.requires.kept refl

pub see-requires : goal.see-requires
see-requires c = record { kept = c.loop-i.invariant.kept; label = sym c.in-Some.ensures.value }

pub loop-i-preserved : goal.loop-i-preserved
loop-i-preserved c =
    subst (λ xs. IsLooked c.args.counts.now c.args.labels.now c.args.core xs c.args.self.now c.see.new.self) (sym (next c.args.near.now c.loop-i.i c.loop-i-test.true))
    (looked_more c.args.counts.now c.args.labels.now c.args.core _ _ c.args.self.now c.loop-i.self c.see.new.self c.loop-i.invariant c.in_ok-see.ensures)

pub returns : goal.returns
returns c =
    subst (λ xs. IsLooked c.args.counts.now c.args.labels.now c.args.core xs c.args.self.now c.loop-i.self) (whole c.args.near.now c.loop-i.i c.loop-i-test.false) c.loop-i.invariant
