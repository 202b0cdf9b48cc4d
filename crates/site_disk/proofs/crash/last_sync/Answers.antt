use Rattle.std.proofs.Common.{◌+◌, ℕ, sym, ◌∙◌, subst, take}
use Rattle.site_disk.specs.Picks.{IsSettled}
use Rattle.site_disk.proofs.Picks.{settled_here, settled_before}
use Rattle.site_disk.proofs.crash.last_sync.Goals.{then-syncs, else-syncs}
use Rattle.site_disk.proofs.crash.last_sync.Goals as goal

pub loop-i-preserved : goal.loop-i-preserved
loop-i-preserved c = elim c.if-syncs.branch [
  | then-syncs w ↦ subst (λ (n : ℕ). IsSettled n (take (c.loop-i.i + 1) c.args.calls.now)) (sym w.settled-is) (settled_here c.args.calls.now c.loop-i.i c.index-calls-i.result c.loop-i-test.true c.index-calls-i.is (sym c.syncs.ensures ∙ w.if-syncs.true))
  | else-syncs w ↦ subst (λ (n : ℕ). IsSettled n (take (c.loop-i.i + 1) c.args.calls.now)) (sym w.settled-is) (settled_before c.args.calls.now c.loop-i.i c.index-calls-i.result c.loop-i-test.true c.index-calls-i.is c.loop-i.settled c.loop-i.invariant (sym c.syncs.ensures ∙ w.if-syncs.false))
]
