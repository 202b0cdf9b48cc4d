use Rattle.std.proofs.Common.{ℕ, ◌+◌, get_or, sym, ◌∙◌, ap}
use Rattle.store_image.proofs.LoadFinding.{used_at, used_other, used_behind}
use Rattle.store_image.proofs.finding.used_slot.Goals as goal
use Rattle.store_image.proofs.finding.used_slot.Goals.{then-numbers-i-ne0+else-left-eq0, else-numbers-i-ne0}

pub loop-i-preserved : goal.loop-i-preserved
loop-i-preserved c =
    let numbers = c.args.numbers.now in
    let i = c.loop-i.i in
    elim c.if-numbers-i-ne0.branch [
      | then-numbers-i-ne0+else-left-eq0 w ↦
          c.loop-i.invariant ∙ used_behind numbers i c.loop-i.left c.loop-i-test.true w.if-numbers-i-ne0.true w.if-left-eq0.false
          ∙ ap (λ (k : ℕ). get_or (used_at numbers (i + 1)) k 0) (sym w.left-is)
      | else-numbers-i-ne0 w ↦
          c.loop-i.invariant ∙ used_other numbers i c.loop-i.left c.loop-i-test.true w.if-numbers-i-ne0.false
          ∙ ap (λ (k : ℕ). get_or (used_at numbers (i + 1)) k 0) (sym w.left-is)
    ]
