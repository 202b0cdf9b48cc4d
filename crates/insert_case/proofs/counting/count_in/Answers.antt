use Rattle.std.proofs.Common.{◌≡◌, false, true, sym, ◌∙◌}
use Rattle.insert_case.proofs.Raised.{counted_in, last_noted, was_core, was_none}
use Rattle.insert_case.proofs.counting.count_in.Goals as goal
use Rattle.insert_case.proofs.counting.count_in.Goals.{then-is_core+in_ok-push, else-is_core}

pub returns-clause-counts : goal.returns-clause-counts
returns-clause-counts c =
    counted_in c.args.labels.now c.args.number c.args.around.now c.args.counts.now c.raise_all.new.counts c.enter.new.counts c.in_ok-cores.ensures.counts c.requires.absent c.in_ok-enter.ensures

pub returns-clause-cores : goal.returns-clause-cores
returns-clause-cores c =
    let labels = c.args.labels.now in
    let around = c.args.around.now in
    let old = c.args.counts.now in
    let now = c.raise_all.new.counts in
    let new = c.enter.new.counts in
    let cores = c.in_ok-cores.cores in
    let counts = c.in_ok-cores.ensures.counts in
    let last = last_noted labels c.args.number around old now new counts c.requires.absent c.in_ok-enter.ensures in
    elim c.if-is_core.branch [
      | then-is_core+in_ok-push w ↦ last cores c.if-is_core.cores c.in_ok-cores.ensures.cores
          (was_core labels c.args.number around old now new counts c.requires.absent c.in_ok-enter.ensures cores c.if-is_core.cores (c.is_core.ensures.0 w.if-is_core.true) (w.cores-is ∙ w.in_ok-push.ensures.ok))
      | else-is_core w ↦ last cores c.if-is_core.cores c.in_ok-cores.ensures.cores
          (was_none labels c.args.number around old now new counts c.requires.absent c.in_ok-enter.ensures cores c.if-is_core.cores (λ h. let bad : false ≡ true = sym w.if-is_core.false ∙ c.is_core.ensures.1 h in cc) w.cores-is)
    ]
