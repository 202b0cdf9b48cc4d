use Rattle.std.proofs.Common.{◌≡◌, Some, ◌∙◌, sym}
use Rattle.std.specs.FinMap as map
use Rattle.update_seed.proofs.Looking.{looked_kin, core_told, core_hangs_not, same_option}
use Rattle.update_seed.proofs.found.Found.see.Goals as goal

pub returns-in_ok-add : goal.returns-in_ok-add
returns-in_ok-add c =
    let counts = c.args.counts.now in
    let labels = c.args.labels.now in
    let lost = c.args.lost in
    let core = c.is_core.ensures.0 c.if-is_core.true in
    let label : map.get labels c.args.near ≡ Some lost.label = sym c.label_of.ensures.value ∙ same_option c.label_of.result lost.label (sym c.if-eq.ensures) in
    looked_kin counts labels lost.number (record { label = lost.label; number = c.args.near }) c.args.self.now c.add.new.self c.requires.kept
    (core, (lost.label, (c.requires.label, label))) label
    (core_hangs_not counts lost.number c.args.near (core_told counts c.args.near c.is_core.result c.is_core.ensures ∙ c.if-is_core.true)) c.in_ok-add.ensures
