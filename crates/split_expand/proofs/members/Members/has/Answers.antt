use Rattle.std.proofs.Common.{sym}
use Rattle.split_expand.proofs.Remain.{has_core, has_none}
use Rattle.split_expand.proofs.members.Members.has.Goals as goal

pub returns-then-is_core : goal.returns-then-is_core
returns-then-is_core c =
    let m = c.self.inside in
    has_core m.counts.now m.labels.now m.label c.args.number c.args.self.now (sym c.self.view_is) (c.is_core.ensures.0 c.if-is_core.true) c.has_label.result c.has_label.ensures

pub returns-else-is_core : goal.returns-else-is_core
returns-else-is_core c =
    let m = c.self.inside in
    has_none m.counts.now m.labels.now m.label c.args.number c.args.self.now (sym c.self.view_is) c.is_core.result c.is_core.ensures c.if-is_core.false
