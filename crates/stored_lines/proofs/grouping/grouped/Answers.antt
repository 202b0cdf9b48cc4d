use Rattle.stored_lines.proofs.Listed.{groups_start}
use Rattle.stored_lines.proofs.grouping.grouped.Goals as goal

pub loop-i-init : goal.loop-i-init
loop-i-init c = groups_start c.args.minpts c.new-groups.result c.new-groups.ensures
