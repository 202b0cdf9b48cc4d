use Rattle.stored_lines.proofs.Led.{led_start}
use Rattle.stored_lines.proofs.Entered.{ready_at, led_at}
use Rattle.stored_lines.proofs.leading.led.Goals as goal

pub loop-i-init : goal.loop-i-init
loop-i-init c = led_start c.args.minpts c.args.lines.now c.new-labels.result c.new-labels.ensures

pub lead-requires : goal.lead-requires
lead-requires c = ready_at c.args.minpts c.args.lines.now c.loop-i.i _ c.in_ok-groups.groups c.loop-i.labels c.requires c.loop-i-test.true c.in_ok-groups.ensures c.loop-i.invariant

pub loop-i-preserved : goal.loop-i-preserved
loop-i-preserved c =
    led_at c.args.minpts c.args.lines.now c.loop-i.i _ c.in_ok-groups.groups c.loop-i.labels c.lead.new.labels c.requires c.loop-i-test.true c.in_ok-groups.ensures c.loop-i.invariant c.in_ok-lead.ensures
