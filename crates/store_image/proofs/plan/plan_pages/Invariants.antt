use Rattle.page_gate.specs.Writes.{pairs}
use Rattle.page_layout.specs.Heads.{values_of}
use Rattle.store_image.proofs.PlanBodies.{Planned}
use Rattle.store_image.proofs.plan.plan_pages.Given as goal

abbrev pub invariant-loop-number : goal.invariant-loop-number
invariant-loop-number g l =
    Planned (values_of l.state.head.params) l.pages.list l.next l.state.records.vectors l.state.clusters l.number l.done (pairs l.writes)
