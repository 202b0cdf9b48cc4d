use Rattle.page_layout.specs.Heads.{values_of}
use Rattle.page_layout.proofs.RowLaws.{IsSoFar}
use Rattle.page_layout.proofs.rows.read_slots.Given as goal

abbrev pub invariant-loop-k : goal.invariant-loop-k
invariant-loop-k l = IsSoFar (values_of l.params) l.page l.k l.rows
