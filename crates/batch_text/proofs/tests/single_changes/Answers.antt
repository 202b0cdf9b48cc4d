use Rattle.std.proofs.Common.{ap, ◌∙◌}
use Rattle.std.specs.FinMap as map
use Rattle.std.specs.Ordering.{nat_cmp}
use Rattle.vec_record.specs.Held.{Held}
use Rattle.batch_text.proofs.tests.single_changes.Goals as goal

pub apply_change-requires-clause-can : goal.apply_change-requires-clause-can
apply_change-requires-clause-can g c = ap (λ (h : Held). map.get h.vectors 7) c.new-records.ensures ∙ map.get-empty nat_cmp 7
