use Rattle.std.proofs.Common.{◌≡◌, ◌-◌, drop, Some}
use Rattle.csv.specs.Records.{field_count, fields_of}
use Rattle.batch_text.specs.Vectors.{joined, spelled}
use Rattle.batch_text.proofs.fields.spell_vector.Given as goal

abbrev pub invariant-fields : goal.invariant-fields
invariant-fields l = joined (Some l.parts.items) (spelled l.metric (drop l.at (fields_of l.row))) ≡ spelled l.fn.metric (drop 2 (fields_of l.fn.row))

abbrev pub decreases-fields : goal.decreases-fields
decreases-fields l = field_count l.row - l.at
