use Rattle.std.proofs.Common.{◌≡◌, ◌++◌}
use Rattle.vec_record.proofs.records.Records.copy.Given as goal

abbrev pub invariant-loop-number : goal.invariant-loop-number
invariant-loop-number l = l.vectors.entries ++ l.number-iterator ≡ l.self-inside.vectors.entries
