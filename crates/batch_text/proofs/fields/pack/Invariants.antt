use Rattle.std.proofs.Common.{◌≡◌, map}
use Rattle.std.specs.List.{range_with_len}
use Rattle.batch_text.specs.Vectors.{packed_byte}
use Rattle.batch_text.proofs.fields.pack.Given as goal

abbrev pub invariant-loop-i : goal.invariant-loop-i
invariant-loop-i l = l.bytes.items ≡ map (packed_byte l.text) (range_with_len 0 l.i)
