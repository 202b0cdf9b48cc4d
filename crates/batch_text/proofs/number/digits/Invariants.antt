use Rattle.std.proofs.Common.{◌≡◌, ◌<◌, ◌^◌, drop}
use Rattle.batch_text.specs.Numbers.{digits_from}
use Rattle.batch_text.proofs.number.digits.Given as goal

abbrev pub invariant-loop-byte : goal.invariant-loop-byte
invariant-loop-byte l = record {
  rest : digits_from l.value (drop l.byte-index l.text) ≡ digits_from 0 l.text;
  small : l.value < 10 ^ l.byte-index;
}
