use Rattle.std.proofs.Common.{◌∙◌, bit_xor, count_ones, w64, ap, arith}
use Rattle.std.specs.Int.{from_le_bytes}
use Rattle.int_metric.proofs.ByIndex.{bytes_by_index}
use Rattle.int_metric.specs.BitLaws.{bits_small}
use Rattle.int_metric.proofs.Words.{word_apart}
use Rattle.int_metric.proofs.bits.bits_of_word.Goals as goal

pub returns-clause-is : goal.returns-clause-is
returns-clause-is c =
    ap (λ n. count_ones (bit_xor n c.from_le_bytes-2.result)) c.from_le_bytes.ensures
    ∙ (ap (λ n. count_ones (bit_xor (from_le_bytes w64 c.args.x.now) n)) c.from_le_bytes-2.ensures
    ∙ word_apart c.args.x.now c.args.y.now c.told-x c.told-y (bytes_by_index _ c.fits-x) (bytes_by_index _ c.fits-y))

pub returns-clause-small : goal.returns-clause-small
returns-clause-small c =
    let small = bits_small c.args.x.now c.args.y.now in
    omega (arith, returns-clause-is c, small, c.told-x)
