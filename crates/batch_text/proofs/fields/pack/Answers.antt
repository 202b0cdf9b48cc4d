use Rattle.std.proofs.Common.{◌≡◌, ◌+◌, ◌/◌, length, map, ap, arith, ◌∙◌}
use Rattle.std.specs.List.{range_with_len}
use Rattle.batch_text.specs.Vectors.{packed_byte}
use Rattle.batch_text.proofs.Places.{packed_further}
use Rattle.batch_text.proofs.fields.pack.Goals as goal

pub loop-i-preserved : goal.loop-i-preserved
loop-i-preserved c = packed_further c.args.text.now c.loop-i.bytes.items c.push.new.self.items c.loop-i.i c.packed_byte.result c.in_ok-push.ensures.items c.packed_byte.ensures c.loop-i.invariant

pub returns : goal.returns
returns c =
    let width : c.loop-i.i ≡ (length c.args.text.now + 7) / 8 = omega arith in
    c.loop-i.invariant ∙ ap (λ n. map (packed_byte c.args.text.now) (range_with_len 0 n)) width
