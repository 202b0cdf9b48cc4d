use Rattle.std.proofs.Common.{◌≡◌, ◌+◌, ◌-◌, arith, refl}
use Rattle.page_gate.specs.Gate.{number_8, part}
use Rattle.page_gate.proofs.gate.number_8.Goals as goal

pub returns : goal.returns
unfolding number_8 part
returns c =
    let eight : c.args.at + 8 - c.args.at ≡ 8 = omega arith in
    rw (c.from_le_bytes.ensures, c.copy_from_slice.ensures.after, eight) refl
