use Rattle.std.proofs.Common.{◌≡◌, ◌+◌, ◌-◌, arith, refl}
use Rattle.page_gate.specs.Gate.{number_4, part}
use Rattle.page_layout.proofs.field.word_at.Goals as goal

pub returns : goal.returns
unfolding number_4 part
returns c =
    let four : c.args.at + 4 - c.args.at ≡ 4 = omega arith in
    rw (c.from_le_bytes.ensures, c.copy_from_slice.ensures.after, four) refl
