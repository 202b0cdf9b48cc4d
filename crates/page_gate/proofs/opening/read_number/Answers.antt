use Rattle.std.proofs.Common.{◌∙◌, arith}
use Rattle.page_gate.proofs.Reading.{read_8}
use Rattle.page_gate.proofs.opening.read_number.Goals as goal

pub returns-clause-told : goal.returns-clause-told
returns-clause-told g c = λ told. record {
  stays = c.in_ok-read.ensures.told told;
  number_is = c.from_le_bytes.ensures ∙ read_8 c.args.at c.read.new.into _ (omega arith) (c.in_ok-read.ensures.read told) (c.requires told);
}
