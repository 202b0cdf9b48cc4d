use Rattle.stored_lines.proofs.Back.{lines_are_lawful}
use Rattle.stored_lines.proofs.laws.lines_are_lawful.Goals as goal

pub returns : goal.returns
returns c = lines_are_lawful
