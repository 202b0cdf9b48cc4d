use Rattle.page_layout.proofs.BodyLaws.{bodies_spelled}
use Rattle.page_layout.proofs.laws.bodies_have_one_spelling.Goals as goal

pub returns : goal.returns
returns c = bodies_spelled
