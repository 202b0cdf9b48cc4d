use Rattle.page_layout.proofs.PageLaws.{rows_spelled}
use Rattle.page_layout.proofs.laws.rows_have_one_spelling.Goals as goal

pub returns : goal.returns
returns c = rows_spelled
