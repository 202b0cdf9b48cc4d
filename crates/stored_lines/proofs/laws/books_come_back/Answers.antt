use Rattle.stored_lines.proofs.Back.{books_come_back}
use Rattle.stored_lines.proofs.laws.books_come_back.Goals as goal

pub returns : goal.returns
returns c = books_come_back
