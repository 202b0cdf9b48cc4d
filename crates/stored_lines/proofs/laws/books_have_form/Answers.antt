use Rattle.stored_lines.proofs.Form.{books_have_form}
use Rattle.stored_lines.proofs.laws.books_have_form.Goals as goal

pub returns : goal.returns
returns c = books_have_form
