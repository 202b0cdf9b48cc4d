use Rattle.store_image.proofs.StoreDue.{due_lines_stand}
use Rattle.store_image.proofs.laws.due_lines_stand.Goals as goal

pub returns : goal.returns
returns c = due_lines_stand
