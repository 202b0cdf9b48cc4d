use Rattle.session_desk.proofs.Verdicts.{sessions-have-no-faults}
use Rattle.session_desk.proofs.laws.sessions_have_no_faults.Goals as goal

pub returns : goal.returns
returns c = sessions-have-no-faults c.refusals_are_of_contents.ensures
