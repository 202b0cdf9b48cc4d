use Rattle.store_image.proofs.StoreRefusals.{refusals_are_of_contents}
use Rattle.store_image.proofs.laws.refusals_are_of_contents.Goals as goal

pub returns : goal.returns
returns c = refusals_are_of_contents
