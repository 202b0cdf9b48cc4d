use Rattle.store_image.proofs.StoreHung.{standing_are_hung}
use Rattle.store_image.proofs.laws.standing_are_hung.Goals as goal

pub returns : goal.returns
returns c = standing_are_hung
