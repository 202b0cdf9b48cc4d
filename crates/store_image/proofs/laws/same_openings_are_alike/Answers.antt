use Rattle.store_image.proofs.StoreContents.{same_openings}
use Rattle.store_image.proofs.laws.same_openings_are_alike.Goals as goal

pub returns : goal.returns
returns c = same_openings
