use Rattle.store_image.proofs.StoreContents.{loads_are_stores}
use Rattle.store_image.proofs.laws.loads_are_stores.Goals as goal

pub returns : goal.returns
returns c = loads_are_stores
