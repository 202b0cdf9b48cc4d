use Rattle.store_image.proofs.StoreCounts.{loads_count_records}
use Rattle.store_image.proofs.laws.loads_count_records.Goals as goal

pub returns : goal.returns
returns c = loads_count_records
