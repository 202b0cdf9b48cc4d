use Rattle.site_disk.proofs.Within.{image_within, within_image}
use Rattle.site_disk.proofs.laws.images_stay_within_the_written_ranges.Goals as goal

pub returns : goal.returns
returns c = λ base ranges image are. (image_within base ranges image are, within_image base ranges image are)
