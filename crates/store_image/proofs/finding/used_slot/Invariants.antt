use Rattle.std.proofs.Common.{◌≡◌, get_or}
use Rattle.store_image.specs.Loading.{used_slots}
use Rattle.store_image.proofs.LoadFinding.{used_at}
use Rattle.store_image.proofs.finding.used_slot.Given as goal

abbrev pub invariant-loop-i : goal.invariant-loop-i
invariant-loop-i l = get_or (used_slots l.numbers) l.place 0 ≡ get_or (used_at l.numbers l.i) l.left 0
