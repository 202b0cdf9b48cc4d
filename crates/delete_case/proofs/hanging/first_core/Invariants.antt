use Rattle.std.proofs.Common.{◌≡◌, ℕ, ◌<◌, false, get_or}
use Rattle.update_seed.specs.Books.{core_in}
use Rattle.delete_case.proofs.hanging.first_core.Given as goal

abbrev pub invariant-loop-i : goal.invariant-loop-i
invariant-loop-i l = (k : ℕ) → k < l.i → core_in l.counts (get_or l.numbers k 0) ≡ false
