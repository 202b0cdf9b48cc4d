use Rattle.std.proofs.Common.{◌≡◌, ◌<◌, ℕ, false, get_or, map}
use Rattle.std.specs.Prelude.{is_none}
use Rattle.plain_dbscan.specs.declared.marks.Mark.{Mark}
use Rattle.plain_dbscan.specs.Cases.{mark_at}
use Rattle.plain_dbscan.proofs.cases.find_new_number.Given as goal

abbrev pub invariant-loop-number : goal.invariant-loop-number
invariant-loop-number l = (k : ℕ) → k < l.number-index → is_none (mark_at l.other (get_or (map (λ (m : ℕ × Mark). m.0) l.one) k 0)) ≡ false
