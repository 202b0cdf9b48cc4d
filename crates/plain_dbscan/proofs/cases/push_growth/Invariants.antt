use Rattle.std.proofs.Common.{◌≡◌, ◌++◌, ℕ, take, map}
use Rattle.plain_dbscan.specs.Cases.{event}
use Rattle.plain_dbscan.proofs.cases.push_growth.Given as goal

abbrev pub invariant-loop-from : goal.invariant-loop-from
invariant-loop-from l = l.out ≡ l.initial.out ++ map (λ (o : ℕ). event l.kind o l.label) (take l.from-index l.old)
