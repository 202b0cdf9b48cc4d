use Rattle.std.proofs.Common.{◌≡◌, ◌++◌, ℕ, take}
use Rattle.std.specs.List.{flat_map}
use Rattle.plain_dbscan.specs.Cases.{growth}
use Rattle.plain_dbscan.specs.Across.{labels_in}
use Rattle.plain_dbscan.proofs.cases.push_insertion.Given as goal

abbrev pub invariant-loop-label : goal.invariant-loop-label
invariant-loop-label l = l.out ≡ l.initial.out ++ flat_map (λ (k : ℕ). growth k (labels_in l.both.items l.before k)) (take l.label-index l.label-items)
