use Rattle.std.proofs.Common.{◌≡◌, ◌++◌, take, map}
use Rattle.plain_dbscan.specs.Cases.{event}
use Rattle.plain_dbscan.proofs.cases.push_decline.Given as goal

abbrev pub invariant-loop-to : goal.invariant-loop-to
invariant-loop-to l = l.out ≡ l.initial.out ++ map (event l.kind l.label) (take l.to-index l.new)
