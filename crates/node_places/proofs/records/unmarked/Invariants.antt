use Rattle.std.proofs.Common.{◌≡◌, ◌++◌, drop}
use Rattle.node_places.specs.inside.Marks.{unmarked}
use Rattle.node_places.proofs.records.unmarked.Given as goal

abbrev pub invariant-loop-k : goal.invariant-loop-k
invariant-loop-k l =
    l.new.items ++ unmarked (drop l.k l.marks) (drop l.k l.numbers) ≡ unmarked l.marks l.numbers
