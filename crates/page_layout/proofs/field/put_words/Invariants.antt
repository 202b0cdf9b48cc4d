use Rattle.std.proofs.Common.{◌≡◌, ◌+◌, ◌*◌, ◌++◌, take, drop}
use Rattle.std.specs.List.{flat_map}
use Rattle.page_layout.specs.Fields.{word}
use Rattle.page_layout.proofs.field.put_words.Given as goal

abbrev pub invariant-loop-k : goal.invariant-loop-k
invariant-loop-k l = l.out ≡ take l.at l.fn.out ++ flat_map word (take l.k l.words) ++ drop (l.at + 4 * l.k) l.fn.out
